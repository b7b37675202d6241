-- The blocks of a strip are submitted by one step: it makes what their submissions, one after the other, change.
use Rattle.std.proofs.Common.{◌≡◌, ℕ, zero, suc, ◌+◌, ◌-◌, ◌<◌, ◌≤◌, ◌==◌, Bool, true, false, cond, List, [], ◌∷◌, ◌++◌, length, get_or, set, map, Option, Some, None, ne_eqb, refl, ap, sym, ◌∙◌, arith}
use Rattle.std.specs.List.{fold, slice_get, range_with_len}
use Rattle.std.specs.Option.{option_map_or}
use Rattle.std.proofs.lemmas.List.{append-nil, append_assoc, length-map, length-set, set-set, set-get_or, get_or-set_same, get_or_read}
use Rattle.std.proofs.lemmas.List.Sums.{fold-append}
use Rattle.std.proofs.lemmas.List.FromFn.{length-range_with_len}
use Rattle.gcd_facts.proofs.Ranges.{range_more}
use Rattle.gcd_plan.specs.PlanView.{StripView}
use Rattle.gcd_plan.specs.Made.{blocks_in, strip_blocks}
use Rattle.gcd_plan.specs.declared.act.Act.TheVariants.{Apply}
use Rattle.gcd_plan.specs.declared.numbers.Blk.{Blk}
use Rattle.gcd_plan.specs.declared.numbers.Obj.{Obj}
use Rattle.gcd_plan.specs.declared.numbers.Run.TheVariants.{Block}
use Rattle.gcd_event.specs.declared.event.Event.TheVariants.{Act as Acted}
use Rattle.gcd_history.specs.declared.submission.Submission.{Submission}
use Rattle.gcd_history.specs.Runs.{act_at}
use Rattle.gcd_history.specs.Submitted.{submission}
use Rattle.gcd_lists.specs.ListsView.{ListsView, list_at, span}
use Rattle.gcd_apply.specs.StripsView.{left_at}
use Rattle.gcd_refinement.specs.MachineView.{MachineView, idle}
use Rattle.gcd_refinement.specs.declared.progress.BlockProgress.{BlockProgress}
use Rattle.gcd_refinement.specs.After.{pushed, noted, marked, after}
use Rattle.gcd_refinement.specs.AfterSleepers.{pushed_on}
use Rattle.gcd_machine.specs.Steps.{acted, act_taken, noted_on, span_submitted, strip_submitted, waited_for_strip, stepped}
use Rattle.gcd_machine.proofs.Steps.Activations.{units, counted, all_submitted}

-- so many submissions on a node, of blocks that follow each other
abbrev pub in_row : Obj → (first count : ℕ) → List Submission
in_row n first count = map (submission n false) (map (λ b. record { 0 = b }) (range_with_len first count))

-- the lists with a span behind all that wait on the node
abbrev behind : ListsView → Obj → (first count : ℕ) → ListsView
behind lists n first count = record lists { lists = set lists.lists n.0 (list_at lists n.0 ++ span first count) }

-- a list with one more, and then the rest
one_more : (lists : ListsView) (n : Obj) (b count : ℕ) → n.0 < length lists.lists → behind (pushed_on lists n (record { 0 = b }) false) n (b + 1) count ≡ behind lists n b (suc count)
one_more lists n b count low =
    let ws = list_at lists n.0 in
    let first : List (Blk × Bool) = ws ++ (record { 0 = b }, false) ∷ [] in
    let made : List (List (Blk × Bool)) → ListsView = λ l. record lists { lists = l } in
    ap (λ xs. made (set (set lists.lists n.0 first) n.0 (xs ++ span (b + 1) count))) (get_or-set_same lists.lists n.0 first [] low)
    ∙ (ap made (set-set lists.lists n.0 first (first ++ span (b + 1) count))
    ∙ ap (λ xs. made (set lists.lists n.0 xs)) (append_assoc ws ((record { 0 = b }, false) ∷ []) (span (b + 1) count)))

lists_row : (lists : ListsView) (n : Obj) (first count : ℕ) → n.0 < length lists.lists → fold pushed lists (in_row n first count) ≡ behind lists n first count
lists_row lists n first zero low =
    let made : List (List (Blk × Bool)) → ListsView = λ l. record lists { lists = l } in
    ap made (sym (set-get_or lists.lists n.0 []) ∙ ap (set lists.lists n.0) (sym (append-nil (list_at lists n.0))))
lists_row lists n first (suc count) low =
    let long = length-set lists.lists n.0 (list_at lists n.0 ++ (record { 0 = first }, false) ∷ []) in
    lists_row (pushed_on lists n (record { 0 = first }) false) n (first + 1) count (omega (arith, low, long))
    ∙ one_more lists n first count low

-- one block more of a row is noted
pub noted_more : (old now : List BlockProgress) (n : Obj) (first b : ℕ) (read : BlockProgress) → first ≤ b → b < length now → read ≡ get_or now b read
    → now ≡ fold (noted_on n) old (range_with_len first (b - first))
    → set now b (record read { node = Some n; barrier = false }) ≡ fold (noted_on n) old (range_with_len first (b + 1 - first))
noted_more old now n first b read from low is so_far =
    let count : b + 1 - first ≡ (b - first) + 1 = omega (arith, from) in
    let last : first + (b - first) ≡ b = omega (arith, from) in
    let row = ap (range_with_len first) count ∙ (range_more first (b - first) ∙ ap (λ k. range_with_len first (b - first) ++ k ∷ []) last) in
    ap (λ (r : BlockProgress). set now b (record r { node = Some n; barrier = false })) (get_or_read now b read low is idle)
    ∙ (ap (λ l. noted_on n l b) so_far
    ∙ (sym (fold-append (noted_on n) old (range_with_len first (b - first)) (b ∷ [])) ∙ sym (ap (fold (noted_on n) old) row)))

blocks_row : (blocks : List BlockProgress) (n : Obj) (first count : ℕ) → fold noted blocks (in_row n first count) ≡ fold (noted_on n) blocks (range_with_len first count)
blocks_row blocks n first zero = refl
blocks_row blocks n first (suc count) = blocks_row (noted_on n blocks first) n (first + 1) count

busy_row : (busy : List Bool) (n : Obj) (first count : ℕ) → fold marked busy (in_row n first count) ≡ cond (count == 0) busy (set busy n.0 true)
busy_row busy n first zero = refl
busy_row busy n first (suc count) =
    let some = ne_eqb (suc count) 0 (λ none. omega (arith, none)) in
    busy_row (set busy n.0 true) n (first + 1) count
    ∙ (ap (cond (count == 0) (set busy n.0 true)) (set-set busy n.0 true true)
    ∙ (elim (count == 0) as (λ t. cond t (set busy n.0 true) (set busy n.0 true) ≡ set busy n.0 true) [ true ↦ refl | false ↦ refl ]
    ∙ sym (ap (λ t. cond t busy (set busy n.0 true)) some)))

row_long : (n : Obj) (first count : ℕ) → length (in_row n first count) ≡ count
row_long n first count =
    length-map (map (λ b. record { 0 = b }) (range_with_len first count)) (submission n false)
    ∙ (length-map (range_with_len first count) (λ b. record { 0 = b }) ∙ length-range_with_len first count)

pub span_is : (m : MachineView) (n : Obj) (first count : ℕ) → n.0 < length m.lists.lists → span_submitted m n first count ≡ all_submitted m (in_row n first count)
span_is m n first count low =
    let lists = lists_row m.lists n first count low in
    let blocks = blocks_row m.blocks n first count in
    let busy = busy_row m.busy n first count in
    let long = row_long n first count in
    rw (lists, blocks, busy, long) refl

-- the blocks of a strip, where the plan has it
pub strip_is : (m : MachineView) (n : Obj) (a : ℕ) → n.0 < length m.lists.lists → strip_submitted m n a ≡ all_submitted m (map (submission n false) (strip_blocks m.plan a))
strip_is m n a low =
    elim (slice_get m.plan.strips a) as (λ (o : Option StripView). option_map_or (λ s. span_submitted m n s.first s.count) o m
    ≡ all_submitted m (map (submission n false) (option_map_or (λ s. blocks_in (record { first = s.first; count = s.count })) o []))) [
      | None ↦ simp units
      | Some s ↦ span_is m n s.first s.count low
    ]

pub apply_stepped : (m : MachineView) (w : ℕ) (b : Blk) (i : ℕ) (q : Obj) (a : ℕ) → q.0 < length m.lists.lists → act_at m.plan (Block b) i ≡ Some (Apply q a)
    → stepped m (Acted w (Block b) i) ≡ after m.plan m (Acted w (Block b) i)
apply_stepped m w b i q a low at =
    ap (λ o. counted m (act_taken m w (Block b) o)) at
    ∙ elim (left_at m.strips a == 0) as (λ t. (left_at m.strips a == 0) ≡ t
    → counted m (strip_submitted (waited_for_strip (acted m (Block b)) w b a) q a) ≡ after m.plan m (Acted w (Block b) i)) [
      | true ↦ λ none.
          ap (counted m) (strip_is (waited_for_strip (acted m (Block b)) w b a) q a (rw none low)) ∙ rw (at, none) (simp units)
      | false ↦ λ some.
          ap (counted m) (strip_is (waited_for_strip (acted m (Block b)) w b a) q a (rw some low)) ∙ rw (at, some) (simp units)
    ] refl
