-- What an event submits or registers waits nowhere before it; and how many blocks wait at a group.
use Rattle.std.proofs.Common.{◌≡◌, ⊎_elim, ℕ, zero, suc, ◌+◌, ◌<◌, ◌≤◌, ◌==◌, ltb, Bool, true, false, cond, List, [], ◌∷◌, ◌++◌, length, map, Option, Some, None, is_some, option_and_then, refl, ap, ◌∙◌, arith, eq-eqb, ne_eqb}
use Rattle.std.specs.List.{count_by, sum_by, list_all, range_with_len, slice_get}
use Rattle.std.specs.Option.{option_map_or}
use Rattle.std.proofs.Math.ListN.{get_or-eq_default}
use Rattle.std.proofs.lemmas.Bool.{cases_lt, cases_eq, and_parts, and_from, ltb-true, lt-ltb, both_ways}
use Rattle.std.proofs.lemmas.List.{length-map, get_or_past}
use Rattle.std.proofs.lemmas.List.Folds.{list_all-append}
use Rattle.gcd_plan.specs.PlanView.{PlanView, StripView, cancel_block}
use Rattle.gcd_plan.specs.Made.{blocks_in, strip_span}
use Rattle.gcd_plan.specs.Kinds.{has_kind, is_group_kind, is_queue}
use Rattle.gcd_plan.specs.Validity.{IsPlan, is_declared}
use Rattle.gcd_plan.specs.declared.act.Act.{Act}
use Rattle.gcd_plan.specs.declared.act.Act.TheVariants.{Notify, Apply, NotifyBlock}
use Rattle.gcd_plan.specs.declared.numbers.Blk.{Blk}
use Rattle.gcd_plan.specs.declared.numbers.Obj.{Obj}
use Rattle.gcd_plan.proofs.Within.{declared_within, has_object}
use Rattle.gcd_event.specs.declared.event.Event.{Event}
use Rattle.gcd_history.specs.declared.submission.Submission.{Submission}
use Rattle.gcd_history.specs.Runs.{act_of, is_ended}
use Rattle.gcd_history.specs.Groups.{count}
use Rattle.gcd_history.specs.Submitted.{submission, on_node, submitted_by, accepted_by, cancels, at_cancel, is_cancelled, registered, notify_blocks, registered_at_end, end_notify_blocks, new_submissions, submitted, submission_of}
use Rattle.gcd_history.specs.Permitted.{IsLawful}
use Rattle.gcd_history.proofs.Lists.{none_found}
use Rattle.gcd_history.proofs.MadeBlocks.Spans.{has_number}
use Rattle.gcd_plan.proofs.Sums.{count_by-cons, count_by-append}
use Rattle.gcd_history.proofs.Sums.{sum_range_le, sum_range_less, ones, term_within}
use Rattle.gcd_history.proofs.Blocks.SubmittedOnce.{is_of, waiting, end_waiting, at_groups, at_blocks, new_parts, strip_count, kept_once, all_counted}
use Rattle.gcd_history.proofs.Blocks.SubmittedOnNodes.{recorded_fits}
use Rattle.gcd_lists.specs.ListsView.{list_at, barrier_in, place_of}
use Rattle.gcd_lists.proofs.Places.{place_of_none}
use Rattle.gcd_refinement.specs.MachineView.{MachineView}
use Rattle.gcd_refinement.specs.Bounds.{place_in}
use Rattle.gcd_refinement.specs.Ties.{notify_submission}
use Rattle.gcd_refinement.specs.Stands.{IsTied}
use Rattle.gcd_plan.specs.Needs.{is_of_block}
use Rattle.gcd_plan.proofs.Needed.{room_low}
use Rattle.gcd_refinement.proofs.Lists.Places.{uncounted}

-- ## What is submitted once

-- a block that the event submits was not submitted before
pub unsubmitted : (plan : PlanView) (past : List Event) (e : Event) (b : ℕ) → IsPlan plan → IsLawful plan (e ∷ past) → 1 ≤ count_by (is_of b) (new_submissions plan past e) → submission_of plan past b ≡ None
unsubmitted plan past e b valid lawful now =
    let once = kept_once plan (e ∷ past) valid lawful b in
    let split = count_by-append (is_of b) (submitted plan past) (new_submissions plan past e) in
    none_found (is_of b) (submitted plan past) (omega (arith, once, split, now))

one_of : (n : Obj) (b : Blk) (barrier : Bool) → count_by (is_of b.0) (on_node n b barrier) ≡ 1
one_of n b barrier = ap (λ t. 0 + cond {A = ℕ} t 1 0) (eq-eqb b.0 b.0 refl)

-- what its act submits itself, what it accepts, and what a first cancellation submits
pub by_act : (plan : PlanView) (past : List Event) (e : Event) (n : Obj) (b : Blk) (barrier : Bool) → submitted_by plan (act_of plan e) ≡ on_node n b barrier → 1 ≤ count_by (is_of b.0) (new_submissions plan past e)
by_act plan past e n b barrier is =
    let one = ap (count_by (is_of b.0)) is ∙ one_of n b barrier in
    let parts = new_parts plan past e b.0 in
    omega (arith, one, parts)

pub by_accept : (plan : PlanView) (past : List Event) (e : Event) (n : Obj) (b : Blk) → accepted_by plan e ≡ on_node n b false → 1 ≤ count_by (is_of b.0) (new_submissions plan past e)
by_accept plan past e n b is =
    let one = ap (count_by (is_of b.0)) is ∙ one_of n b false in
    let parts = new_parts plan past e b.0 in
    omega (arith, one, parts)

pub by_cancel : (plan : PlanView) (past : List Event) (e : Event) (s : Obj) (b : Blk) → cancels plan e ≡ Some s → is_cancelled plan past s.0 ≡ false → cancel_block plan s.0 ≡ Some b → 1 ≤ count_by (is_of b.0) (new_submissions plan past e)
by_cancel plan past e s b now first block =
    let is : at_cancel plan past (cancels plan e) ≡ on_node s b false =
    ap (at_cancel plan past) now
    ∙ (ap (λ t. cond t [] (option_map_or (λ c. on_node s c false) (cancel_block plan s.0) [])) first ∙ ap (λ o. option_map_or (λ c. on_node s c false) o []) block) in
    let one = ap (count_by (is_of b.0)) is ∙ one_of s b false in
    let parts = new_parts plan past e b.0 in
    omega (arith, one, parts)

-- a number within a row of blocks is counted there
counted_in_row : (b first count : ℕ) → first ≤ b → b < first + count → 1 ≤ count_by (has_number b) (map (λ k. record { 0 = k }) (range_with_len first count))
counted_in_row b first zero low high = absurd (omega (arith, low, high))
counted_in_row b first (suc count) low high =
    let rest : List Blk = map (λ k. record { 0 = k }) (range_with_len (first + 1) count) in
    let split = count_by-cons (has_number b) (record { 0 = first }) rest in
    ⊎_elim
    (λ (here : first ≡ b). let one = ap (λ t. cond {A = ℕ} t 1 0) (eq-eqb first b here) in omega (arith, split, one))
    (λ (other : first ≡ b → ⊥).
    let later = counted_in_row b (first + 1) count (let more : first < b = omega (arith, low, other) in omega (arith, more)) (omega (arith, high)) in
    omega (arith, split, later))
    (cases_eq first b)

-- what an apply submits
pub by_strip : (plan : PlanView) (past : List Event) (e : Event) (q : Obj) (a : ℕ) (s : StripView) (b : ℕ) → act_of plan e ≡ Some (Apply q a) → slice_get plan.strips a ≡ Some s → s.first ≤ b → b < s.first + s.count
    → 1 ≤ count_by (is_of b) (new_submissions plan past e)
by_strip plan past e q a s b at of low high =
    let row : List Blk = map (λ k. record { 0 = k }) (range_with_len s.first s.count) in
    let is : submitted_by plan (act_of plan e) ≡ map (submission q false) row =
    ap (submitted_by plan) at ∙ ap (λ o. map (submission q false) (option_map_or (λ (s : StripView). blocks_in (strip_span s)) o [])) of in
    let one = ap (count_by (is_of b)) is ∙ strip_count b q row in
    let some = counted_in_row b s.first s.count low high in
    let parts = new_parts plan past e b in
    omega (arith, one, some, parts)

-- a block that the event registers was neither submitted nor registered before
pub record IsNew (plan : PlanView) (past : List Event) (b : ℕ) : Type 0 where
  pub submitted_none : count_by (is_of b) (submitted plan past) ≡ 0
  pub waiting_none : waiting plan past b ≡ 0
  pub end_waiting_none : end_waiting plan past b ≡ 0

is_new : (plan : PlanView) (past : List Event) (e : Event) (b : ℕ) → IsPlan plan → IsLawful plan (e ∷ past)
    → 1 ≤ sum_by (λ g. count_by (is_of b) (registered g (act_of plan e))) (range_with_len 0 (length plan.objects)) + sum_by (λ c. count_by (is_of b) (registered_at_end c (act_of plan e))) (range_with_len 0 (length plan.blocks))
    → IsNew plan past b
is_new plan past e b valid lawful some =
    let groups = at_groups plan past e b in
    let blocks = at_blocks plan past e b in
    let new = new_parts plan past e b in
    let split = count_by-append (is_of b) (submitted plan past) (new_submissions plan past e) in
    let once = kept_once plan (e ∷ past) valid lawful b in
    record {
      submitted_none = omega (arith, some, groups, blocks, new, split, once);
      waiting_none = omega (arith, some, groups, blocks, new, split, once);
      end_waiting_none = omega (arith, some, groups, blocks, new, split, once);
    }

pub by_notify : (plan : PlanView) (past : List Event) (e : Event) (g q : Obj) (b : Blk) → IsPlan plan → IsLawful plan (e ∷ past) → act_of plan e ≡ Some (Notify g q b) → IsNew plan past b.0
by_notify plan past e g q b valid lawful at =
    let n = length plan.objects in
    let low = has_object is_group_kind plan g.0 (and_parts (has_kind is_group_kind plan g.0) _ (recorded_fits plan e (Notify g q b) valid at)).0 in
    let here : count_by (is_of b.0) (registered g.0 (act_of plan e)) ≡ 1 =
    ap (λ o. count_by (is_of b.0) (registered g.0 o)) at ∙ (ap (λ t. count_by (is_of b.0) (cond t (on_node q b false) [])) (eq-eqb g.0 g.0 refl) ∙ one_of q b false) in
    let some = sum_range_less (λ k. 0) (λ k. count_by (is_of b.0) (registered k (act_of plan e))) 0 n g.0 1 (λ k. omega arith) (omega (arith, here)) (omega arith) (omega (arith, low)) in
    is_new plan past e b.0 valid lawful (omega (arith, some))

pub by_end_notify : (plan : PlanView) (past : List Event) (e : Event) (c : Blk) (q : Obj) (d : Blk) → IsPlan plan → IsLawful plan (e ∷ past) → act_of plan e ≡ Some (NotifyBlock c q d) → IsNew plan past d.0
by_end_notify plan past e c q d valid lawful at =
    let n = length plan.blocks in
    let low = declared_within plan c (and_parts (is_declared plan c) _ (recorded_fits plan e (NotifyBlock c q d) valid at)).0 in
    let here : count_by (is_of d.0) (registered_at_end c.0 (act_of plan e)) ≡ 1 =
    ap (λ o. count_by (is_of d.0) (registered_at_end c.0 o)) at ∙ (ap (λ t. count_by (is_of d.0) (cond t (on_node q d false) [])) (eq-eqb c.0 c.0 refl) ∙ one_of q d false) in
    let some = sum_range_less (λ k. 0) (λ k. count_by (is_of d.0) (registered_at_end k (act_of plan e))) 0 n c.0 1 (λ k. omega arith) (omega (arith, here)) (omega arith) (omega (arith, low)) in
    is_new plan past e d.0 valid lawful (omega (arith, some))

-- ## How many wait at a group

-- the block is one of the plan
abbrev of_plan : PlanView → Submission → Bool
of_plan plan s = ltb s.blk.0 (length plan.blocks)

registered_of_plan : (plan : PlanView) (g : ℕ) (act : Option Act) → ((h q : Obj) (b : Blk) → act ≡ Some (Notify h q b) → b.0 < length plan.blocks) → list_all (of_plan plan) (registered g act) ≡ true
registered_of_plan plan g (Some (Notify h q b)) low =
    let one = and_from (of_plan plan (record { blk = b; node = Some q; barrier = false })) true (lt-ltb b.0 (length plan.blocks) (low h q b refl)) refl in
    elim (h.0 == g) as (λ t. list_all (of_plan plan) (cond t (on_node q b false) []) ≡ true) [ true ↦ one | false ↦ refl ]
registered_of_plan plan g _ low = refl

notify_of_plan : (plan : PlanView) (past : List Event) (g : ℕ) → IsPlan plan → list_all (of_plan plan) (notify_blocks plan past g) ≡ true
notify_of_plan plan [] g valid = refl
notify_of_plan plan (e ∷ past) g valid =
    let new = registered_of_plan plan g (act_of plan e) (λ h q b at.
    let fits = (and_parts (has_kind is_group_kind plan h.0) _ (recorded_fits plan e (Notify h q b) valid at)).1 in
    declared_within plan b (and_parts (is_queue plan q.0) _ fits).1) in
    elim (count plan (e ∷ past) g == 0) as (λ t. list_all (of_plan plan) (cond t [] (notify_blocks plan past g ++ registered g (act_of plan e))) ≡ true) [
      | true ↦ refl
      | false ↦ rw (list_all-append, notify_of_plan plan past g valid, new) refl
    ]

-- a block beyond the plan's is not counted
beyond : (plan : PlanView) (xs : List Submission) (k : ℕ) → list_all (of_plan plan) xs ≡ true → length plan.blocks ≤ k → count_by (is_of k) xs ≡ 0
beyond plan [] k all high = refl
beyond plan (x ∷ xs) k all high =
    let parts = and_parts (of_plan plan x) (list_all (of_plan plan) xs) all in
    let low = ltb-true x.blk.0 (length plan.blocks) parts.0 in
    let c = count_by-cons (is_of k) x xs in
    let rest = beyond plan xs k parts.1 high in
    let other = ap (λ t. cond {A = ℕ} t 1 0) (ne_eqb x.blk.0 k (λ same. omega (arith, same, low, high))) in
    omega (arith, c, rest, other)

few_notified : (plan : PlanView) (past : List Event) (g : ℕ) → IsPlan plan → IsLawful plan past → g < length plan.objects → length (notify_blocks plan past g) ≤ length plan.blocks
few_notified plan past g valid lawful low =
    let n = length plan.blocks in
    let all = all_counted (notify_blocks plan past g) n (λ k high. beyond plan (notify_blocks plan past g) k (notify_of_plan plan past g valid) high) in
    let once = sum_range_le (λ k. count_by (is_of k) (notify_blocks plan past g)) (λ k. 1) 0 n (λ k.
    let kept = kept_once plan past valid lawful k in
    let term = term_within (λ h. count_by (is_of k) (notify_blocks plan past h)) (length plan.objects) g low in
    omega (arith, kept, term)) in
    let long = ones 0 n in
    omega (arith, all, once, long)

-- ## How many wait for the end of a block

told_of_plan : (plan : PlanView) (c : ℕ) (act : Option Act) → ((k : Blk) (q : Obj) (d : Blk) → act ≡ Some (NotifyBlock k q d) → d.0 < length plan.blocks) → list_all (of_plan plan) (registered_at_end c act) ≡ true
told_of_plan plan c (Some (NotifyBlock k q d)) low =
    let one = and_from (of_plan plan (record { blk = d; node = Some q; barrier = false })) true (lt-ltb d.0 (length plan.blocks) (low k q d refl)) refl in
    elim (k.0 == c) as (λ t. list_all (of_plan plan) (cond t (on_node q d false) []) ≡ true) [ true ↦ one | false ↦ refl ]
told_of_plan plan c _ low = refl

end_notify_of_plan : (plan : PlanView) (past : List Event) (c : ℕ) → IsPlan plan → list_all (of_plan plan) (end_notify_blocks plan past c) ≡ true
end_notify_of_plan plan [] c valid = refl
end_notify_of_plan plan (e ∷ past) c valid =
    let new = told_of_plan plan c (act_of plan e) (λ k q d at.
    let fits = (and_parts (is_declared plan k) _ (recorded_fits plan e (NotifyBlock k q d) valid at)).1 in
    declared_within plan d (and_parts (is_queue plan q.0) _ fits).1) in
    elim (is_ended (e ∷ past) c) as (λ t. list_all (of_plan plan) (cond t [] (end_notify_blocks plan past c ++ registered_at_end c (act_of plan e))) ≡ true) [
      | true ↦ refl
      | false ↦ rw (list_all-append, end_notify_of_plan plan past c valid, new) refl
    ]

few_told : (plan : PlanView) (past : List Event) (c : ℕ) → IsPlan plan → IsLawful plan past → c < length plan.blocks → length (end_notify_blocks plan past c) ≤ length plan.blocks
few_told plan past c valid lawful low =
    let n = length plan.blocks in
    let all = all_counted (end_notify_blocks plan past c) n (λ k high. beyond plan (end_notify_blocks plan past c) k (end_notify_of_plan plan past c valid) high) in
    let once = sum_range_le (λ k. count_by (is_of k) (end_notify_blocks plan past c)) (λ k. 1) 0 n (λ k.
    let kept = kept_once plan past valid lawful k in
    let term = term_within (λ h. count_by (is_of k) (end_notify_blocks plan past h)) n c low in
    omega (arith, kept, term)) in
    let long = ones 0 n in
    omega (arith, all, once, long)

-- ## In the machine

module _ (past : List Event) (m : MachineView) (t : IsTied m.plan past m) where
  -- what is not submitted waits on no node
  pub nowhere : (b : ℕ) → submission_of m.plan past b ≡ None → place_of m.lists b ≡ None
  nowhere b none = t.places.waiting b ∙ ap (option_and_then (place_in past)) none

  -- what waits at a group is not submitted, and so waits on no node
  pub notified_nowhere : (b : ℕ) → is_some (place_of m.groups.notify b) ≡ true → place_of m.lists b ≡ None
  notified_nowhere b waits =
      elim (submission_of m.plan past b) as (λ o. submission_of m.plan past b ≡ o → place_of m.lists b ≡ None) [
        | None ↦ λ none. nowhere b none
        | Some s ↦ λ some. absurd (both_ways (is_some (place_of m.groups.notify b)) (ap is_some (t.places.unregistered b (ap is_some some))) waits)
      ] refl

  -- what waits for the end of a block is not submitted, and so waits on no node
  pub told_nowhere : (b : ℕ) → is_some (place_of m.marks.notify b) ≡ true → place_of m.lists b ≡ None
  told_nowhere b waits =
      elim (submission_of m.plan past b) as (λ o. submission_of m.plan past b ≡ o → place_of m.lists b ≡ None) [
        | None ↦ λ none. nowhere b none
        | Some s ↦ λ some. absurd (both_ways (is_some (place_of m.marks.notify b)) (ap is_some (t.places.untold b (ap is_some some))) waits)
      ] refl

  -- what waits at no group of the plan waits at none
  at_no_group : (b : ℕ) → waiting m.plan past b ≡ 0 → place_of m.groups.notify b ≡ None
  at_no_group b none =
      place_of_none m.groups.notify b (λ k.
      ⊎_elim
      (λ (low : k < length m.plan.objects).
      let term = term_within (λ g. count_by (is_of b) (notify_blocks m.plan past g)) (length m.plan.objects) k low in
      let same = ap (count_by (is_of b)) (t.groups.notify k) in
      uncounted m b (list_at m.groups.notify k) (omega (arith, none, term, same)))
      (λ (high : length m.plan.objects ≤ k).
      let long = t.parts.notify in
      ap (barrier_in b) (get_or-eq_default m.groups.notify.lists [] (omega (arith, high, long))))
      (cases_lt k (length m.plan.objects)))

  -- and so of the ends of blocks
  for_no_end : (b : ℕ) → end_waiting m.plan past b ≡ 0 → place_of m.marks.notify b ≡ None
  for_no_end b none =
      place_of_none m.marks.notify b (λ k.
      ⊎_elim
      (λ (low : k < length m.plan.blocks).
      let term = term_within (λ c. count_by (is_of b) (end_notify_blocks m.plan past c)) (length m.plan.blocks) k low in
      let same = ap (count_by (is_of b)) (t.block_marks.notify k) in
      uncounted m b (list_at m.marks.notify k) (omega (arith, none, term, same)))
      (λ (high : length m.plan.blocks ≤ k).
      let long = t.parts.told in
      let few = room_low is_of_block m.plan in
      ap (barrier_in b) (get_or-eq_default m.marks.notify.lists [] (omega (arith, high, long, few))))
      (cases_lt k (length m.plan.blocks)))

  -- a new block waits at no group, and for no end
  pub of_no_group : (b : ℕ) → IsNew m.plan past b → place_of m.groups.notify b ≡ None
  of_no_group b new = at_no_group b new.waiting_none

  pub of_no_block : (b : ℕ) → IsNew m.plan past b → place_of m.marks.notify b ≡ None
  of_no_block b new = for_no_end b new.end_waiting_none

  -- a block waits at a group or for an end, and not for both
  pub waits_apart : (b : ℕ) → is_some (place_of m.marks.notify b) ≡ true → place_of m.groups.notify b ≡ None
  waits_apart b waits =
      ⊎_elim
      (λ (none : end_waiting m.plan past b ≡ 0). absurd (both_ways (is_some (place_of m.marks.notify b)) (ap is_some (for_no_end b none)) waits))
      (λ (some : end_waiting m.plan past b ≡ 0 → ⊥). let kept = kept_once m.plan past t.valid t.lawful b in at_no_group b (omega (arith, kept, some)))
      (cases_eq (end_waiting m.plan past b) 0)

  pub new_nowhere : (b : ℕ) → IsNew m.plan past b → place_of m.lists b ≡ None
  new_nowhere b new = nowhere b (none_found (is_of b) (submitted m.plan past) new.submitted_none)

  -- at a group wait no more blocks than the plan has
  pub few_waiting : (g : ℕ) → g < length m.plan.objects → length (list_at m.groups.notify g) ≤ length m.plan.blocks
  few_waiting g low =
      let few = few_notified m.plan past g t.valid t.lawful low in
      let same = ap length (t.groups.notify g) in
      let long = length-map (list_at m.groups.notify g) (notify_submission m) in
      omega (arith, few, same, long)

  -- and no more for the end of a block
  pub few_ending : (c : ℕ) → length (list_at m.marks.notify c) ≤ length m.plan.blocks
  few_ending c =
      ⊎_elim
      (λ (low : c < length m.plan.blocks).
      let few = few_told m.plan past c t.valid t.lawful low in
      let same = ap length (t.block_marks.notify c) in
      let long = length-map (list_at m.marks.notify c) (notify_submission m) in
      omega (arith, few, same, long))
      (λ (high : length m.plan.blocks ≤ c).
      let long = t.parts.told in
      let few = room_low is_of_block m.plan in
      let none = ap length (get_or_past m.marks.notify.lists c [] (omega (arith, high, long, few))) in
      omega (arith, none))
      (cases_lt c (length m.plan.blocks))
