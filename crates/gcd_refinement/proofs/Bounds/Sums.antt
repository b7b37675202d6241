-- The bounds that are sums: the open runs of all objects, how many blocks are left, and what is pending; and so all bounds.
use Rattle.std.proofs.Common.{◌≡◌, ℕ, zero, suc, ◌+◌, ◌≤◌, ◌==◌, ◌&&◌, Bool, false, not, cond, List, [], ◌∷◌, length, get_or, Option, Some, None, refl, ap, sym, subst, arith, eq-eqb, ne_eqb, option_map, codes, ◌∙◌, ◌++◌, ◌-◌, ◌*◌, ltb, map, filter, true}
use Rattle.std.specs.List.{count_by, sum, sum_by, slice_get, range_with_len, fold}
use Rattle.std.specs.Option.{option_map_or}
use Rattle.std.proofs.lemmas.Bool.{and_parts, leb-true}
use Rattle.std.proofs.lemmas.Option.{same_Some}
use Rattle.std.proofs.lemmas.List.Sums.{sum_by-cons, count_by-le-length, sum_by-append}
use Rattle.std.proofs.lemmas.List.FromFn.{length-range_with_len}
use Rattle.gcd_plan.specs.PlanView.{PlanView, kind_of}
use Rattle.gcd_plan.specs.Validity.{IsPlan, is_act}
use Rattle.gcd_plan.specs.Kinds.{has_kind, is_merge_kind}
use Rattle.gcd_plan.specs.KindValues.{folded}
use Rattle.gcd_plan.specs.declared.act.Act.{Act}
use Rattle.gcd_plan.specs.declared.act.Act.TheVariants.{GroupWaitFor, WaitFor, Merge}
use Rattle.gcd_plan.specs.declared.kind.Kind.{Kind}
use Rattle.gcd_plan.specs.declared.numbers.Obj.{Obj}
use Rattle.gcd_plan.specs.declared.numbers.Run.TheVariants.{Block}
use Rattle.gcd_plan.specs.declared.reason.Reason.TheVariants.{Rank}
use Rattle.gcd_plan.proofs.Folded.{folded_low}
use Rattle.gcd_event.specs.declared.event.Event.{Event}
use Rattle.gcd_event.specs.declared.event.Event.TheVariants.{Act as Acted, Ready, Tick}
use Rattle.gcd_history.specs.Runs.{same_run, open_runs, is_ended, act_at, act_of}
use Rattle.gcd_history.specs.Submitted.{submitted}
use Rattle.gcd_history.specs.Parked.{is_parked}
use Rattle.gcd_history.specs.Due.{limit_after, limit_by, last_limit}
use Rattle.gcd_history.specs.Tree.{node_of_run, is_run_on, open_on}
use Rattle.gcd_history.specs.Permitted.{IsLawful, is_feed}
use Rattle.gcd_history.specs.Sources.{fold_of, has_effect_at, merged_by, input, delivers, new_inputs, pending}
use Rattle.gcd_history.specs.Timers.{now, is_due}
use Rattle.gcd_plan.proofs.Sums.{count_by-cons}
use Rattle.gcd_history.proofs.Sums.{sum_range_le, sum_range-add, sum_range_one, ones}
use Rattle.gcd_history.proofs.Blocks.SubmittedOnce.{is_of, submitted_once, submitted_within, all_counted}
use Rattle.gcd_history.proofs.Permitted.Reasons.{allowed}
use Rattle.gcd_history.proofs.Blocks.SubmittedOnNodes.{recorded_fits}
use Rattle.gcd_history.proofs.Waits.Woken.{given_awaited}
use Rattle.gcd_sync.specs.WaitsView.{reason_at, limit_at}
use Rattle.gcd_source.specs.SourcesView.{pending_at}
use Rattle.gcd_tree.specs.TreeView.{open_on_at}
use Rattle.gcd_refinement.specs.MachineView.{MachineView}
use Rattle.gcd_refinement.specs.Bounds.{IsRank, NumbersAreSmall}
use Rattle.gcd_refinement.proofs.AllTies.{AllTies}
use Rattle.gcd_refinement.proofs.Semas.WaitRooms.{waits_fit}
use Rattle.gcd_refinement.proofs.Bounds.Each.{few_open, most_small, fewer}
use Rattle.gcd_plan.specs.Limits.{max_value, max_time}
use Rattle.gcd_refinement.proofs.Step.Waits.{waits_told}

-- ## Sums over numbers

zeros : (a n : ℕ) → sum_by (λ k. 0) (range_with_len a n) ≡ 0
zeros a zero = refl
zeros a (suc n) = let step = sum_by-cons (λ k. 0) a (range_with_len (a + 1) n) in let rest = zeros (a + 1) n in omega (arith, step, rest)

same_range : (f g : ℕ → ℕ) (a n : ℕ) → ((k : ℕ) → f k ≡ g k) → sum_by f (range_with_len a n) ≤ sum_by g (range_with_len a n)
same_range f g a n same = sum_range_le f g a n (λ k. let s = same k in omega (arith, s))

-- a list's sum, against what each of its places may have
sum_within : (xs : List ℕ) (f : ℕ → ℕ) (a : ℕ) → ((k : ℕ) → get_or xs k 0 ≤ f (a + k)) → sum xs ≤ sum_by f (range_with_len a (length xs))
sum_within [] f a low = omega arith
sum_within (x ∷ xs) f a low =
    let left : sum (x ∷ xs) ≡ x + sum xs = sum_by-cons (λ y. y) x xs in
    let right = sum_by-cons f a (range_with_len (a + 1) (length xs)) in
    let here : x ≤ f a = subst (λ k. x ≤ f k) (omega arith) (low 0) in
    let rest : sum xs ≤ sum_by f (range_with_len (a + 1) (length xs)) = sum_within xs f (a + 1) (λ k. subst (λ j. get_or xs k 0 ≤ f j) (omega arith) (low (suc k))) in
    omega (arith, left, right, here, rest)

-- where each element is counted at one number at most
counted_apart : {X : Type 0} (p : ℕ → X → Bool) (xs : List X) (n : ℕ) → ((x : X) → sum_by (λ k. cond {A = ℕ} (p k x) 1 0) (range_with_len 0 n) ≤ 1) → sum_by (λ k. count_by (p k) xs) (range_with_len 0 n) ≤ length xs
counted_apart p [] n once = let z = zeros 0 n in omega (arith, z)
counted_apart p (x ∷ xs) n once =
    let split = same_range (λ k. count_by (p k) (x ∷ xs)) (λ k. cond {A = ℕ} (p k x) 1 0 + count_by (p k) xs) 0 n (λ k. count_by-cons (p k) x xs) in
    let both = sum_range-add (λ k. cond {A = ℕ} (p k x) 1 0) (λ k. count_by (p k) xs) 0 n in
    let here = once x in
    let rest = counted_apart p xs n once in
    omega (arith, split, both, here, rest)

-- ## Open runs

one_node : (node : Option ℕ) (n : ℕ) → sum_by (λ o. cond {A = ℕ} (option_map_or (λ m. m == o) node false) 1 0) (range_with_len 0 n) ≤ 1
one_node None n = let z = zeros 0 n in omega (arith, z)
one_node (Some m) n =
    sum_range_one (λ o. cond {A = ℕ} (m == o) 1 0) 0 n m 1
    (λ k other. ap (λ v. cond {A = ℕ} v 1 0) (ne_eqb m k (λ same. other (sym same))))
    (let one = ap (λ v. cond {A = ℕ} v 1 0) (eq-eqb m m refl) in omega (arith, one))

few_on : (plan : PlanView) (past : List Event) (n : ℕ) → sum_by (open_on plan past) (range_with_len 0 n) ≤ length past
few_on plan past n =
    let apart = counted_apart (is_run_on plan past) (open_runs past) n (λ run. one_node (node_of_run plan past run) n) in
    let few = few_open past in
    omega (arith, apart, few)

pub runs_small : (plan : PlanView) (past : List Event) (v : MachineView) → AllTies plan past v → sum v.tree.open_on ≤ length past
runs_small plan past v t =
    let each = sum_within v.tree.open_on (open_on plan past) 0 (λ o.
    let is = t.tree.runs o in
    let on : ◌≡◌ {A = ℕ} o (0 + o) = omega arith in
    subst (λ j. open_on_at v.tree o ≤ open_on plan past j) on (omega (arith, is))) in
    let few = few_on plan past (length v.tree.open_on) in
    omega (arith, each, few)

-- ## What is left

pub some_blocks : (plan : PlanView) → IsPlan plan → 1 ≤ length plan.blocks
some_blocks plan valid =
    elim plan.blocks as (λ l. option_map (λ b. b.name) (slice_get l 0) ≡ Some (codes "main") → 1 ≤ length l) [
      | [] ↦ λ k. cc
      | b ∷ bs ↦ λ k. omega arith
    ] valid.main

few_submitted : (plan : PlanView) (past : List Event) → IsPlan plan → IsLawful plan past → length (submitted plan past) ≤ length plan.blocks
few_submitted plan past valid lawful =
    let n = length plan.blocks in
    let some = some_blocks plan valid in
    let all = all_counted (submitted plan past) n (λ k high.
    let w = submitted_within plan past valid lawful k high in
    let z = ap (λ v. cond {A = ℕ} v 1 0) (ne_eqb 0 k (λ same. omega (arith, same, high, some))) in
    omega (arith, w, z)) in
    let once = sum_range_le (λ k. count_by (is_of k) (submitted plan past)) (λ k. 1) 0 n (submitted_once plan past valid lawful) in
    let long = ones 0 n in
    omega (arith, all, once, long)

pub left_small : (plan : PlanView) (past : List Event) (v : MachineView) → IsPlan plan → IsLawful plan past → AllTies plan past v → v.left ≤ length plan.blocks
left_small plan past v valid lawful t =
    let h = t.totals.left in
    let f = count_by-le-length (λ s. not (is_ended past s.blk.0)) (submitted plan past) in
    let few = few_submitted plan past valid lawful in
    omega (arith, h, f, few)

-- ## What is pending

low_fold : (kind : Kind) (a : ℕ) (xs : List ℕ) → fold (folded kind) a xs ≤ a + sum xs
low_fold kind a [] = omega arith
low_fold kind a (x ∷ xs) =
    let rest = low_fold kind (folded kind a x) xs in
    let here = folded_low kind a x in
    let step : sum (x ∷ xs) ≡ x + sum xs = sum_by-cons (λ y. y) x xs in
    omega (arith, rest, here, step)

sum_of_ones : (ys : List ℕ) → sum (map (λ y. 1) ys) ≡ length ys
sum_of_ones [] = refl
sum_of_ones (y ∷ ys) =
    let step : sum (1 ∷ map (λ z. 1) ys) ≡ 1 + sum (map (λ z. 1) ys) = sum_by-cons (λ z. z) 1 (map (λ z. 1) ys) in
    let rest = sum_of_ones ys in
    omega (arith, step, rest)

merge_low : (plan : PlanView) (s : ℕ) (o : Option Act) → ((act : Act) → o ≡ Some act → is_act plan act ≡ true) → sum (merged_by plan s o) ≤ max_value
merge_low plan s (Some (Merge t n)) fine =
    let low = leb-true n max_value (and_parts (has_kind is_merge_kind plan t.0) _ (fine (Merge t n) refl)).1 in
    elim (t.0 == s && has_effect_at plan s n) as (λ u. sum (cond u (n ∷ []) []) ≤ max_value) [ true ↦ omega (arith, low) | false ↦ omega arith ]
merge_low plan s o fine = omega arith

-- an event adds less than 2^31
input_low : (plan : PlanView) (past : List Event) (e : Event) (s : ℕ) → IsPlan plan → IsLawful plan (e ∷ past) → sum (input plan past e s) ≤ max_value
input_low plan past (Ready t n) s valid lawful =
    let low = leb-true n max_value (and_parts (ltb 0 n) _ (and_parts (is_feed plan t.0) _ (allowed plan past (Ready t n) lawful.1).known).1).1 in
    elim (t.0 == s) as (λ u. sum (cond u (n ∷ []) []) ≤ max_value) [ true ↦ omega (arith, low) | false ↦ omega arith ]
input_low plan past (Tick t) s valid lawful =
    let low = leb-true t max_time (and_parts (ltb 0 t) _ (allowed plan past (Tick t) lawful.1).known).1 in
    let times = range_with_len (now past + 1) (t - now past) in
    let long : length times ≡ t - now past = length-range_with_len (now past + 1) (t - now past) in
    let few = fewer (is_due plan past s) times in
    let all = sum_of_ones (filter (is_due plan past s) times) in
    omega (arith, low, long, few, all)
input_low plan past e s valid lawful = merge_low plan s (act_of plan e) (λ act at. recorded_fits plan e act valid at)

inputs_low : (plan : PlanView) (past : List Event) (s : ℕ) → IsPlan plan → IsLawful plan past → sum (new_inputs plan past s) ≤ length past * max_value
inputs_low plan [] s valid lawful = omega arith
inputs_low plan (e ∷ past) s valid lawful =
    let rest = inputs_low plan past s valid lawful.0 in
    let here = input_low plan past e s valid lawful in
    let both : sum (new_inputs plan past s ++ input plan past e s) ≡ sum (new_inputs plan past s) + sum (input plan past e s) = sum_by-append (λ y. y) (new_inputs plan past s) (input plan past e s) in
    elim (delivers s e) as (λ u. sum (cond u [] (new_inputs plan past s ++ input plan past e s)) ≤ suc (length past) * max_value) [
      | true ↦ omega arith
      | false ↦ omega (arith, rest, here, both)
    ]

pending_low : (plan : PlanView) (past : List Event) (s : ℕ) → IsPlan plan → IsLawful plan past → pending plan past s ≤ length past * max_value
pending_low plan past s valid lawful =
    let low = inputs_low plan past s valid lawful in
    elim (kind_of plan s) as (λ o. option_map_or (λ kind. fold_of kind (new_inputs plan past s)) o 0 ≤ length past * max_value) [
      | None ↦ omega arith
      | Some kind ↦ let f = low_fold kind 0 (new_inputs plan past s) in omega (arith, f, low)
    ]

pub pending_small : (plan : PlanView) (past : List Event) (v : MachineView) → IsPlan plan → IsLawful plan past → AllTies plan past v → (s : ℕ) → pending_at v.sources s ≤ length past * max_value
pending_small plan past v valid lawful t s =
    let p = t.sources.pending s in
    let taken = t.sources.taken s in
    let low = pending_low plan past s valid lawful in
    omega (arith, p, taken, low)

-- ## Waits

-- a rank is one of the waits that have begun
ranks_given : (plan : PlanView) (past : List Event) (v : MachineView) (b : ℕ) (s : Obj) (k : ℕ) → AllTies plan past v → reason_at v.waits b ≡ Some (Rank s k) → IsRank v s.0 k
ranks_given plan past v b s k t parked =
    let given = given_awaited plan past (record { 0 = b }) (Rank s k) (sym (t.waits.reasons b) ∙ parked) in
    let high = given.1 in
    let told = waits_told plan past v s.0 t.semas in
    record { low = given.0; high = omega (arith, high, told) }

limit_low : (plan : PlanView) (past : List Event) (act : Option Act) (t : ℕ) → limit_by plan past act ≡ Some t → t ≤ plan.until
limit_low plan past (Some (GroupWaitFor g ms)) t h = let same = same_Some (limit_after plan past ms) t h in omega (arith, same)
limit_low plan past (Some (WaitFor s ms)) t h = let same = same_Some (limit_after plan past ms) t h in omega (arith, same)
limit_low plan past _ t h = cc

last_limit_low : (plan : PlanView) (past : List Event) (b t : ℕ) → last_limit plan past b ≡ Some t → t ≤ plan.until
last_limit_low plan [] b t h = cc
last_limit_low plan (Acted w r i ∷ past) b t h =
    elim (same_run r (Block (record { 0 = b }))) as (λ u. cond u (limit_by plan past (act_at plan r i)) (last_limit plan past b) ≡ Some t → t ≤ plan.until) [
      | true ↦ λ k. limit_low plan past (act_at plan r i) t k
      | false ↦ λ k. last_limit_low plan past b t k
    ] h
last_limit_low plan (e ∷ past) b t h = last_limit_low plan past b t h

-- no limit is past the last due time
limits_low : (plan : PlanView) (past : List Event) (v : MachineView) (b t : ℕ) → AllTies plan past v → limit_at v.waits b ≡ Some t → t ≤ plan.until
limits_low plan past v b t ties told =
    elim (is_parked plan past b) as (λ u. cond u (last_limit plan past b) None ≡ Some t → t ≤ plan.until) [
      | true ↦ λ k. last_limit_low plan past b t k
      | false ↦ λ k. cc
    ] (sym (ties.waits.limits b) ∙ told)

-- ## All bounds

pub numbers_small : (plan : PlanView) (past : List Event) (v : MachineView) → IsPlan plan → IsLawful plan past → AllTies plan past v → NumbersAreSmall plan past v
numbers_small plan past v valid lawful t =
    let m = most_small plan past v lawful t in
    record {
      refs = m.refs;
      holds = m.holds;
      runs = runs_small plan past v t;
      barriers = m.barriers;
      counts = m.counts;
      entered = m.entered;
      signals = m.signals;
      waits = λ s. waits_fit plan past v s valid lawful t.parts t.semas;
      ranks = λ b s k at. ranks_given plan past v b s k t at;
      limits = λ b n at. limits_low plan past v b n t at;
      pending = pending_small plan past v valid lawful t;
      moment = m.moment;
      block_acts = m.block_acts;
      handler_acts = m.handler_acts;
      running = m.running;
      left = left_small plan past v valid lawful t;
      accepted = t.intake.few;
    }
