-- Where blocks wait: the places that the view tells are those of the history.
use Rattle.std.proofs.Common.{◌≡◌, ⊎_elim, ℕ, ◌<◌, ◌≤◌, ◌==◌, Bool, true, false, not, ◌&&◌, cond, List, [], ◌∷◌, length, map, filter, find, Option, Some, None, is_some, option_map, option_and_then, refl, ap, sym, ◌∙◌, arith}
use Rattle.std.specs.List.{count_by}
use Rattle.std.specs.Option.{option_map_or}
use Rattle.std.proofs.Math.ListN.{get_or-eq_default}
use Rattle.std.proofs.lemmas.Bool.{cases_lt, cases_Bool, eqb-true, eq-eqb}
use Rattle.std.proofs.lemmas.Option.{same_Some}
use Rattle.gcd_plan.specs.PlanView.{PlanView}
use Rattle.gcd_plan.specs.Validity.{IsPlan}
use Rattle.gcd_plan.specs.declared.numbers.Blk.{Blk}
use Rattle.gcd_plan.specs.declared.numbers.Obj.{Obj}
use Rattle.gcd_event.specs.declared.event.Event.{Event}
use Rattle.gcd_history.specs.declared.submission.Submission.{Submission}
use Rattle.gcd_history.specs.Runs.{is_started}
use Rattle.gcd_history.specs.Submitted.{submitted, submission_of, notify_blocks, end_notify_blocks}
use Rattle.gcd_history.specs.Permitted.{IsLawful, waits_on}
use Rattle.gcd_history.proofs.Lists.{any_from_find}
use Rattle.gcd_plan.proofs.Sums.{count_by-cons, count_by_some}
use Rattle.gcd_history.proofs.Sums.{term_within}
use Rattle.gcd_history.proofs.Blocks.SubmittedOnce.{is_of, kept_once, submitted_once}
use Rattle.gcd_lists.specs.ListsView.{list_at, barrier_in, place_of}
use Rattle.gcd_lists.proofs.Places.{place_of_is, place_of_none}
use Rattle.gcd_refinement.specs.MachineView.{MachineView}
use Rattle.gcd_refinement.specs.Shape.{PartsFit}
use Rattle.gcd_refinement.specs.Bounds.{place_in, PlacesAre}
use Rattle.gcd_refinement.specs.Ties.{ListsAre, GroupsAre, WaitsAre, WakesAre, WaitersAre, BlockMarksAre, waiter, notify_submission}
use Rattle.gcd_refinement.proofs.Sleepers.Nowhere.{awake_from, called_from, patient_from, released_from}
use Rattle.gcd_plan.specs.Needs.{is_of_block}
use Rattle.gcd_plan.proofs.Needed.{room_low}

-- ## A submitted block waits in no notify list

-- a block that is not counted is not in the list
pub uncounted : (v : MachineView) (b : ℕ) (xs : List (Blk × Bool)) → count_by (is_of b) (map (notify_submission v) xs) ≡ 0 → barrier_in b xs ≡ None
uncounted v b [] none = refl
uncounted v b (x ∷ xs) none =
    let c = count_by-cons (is_of b) (notify_submission v x) (map (notify_submission v) xs) in
    ⊎_elim
    (λ (here : (x.0.0 == b) ≡ true). let one = ap (λ u. cond {A = ℕ} u 1 0) here in absurd (omega (arith, c, one, none)))
    (λ (other : (x.0.0 == b) ≡ false).
    let zero = ap (λ u. cond {A = ℕ} u 1 0) other in
    ap (λ u. cond u (Some x.1) (barrier_in b xs)) other ∙ uncounted v b xs (omega (arith, c, zero, none)))
    (cases_Bool (x.0.0 == b))

pub unregistered_from : (plan : PlanView) (past : List Event) (v : MachineView) (b : ℕ) → IsPlan plan → IsLawful plan past → PartsFit plan v → GroupsAre plan past v → is_some (submission_of plan past b) ≡ true
    → place_of v.groups.notify b ≡ None
unregistered_from plan past v b valid lawful fit groups some =
    let once = kept_once plan past valid lawful b in
    let one = count_by_some (is_of b) (submitted plan past) (any_from_find (is_of b) (submitted plan past) some) in
    place_of_none v.groups.notify b (λ k.
    ⊎_elim
    (λ (low : k < length plan.objects).
    let term = term_within (λ g. count_by (is_of b) (notify_blocks plan past g)) (length plan.objects) k low in
    let same = ap (count_by (is_of b)) (groups.notify k) in
    uncounted v b (list_at v.groups.notify k) (omega (arith, once, one, term, same)))
    (λ (high : length plan.objects ≤ k).
    let long = fit.notify in
    ap (barrier_in b) (get_or-eq_default v.groups.notify.lists [] (omega (arith, high, long))))
    (cases_lt k (length plan.objects)))

pub untold_from : (plan : PlanView) (past : List Event) (v : MachineView) (b : ℕ) → IsPlan plan → IsLawful plan past → PartsFit plan v → BlockMarksAre plan past v → is_some (submission_of plan past b) ≡ true
    → place_of v.marks.notify b ≡ None
untold_from plan past v b valid lawful fit marks some =
    let once = kept_once plan past valid lawful b in
    let one = count_by_some (is_of b) (submitted plan past) (any_from_find (is_of b) (submitted plan past) some) in
    place_of_none v.marks.notify b (λ k.
    ⊎_elim
    (λ (low : k < length plan.blocks).
    let term = term_within (λ c. count_by (is_of b) (end_notify_blocks plan past c)) (length plan.blocks) k low in
    let same = ap (count_by (is_of b)) (marks.notify k) in
    uncounted v b (list_at v.marks.notify k) (omega (arith, once, one, term, same)))
    (λ (high : length plan.blocks ≤ k).
    let long = fit.told in
    let room = room_low is_of_block plan in
    ap (barrier_in b) (get_or-eq_default v.marks.notify.lists [] (omega (arith, high, long, room))))
    (cases_lt k (length plan.blocks)))

-- ## Where a submitted block waits

barrier_found : (b : ℕ) (xs : List Submission) → barrier_in b (map waiter xs) ≡ option_map (λ s. s.barrier) (find (is_of b) xs)
barrier_found b [] = refl
barrier_found b (x ∷ xs) =
    elim (x.blk.0 == b) as (λ u. cond u (Some x.barrier) (barrier_in b (map waiter xs)) ≡ option_map (λ (s : Submission). s.barrier) (cond u (Some x) (find (is_of b) xs))) [
      | true ↦ refl
      | false ↦ barrier_found b xs
    ]

not_found : (b : ℕ) (p : Submission → Bool) (xs : List Submission) → count_by (is_of b) xs ≡ 0 → find (is_of b) (filter p xs) ≡ None
not_found b p [] none = refl
not_found b p (x ∷ xs) none =
    let c = count_by-cons (is_of b) x xs in
    ⊎_elim
    (λ (here : (x.blk.0 == b) ≡ true). let one = ap (λ u. cond {A = ℕ} u 1 0) here in absurd (omega (arith, c, one, none)))
    (λ (other : (x.blk.0 == b) ≡ false).
    let zero = ap (λ u. cond {A = ℕ} u 1 0) other in
    let rest = not_found b p xs (omega (arith, c, zero, none)) in
    elim (p x) as (λ u. find (is_of b) (cond u (x ∷ filter p xs) (filter p xs)) ≡ None) [
      | true ↦ ap (λ u. cond u (Some x) (find (is_of b) (filter p xs))) other ∙ rest
      | false ↦ rest
    ])
    (cases_Bool (x.blk.0 == b))

-- of a list that has it once at most, a block is found among those that pass where it passes
found_among : (b : ℕ) (p : Submission → Bool) (xs : List Submission) → count_by (is_of b) xs ≤ 1 → find (is_of b) (filter p xs) ≡ option_and_then (λ s. cond (p s) (Some s) None) (find (is_of b) xs)
found_among b p [] once = refl
found_among b p (x ∷ xs) once =
    let c = count_by-cons (is_of b) x xs in
    ⊎_elim
    (λ (here : (x.blk.0 == b) ≡ true).
    let one = ap (λ u. cond {A = ℕ} u 1 0) here in
    let none = not_found b p xs (omega (arith, c, one, once)) in
    (elim (p x) as (λ u. find (is_of b) (cond u (x ∷ filter p xs) (filter p xs)) ≡ cond u (Some x) None) [
      | true ↦ ap (λ u. cond u (Some x) (find (is_of b) (filter p xs))) here
      | false ↦ none
    ])
    ∙ ap (λ u. option_and_then (λ s. cond (p s) (Some s) None) (cond u (Some x) (find (is_of b) xs))) (sym here))
    (λ (other : (x.blk.0 == b) ≡ false).
    let zero = ap (λ u. cond {A = ℕ} u 1 0) other in
    let rest = found_among b p xs (omega (arith, c, zero, once)) in
    (elim (p x) as (λ u. find (is_of b) (cond u (x ∷ filter p xs) (filter p xs)) ≡ find (is_of b) (filter p xs)) [
      | true ↦ ap (λ u. cond u (Some x) (find (is_of b) (filter p xs))) other
      | false ↦ refl
    ])
    ∙ (rest ∙ ap (λ u. option_and_then (λ s. cond (p s) (Some s) None) (cond u (Some x) (find (is_of b) xs))) (sym other)))
    (cases_Bool (x.blk.0 == b))

-- what the list of node n has of the submission
abbrev in_list : Bool → ℕ → Submission → Option Bool
in_list started n s = option_map (λ (t : Submission). t.barrier) (cond (option_map_or (λ o. o.0 == n) s.node false && not started) (Some s) None)

abbrev placed : Bool → Submission → Option (Obj × Bool)
placed started s = cond started None (option_map (λ n. (n, s.barrier)) s.node)

abbrev paired : ℕ → Bool → Option (Obj × Bool)
paired n barrier = Some (record { 0 = n }, barrier)

here_only : (started : Bool) (n : ℕ) (s : Submission) (barrier : Bool) → in_list started n s ≡ Some barrier → placed started s ≡ Some (record { 0 = n }, barrier)
here_only started n s barrier found =
    elim s.node as (λ o. option_map (λ (t : Submission). t.barrier) (cond (option_map_or (λ q. q.0 == n) o false && not started) (Some s) None) ≡ Some barrier → cond {A = Option (Obj × Bool)} started None (option_map (λ q. (q, s.barrier)) o) ≡ Some (record { 0 = n }, barrier)) [
      | None ↦ λ h. cc
      | Some q ↦ λ h. at q (q.0 == n) refl started h
    ] found
  where
    at : (q : Obj) (u : Bool) → (q.0 == n) ≡ u → (t : Bool) → option_map (λ (x : Submission). x.barrier) (cond (u && not t) (Some s) None) ≡ Some barrier → cond {A = Option (Obj × Bool)} t None (Some (q, s.barrier)) ≡ Some (record { 0 = n }, barrier)
    at q true same true h = cc
    at q true same false h = ap (λ (k : ℕ). paired k s.barrier) (eqb-true q.0 n same) ∙ ap (paired n) (same_Some s.barrier barrier h)
    at q false other t h = cc

only_here : (started : Bool) (n : ℕ) (s : Submission) (barrier : Bool) → placed started s ≡ Some (record { 0 = n }, barrier) → in_list started n s ≡ Some barrier
only_here true n s barrier is = cc
only_here false n s barrier is =
    elim s.node as (λ o. option_map {T = Obj} {U = Obj × Bool} (λ q. (q, s.barrier)) o ≡ Some (record { 0 = n }, barrier) → option_map (λ (t : Submission). t.barrier) (cond (option_map_or (λ q. q.0 == n) o false && true) (Some s) None) ≡ Some barrier) [
      | None ↦ λ h. cc
      | Some q ↦ λ h.
          let same = same_Some (q, s.barrier) (record { 0 = n }, barrier) h in
          ap (λ u. option_map (λ (t : Submission). t.barrier) (cond (u && true) (Some s) None)) (eq-eqb q.0 n (ap (λ x. x.0.0) same))
          ∙ ap (λ x. Some x.1) same
    ] is

-- what the list of node n has of the block
listed : (plan : PlanView) (past : List Event) (v : MachineView) (b n : ℕ) → IsPlan plan → IsLawful plan past → ListsAre plan past v
    → barrier_in b (list_at v.lists n) ≡ option_map (λ s. s.barrier) (option_and_then (λ s. cond (waits_on past n s) (Some s) None) (submission_of plan past b))
listed plan past v b n valid lawful lists =
    ap (barrier_in b) (lists.waiting n)
    ∙ (barrier_found b (filter (waits_on past n) (submitted plan past))
    ∙ ap (option_map (λ (s : Submission). s.barrier)) (found_among b (waits_on past n) (submitted plan past) (submitted_once plan past valid lawful b)))

pub waiting_from : (plan : PlanView) (past : List Event) (v : MachineView) (b : ℕ) → IsPlan plan → IsLawful plan past → ListsAre plan past v → place_of v.lists b ≡ option_and_then (place_in past) (submission_of plan past b)
waiting_from plan past v b valid lawful lists =
    place_of_is v.lists b (option_and_then (place_in past) (submission_of plan past b))
    (λ n barrier found. only n barrier (submission_of plan past b) (sym (listed plan past v b n valid lawful lists) ∙ found))
    (λ n barrier is. listed plan past v b n valid lawful lists ∙ there n barrier (submission_of plan past b) is)
  where
    only : (n : ℕ) (barrier : Bool) (o : Option Submission) → option_map (λ s. s.barrier) (option_and_then (λ s. cond (waits_on past n s) (Some s) None) o) ≡ Some barrier → option_and_then (place_in past) o ≡ Some (record { 0 = n }, barrier)
    only n barrier None h = cc
    only n barrier (Some s) h = here_only (is_started past s.blk.0) n s barrier h

    there : (n : ℕ) (barrier : Bool) (o : Option Submission) → option_and_then (place_in past) o ≡ Some (record { 0 = n }, barrier) → option_map (λ s. s.barrier) (option_and_then (λ s. cond (waits_on past n s) (Some s) None) o) ≡ Some barrier
    there n barrier None h = cc
    there n barrier (Some s) h = only_here (is_started past s.blk.0) n s barrier h

-- ## All places

pub places_are : (plan : PlanView) (past : List Event) (v : MachineView) → IsPlan plan → IsLawful plan past → PartsFit plan v → ListsAre plan past v → GroupsAre plan past v → WaitsAre plan past v → WakesAre plan past v → WaitersAre plan past v → BlockMarksAre plan past v
    → PlacesAre plan past v
places_are plan past v valid lawful fit lists groups waits wakes waiters marks = record {
  waiting = λ b. waiting_from plan past v b valid lawful lists;
  awake = λ b none. awake_from plan past v b valid lawful waits wakes none;
  called = λ b may. called_from plan past v b valid lawful wakes may;
  unregistered = λ b some. unregistered_from plan past v b valid lawful fit groups some;
  patient = λ b none. patient_from plan past v b lawful waits waiters none;
  released = λ b may. released_from plan past v b lawful wakes waiters may;
  untold = λ b some. untold_from plan past v b valid lawful fit marks some;
}
