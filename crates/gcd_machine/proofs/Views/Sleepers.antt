-- Where a parked block sleeps: at the semaphore or group for which it waits, so long as its wait is not over.
use Rattle.std.proofs.Common.{◌≡◌, ⊎_elim, ℕ, zero, suc, ◌==◌, Bool, true, false, not, ◌&&◌, ◌||◌, cond, List, [], ◌∷◌, map, get_or, Some, None, is_some, refl, ap, sym, ◌∙◌, subst}
use Rattle.std.specs.List.{list_any}
use Rattle.std.specs.Option.{option_map, option_or}
use Rattle.std.proofs.lemmas.Bool.{both_ways, or_cases, or_left, or_right}
use Rattle.std.proofs.lemmas.List.Folds.{list_any-append}
use Rattle.std.proofs.lemmas.Option.{same_Some}
use Rattle.gcd_plan.specs.PlanView.{PlanView}
use Rattle.gcd_plan.specs.declared.numbers.Blk.{Blk}
use Rattle.gcd_plan.specs.declared.numbers.Obj.{Obj}
use Rattle.gcd_plan.specs.declared.numbers.Run.TheVariants.{Block}
use Rattle.gcd_plan.specs.declared.reason.Reason.{Reason}
use Rattle.gcd_plan.specs.declared.reason.Reason.TheVariants.{Block as EndOf, Group as Empty, Strip, Rank}
use Rattle.gcd_event.specs.declared.event.Event.{Event}
use Rattle.gcd_history.specs.Expired.{has_expired}
use Rattle.gcd_history.specs.Groups.{is_empty_above}
use Rattle.gcd_history.specs.Parked.{awaited, has_come, has_run_out, is_over}
use Rattle.gcd_lists.specs.ListsView.{barrier_in, list_at, place_from, place_of}
use Rattle.gcd_lists.proofs.Places.{in_list_of_place}
use Rattle.gcd_refinement.specs.MachineView.{MachineView}
use Rattle.gcd_refinement.specs.Sleepers.{sema_sleepers, group_sleepers}
use Rattle.gcd_refinement.specs.AfterSleepers.{bed_of}
use Rattle.gcd_refinement.specs.Stands.{IsTied}
use Rattle.gcd_refinement.proofs.Semas.Ranks.{sema_sleeper_parked, sleeps_at_sema}
use Rattle.gcd_refinement.proofs.Groups.Sleepers.{sleeper_parked, sleeps_from}

-- ## Lists

-- a block is in a list where it waits there
listed_is : (b : ℕ) (ws : List (Blk × Bool)) → list_any (λ c. c.0 == b) (map (λ w. w.0) ws) ≡ is_some (barrier_in b ws)
listed_is b [] = refl
listed_is b (w ∷ ws) =
    elim (w.0.0 == b) as (λ v. (v || list_any (λ c. c.0 == b) (map (λ w. w.0) ws)) ≡ is_some (cond v (Some w.1) (barrier_in b ws))) [
      | true ↦ refl
      | false ↦ listed_is b ws
    ]

-- a block that waits nowhere is in no list
in_none : (node : ℕ) (lists : List (List (Blk × Bool))) (b k : ℕ) → place_from node lists b ≡ None → barrier_in b (get_or lists k []) ≡ None
in_none node [] b k none = refl
in_none node (list ∷ lists) b k none =
    elim (barrier_in b list) as (λ o. barrier_in b list ≡ o → option_or (option_map (λ barrier. (record { 0 = node }, barrier)) o) (place_from (suc node) lists b) ≡ None → barrier_in b (get_or (list ∷ lists) k []) ≡ None) [
      | None ↦ λ here rest. at k here (λ j. in_none (suc node) lists b j rest)
      | Some barrier ↦ λ here no. cc
    ] refl none
  where
    at : (k : ℕ) → barrier_in b list ≡ None → ((j : ℕ) → barrier_in b (get_or lists j []) ≡ None) → barrier_in b (get_or (list ∷ lists) k []) ≡ None
    at zero here later = here
    at (suc j) here later = later j

-- ## Sleepers

not_empty_yet : (out empty : Bool) → ((not out && empty) || out) ≡ false → (empty ≡ false) × (out ≡ false)
not_empty_yet true empty h = cc
not_empty_yet false true h = cc
not_empty_yet false false h = (refl, refl)

-- who is parked, and whose wait is not over, sleeps there
asleep_there : (plan : PlanView) (past : List Event) (v : MachineView) (b : Blk) (why : Reason) (o : Obj) → IsTied plan past v → awaited plan past (Block b) ≡ Some why → is_over plan past why ≡ false → bed_of (Some why) ≡ Some o
    → (list_any (λ c. c.0 == b.0) (sema_sleepers plan past o.0) || list_any (λ c. c.0 == b.0) (group_sleepers plan past o.0)) ≡ true
unfolding has_come has_run_out
asleep_there plan past v b (EndOf c) o t is waits bed = cc
asleep_there plan past v b (Empty g p) o t is waits bed =
    let parts = not_empty_yet (has_expired past p) (is_empty_above plan past g.0 p) waits in
    subst (λ (n : Obj). (list_any (λ c. c.0 == b.0) (sema_sleepers plan past n.0) || list_any (λ c. c.0 == b.0) (group_sleepers plan past n.0)) ≡ true) (same_Some g o bed)
    (or_right (list_any (λ c. c.0 == b.0) (sema_sleepers plan past g.0)) (list_any (λ c. c.0 == b.0) (group_sleepers plan past g.0)) (sleeps_from plan past b g p is parts.0 parts.1))
asleep_there plan past v b (Strip a) o t is waits bed = cc
asleep_there plan past v b (Rank s k) o t is waits bed =
    subst (λ (n : Obj). (list_any (λ c. c.0 == b.0) (sema_sleepers plan past n.0) || list_any (λ c. c.0 == b.0) (group_sleepers plan past n.0)) ≡ true) (same_Some s o bed)
    (or_left (list_any (λ c. c.0 == b.0) (sema_sleepers plan past s.0)) (list_any (λ c. c.0 == b.0) (group_sleepers plan past s.0)) (sleeps_at_sema plan past b s k t.valid is waits))

-- who sleeps at an object waits for it
waits_there : (plan : PlanView) (past : List Event) (v : MachineView) (b : Blk) (why : Reason) (o : Obj) → IsTied plan past v → awaited plan past (Block b) ≡ Some why
    → (list_any (λ c. c.0 == b.0) (sema_sleepers plan past o.0) || list_any (λ c. c.0 == b.0) (group_sleepers plan past o.0)) ≡ true → bed_of (Some why) ≡ Some o
waits_there plan past v b why o t is any =
    ⊎_elim
    (λ at_sema. let s = sema_sleeper_parked plan past b o t.valid t.lawful at_sema in ap bed_of (sym is ∙ s.is))
    (λ at_group. let s = sleeper_parked plan past b o t.lawful at_group in ap bed_of (sym is ∙ s.is))
    (or_cases (list_any (λ c. c.0 == b.0) (sema_sleepers plan past o.0)) (list_any (λ c. c.0 == b.0) (group_sleepers plan past o.0)) any)

-- by the view
asleep_is : (plan : PlanView) (past : List Event) (v : MachineView) (b : Blk) (n : ℕ) → IsTied plan past v
    → is_some (barrier_in b.0 (list_at v.sleepers n)) ≡ (list_any (λ c. c.0 == b.0) (sema_sleepers plan past n) || list_any (λ c. c.0 == b.0) (group_sleepers plan past n))
asleep_is plan past v b n t =
    sym (listed_is b.0 (list_at v.sleepers n))
    ∙ (ap (list_any (λ c. c.0 == b.0)) (t.wakes.of_sema n)
    ∙ list_any-append (λ c. c.0 == b.0) (sema_sleepers plan past n) (group_sleepers plan past n))

-- a parked block whose wait is not over sleeps where it waits, and nowhere else
pub sleeps_in : (plan : PlanView) (past : List Event) (v : MachineView) (b : Blk) (why : Reason) → IsTied plan past v → awaited plan past (Block b) ≡ Some why → is_over plan past why ≡ false
    → option_map (λ at. at.0) (place_of v.sleepers b.0) ≡ bed_of (Some why)
sleeps_in plan past v b why t is waits =
    elim (place_of v.sleepers b.0) as (λ p. place_of v.sleepers b.0 ≡ p → option_map (λ at. at.0) p ≡ bed_of (Some why)) [
      | None ↦ λ nowhere.
          elim (bed_of (Some why)) as (λ o. bed_of (Some why) ≡ o → None ≡ o) [
            | None ↦ λ none. refl
            | Some o ↦ λ bed.
                let there = asleep_is plan past v b o.0 t ∙ asleep_there plan past v b why o t is waits bed in
                absurd (both_ways (is_some (barrier_in b.0 (list_at v.sleepers o.0))) (ap is_some (in_none 0 v.sleepers.lists b.0 o.0 nowhere)) there)
          ] refl
      | Some at ↦ λ there.
          let listed = ap is_some (in_list_of_place v.sleepers b.0 at.0 at.1 there) in
          sym (waits_there plan past v b why at.0 t is (sym (asleep_is plan past v b at.0.0 t) ∙ listed))
    ] refl
