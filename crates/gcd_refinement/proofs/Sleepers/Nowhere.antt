-- A block that is not parked, or may wake, sleeps nowhere; and nobody sleeps at the outset.
use Rattle.std.proofs.Common.{◌≡◌, ℕ, suc, ◌+◌, ◌==◌, Bool, true, false, ◌||◌, cond, List, [], ◌∷◌, ◌++◌, length, map, get_or, Some, None, option_map, refl, ap, sym, ◌∙◌}
use Rattle.std.specs.Option.{option_or}
use Rattle.std.proofs.Math.Seq.{drop-nil}
use Rattle.std.proofs.lemmas.Bool.{both_ways, false_from_ne_true, or_left, or_right}
use Rattle.std.proofs.lemmas.Option.{none-some}
use Rattle.gcd_plan.specs.PlanView.{PlanView}
use Rattle.gcd_plan.specs.Validity.{IsPlan}
use Rattle.gcd_plan.specs.declared.numbers.Blk.{Blk}
use Rattle.gcd_plan.specs.declared.numbers.Run.TheVariants.{Block}
use Rattle.gcd_plan.specs.declared.reason.Reason.TheVariants.{Block as EndOf}
use Rattle.gcd_event.specs.declared.event.Event.{Event}
use Rattle.gcd_history.specs.Semas.{first_value, signal_count}
use Rattle.gcd_history.specs.Parked.{awaited, has_come, has_run_out, is_over, may_wake}
use Rattle.gcd_history.specs.Permitted.{IsLawful}
use Rattle.gcd_history.proofs.Waits.Woken.{came}
use Rattle.gcd_lists.specs.ListsView.{list_at, barrier_in, place_from, place_of}
use Rattle.gcd_sync.specs.WaitsView.{reason_at}
use Rattle.gcd_refinement.specs.MachineView.{MachineView, machine_of, is_wakeable_at}
use Rattle.gcd_refinement.specs.Ties.{WaitsAre, WakesAre, WaitersAre}
use Rattle.gcd_refinement.proofs.Step.SemaSleepers.{blocks_at}
use Rattle.gcd_refinement.proofs.Lists.Among.{among}
use Rattle.gcd_refinement.proofs.Sleepers.Callers.{waiter_parked}
use Rattle.gcd_refinement.proofs.Sleepers.Parked.{asleep_parked}
use Rattle.gcd_plan.proofs.Places.{get_or-replicate_same}

-- ## Places

not_in : (b : Blk) (xs : List (Blk × Bool)) → among b (map (λ w. w.0) xs) ≡ false → barrier_in b.0 xs ≡ None
not_in b [] none = refl
not_in b (x ∷ xs) none =
    let here : (x.0.0 == b.0) ≡ false = false_from_ne_true (x.0.0 == b.0) (λ h. both_ways _ none (or_left (x.0.0 == b.0) (among b (map (λ w. w.0) xs)) h)) in
    let rest : among b (map (λ w. w.0) xs) ≡ false = false_from_ne_true (among b (map (λ w. w.0) xs)) (λ h. both_ways _ none (or_right (x.0.0 == b.0) (among b (map (λ w. w.0) xs)) h)) in
    ap (λ u. cond u (Some x.1) (barrier_in b.0 xs)) here ∙ not_in b xs rest

nowhere_in : (node : ℕ) (lists : List (List (Blk × Bool))) (b : ℕ) → ((k : ℕ) → barrier_in b (get_or lists k []) ≡ None) → place_from node lists b ≡ None
nowhere_in node [] b none = refl
nowhere_in node (list ∷ lists) b none =
    ap (λ o. option_or (option_map (λ barrier. (record { 0 = node }, barrier)) o) (place_from (suc node) lists b)) (none 0)
    ∙ nowhere_in (suc node) lists b (λ k. none (suc k))

-- ## Sleepers

-- a block that is not parked sleeps at no object
pub not_asleep : (plan : PlanView) (past : List Event) (v : MachineView) (b : Blk) (s : ℕ) → IsPlan plan → IsLawful plan past → WakesAre plan past v → awaited plan past (Block b) ≡ None → among b (blocks_at v.sleepers s) ≡ false
not_asleep plan past v b s valid lawful ties awake =
    false_from_ne_true (among b (blocks_at v.sleepers s)) (λ h.
    let asleep = asleep_parked plan past b s valid lawful (ap (among b) (sym (ties.of_sema s)) ∙ h) in
    none-some asleep.why (sym awake ∙ asleep.is))

-- the clause `awake` of PlacesAre
pub awake_from : (plan : PlanView) (past : List Event) (v : MachineView) (b : ℕ) → IsPlan plan → IsLawful plan past → WaitsAre plan past v → WakesAre plan past v → reason_at v.waits b ≡ None → place_of v.sleepers b ≡ None
awake_from plan past v b valid lawful waits ties none =
    let blk : Blk = record { 0 = b } in
    nowhere_in 0 v.sleepers.lists b (λ k. not_in blk (list_at v.sleepers k) (not_asleep plan past v blk k valid lawful ties (sym (waits.reasons b) ∙ none)))

-- nor does one that may wake: the clause `called` of PlacesAre
pub called_from : (plan : PlanView) (past : List Event) (v : MachineView) (b : ℕ) → IsPlan plan → IsLawful plan past → WakesAre plan past v → is_wakeable_at v b ≡ true → place_of v.sleepers b ≡ None
called_from plan past v b valid lawful ties may =
    let blk : Blk = record { 0 = b } in
    nowhere_in 0 v.sleepers.lists b (λ k.
    not_in blk (list_at v.sleepers k)
    (false_from_ne_true (among blk (blocks_at v.sleepers k)) (λ h.
    let asleep = asleep_parked plan past blk k valid lawful (ap (among blk) (sym (ties.of_sema k)) ∙ h) in
    both_ways (is_over plan past asleep.why) asleep.waits (came plan past b asleep.why asleep.is (sym (ties.wakeable b) ∙ may)))))

-- ## Who waits for an end

-- a block that is not parked waits for no end
pub patient_from : (plan : PlanView) (past : List Event) (v : MachineView) (b : ℕ) → IsLawful plan past → WaitsAre plan past v → WaitersAre plan past v → reason_at v.waits b ≡ None → place_of v.waiters b ≡ None
patient_from plan past v b lawful waits ties none =
    let blk : Blk = record { 0 = b } in
    nowhere_in 0 v.waiters.lists b (λ k.
    not_in blk (list_at v.waiters k)
    (false_from_ne_true (among blk (map (λ w. w.0) (list_at v.waiters k))) (λ h.
    let waiting = waiter_parked plan past blk (record { 0 = k }) lawful (ap (among blk) (sym (ties.of_block k)) ∙ h) in
    none-some (EndOf (record { 0 = k })) (sym (sym (waits.reasons b) ∙ none) ∙ waiting.is))))

-- nor does one that may wake
pub released_from : (plan : PlanView) (past : List Event) (v : MachineView) (b : ℕ) → IsLawful plan past → WakesAre plan past v → WaitersAre plan past v → is_wakeable_at v b ≡ true → place_of v.waiters b ≡ None
unfolding has_come has_run_out
released_from plan past v b lawful wakes ties may =
    let blk : Blk = record { 0 = b } in
    nowhere_in 0 v.waiters.lists b (λ k.
    not_in blk (list_at v.waiters k)
    (false_from_ne_true (among blk (map (λ w. w.0) (list_at v.waiters k))) (λ h.
    let waiting = waiter_parked plan past blk (record { 0 = k }) lawful (ap (among blk) (sym (ties.of_block k)) ∙ h) in
    both_ways (is_over plan past (EndOf (record { 0 = k }))) (ap (λ u. u || false) waiting.goes) (came plan past b (EndOf (record { 0 = k })) waiting.is (sym (wakes.wakeable b) ∙ may)))))

-- ## The outset

pub wakes_begin : (plan : PlanView) → WakesAre plan [] (machine_of plan)
unfolding may_wake awaited
wakes_begin plan = record {
  wakeable = λ b. get_or-replicate_same (length plan.blocks) b false;
  of_sema = λ s.
      ap (map (λ w. w.0)) (get_or-replicate_same (length plan.objects) s [])
      ∙ ap (λ l. l ++ []) (sym (drop-nil (first_value plan s + signal_count plan [] s)));
}
