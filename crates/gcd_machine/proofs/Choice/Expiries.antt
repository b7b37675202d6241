-- The Expire that worker 0 records, as what a machine keeps tells it, is the definition's.
use Rattle.std.proofs.Common.{◌≡◌, ⊎_elim, ℕ, ◌-◌, ◌<◌, ◌≤◌, Bool, true, false, not, ◌&&◌, ◌||◌, nat_le, cond, List, [], ◌∷◌, length, map, Option, Some, None, is_none, find, option_map, get_or, refl, ap, sym, ◌∙◌, arith}
use Rattle.std.specs.List.{range_with_len}
use Rattle.std.specs.Option.{option_map_or}
use Rattle.std.specs.Cmp.Derive.{one_truth}
use Rattle.std.proofs.Math.Path.{fun_ext}
use Rattle.std.proofs.lemmas.Bool.{and_from, and_parts, both_ways, cases_lt, false_from_ne_true, lt-ltb, not-true}
use Rattle.std.proofs.lemmas.List.{get_or_past}
use Rattle.gcd_plan.specs.PlanView.{PlanView}
use Rattle.gcd_plan.specs.declared.numbers.Blk.{Blk}
use Rattle.gcd_plan.specs.declared.why.Why.TheVariants.{Over, NoSuch, NotParked, NotDue, Came}
use Rattle.gcd_plan.proofs.Options.{none_from_is_none}
use Rattle.gcd_event.specs.declared.event.Event.{Event}
use Rattle.gcd_event.specs.declared.event.Event.TheVariants.{Expire}
use Rattle.gcd_history.specs.Parked.{is_parked, may_wake}
use Rattle.gcd_history.specs.Timers.{now}
use Rattle.gcd_history.specs.Due.{last_limit, is_at_limit}
use Rattle.gcd_history.specs.Permitted.{permitted, why, is_halted, has_block, reasons}
use Rattle.gcd_history.specs.Choice.{expire_event, expiry}
use Rattle.gcd_history.proofs.Permitted.Quiet.{none_first}
use Rattle.gcd_history.proofs.Permitted.Reasons.{allowed, at_expire}
use Rattle.gcd_sets.proofs.Ranges.{found_none}
use Rattle.gcd_refinement.specs.MachineView.{MachineView, is_ripe_at}
use Rattle.gcd_refinement.specs.Stands.{IsTied}
use Rattle.gcd_machine.specs.Chosen.{expiry_by, next_set}
use Rattle.gcd_machine.proofs.Choice.Idle.{found_map}
use Rattle.gcd_machine.proofs.Reasons.First.{of_plan}
use Rattle.gcd_machine.proofs.Views.Workers.{over_is}

-- a block with a limit that has come is parked
parked_at_limit : (plan : PlanView) (past : List Event) (b : ℕ) → is_at_limit plan past b ≡ true → is_parked plan past b ≡ true
unfolding is_at_limit
parked_at_limit plan past b at =
    elim (is_parked plan past b) as (λ v. is_parked plan past b ≡ v → option_map_or (λ end. nat_le end (now past)) (cond v (last_limit plan past b) None) false ≡ true → v ≡ true) [
      | true ↦ λ is h. refl
      | false ↦ λ is h. cc
    ] refl at

-- where the test says so the Expire is permitted
expires : (plan : PlanView) (past : List Event) (b : Blk) → is_halted past ≡ false → b.0 < length plan.blocks → (is_at_limit plan past b.0 && not (may_wake plan past b.0)) ≡ true → why plan past (Expire b) ≡ None
expires plan past b on low may =
    let parts = and_parts (is_at_limit plan past b.0) (not (may_wake plan past b.0)) may in
    let waits = not-true (may_wake plan past b.0) parts.1 in
    let parked = parked_at_limit plan past b.0 parts.0 in
    none_first Over (is_halted past) ((NoSuch, not (has_block plan b.0)) ∷ reasons plan past (Expire b)) on
    (none_first NoSuch (not (has_block plan b.0)) (reasons plan past (Expire b)) (ap not (lt-ltb b.0 (length plan.blocks) low))
    (none_first NotParked (not (is_parked plan past b.0)) ((NotDue, not (is_at_limit plan past b.0)) ∷ (Came, may_wake plan past b.0) ∷ []) (ap not parked)
    (none_first NotDue (not (is_at_limit plan past b.0)) ((Came, may_wake plan past b.0) ∷ []) (ap not parts.0)
    (none_first Came (may_wake plan past b.0) [] waits refl))))

-- a flag that is set is one of the list
set_within : (flags : List Bool) (i : ℕ) → get_or flags i false ≡ true → i < length flags
set_within flags i set =
    ⊎_elim
    (λ (low : i < length flags). low)
    (λ (high : length flags ≤ i). absurd (both_ways (get_or flags i false) (get_or_past flags i false high) set))
    (cases_lt i (length flags))

pub expires_is : (m : MachineView) (past : List Event) (b : ℕ) → IsTied m.plan past m → is_halted past ≡ false → permitted m.plan past (expire_event b) ≡ is_ripe_at m b
expires_is m past b tied on =
    let ripe = tied.limits.ripe b in
    one_truth (permitted m.plan past (expire_event b)) (is_ripe_at m b)
    (λ may.
    let facts = at_expire m.plan past (record { 0 = b }) (none_from_is_none (why m.plan past (expire_event b)) may) in
    ripe ∙ and_from (is_at_limit m.plan past b) (not (may_wake m.plan past b)) facts.at_limit (ap not facts.not_over))
    (λ set.
    let low = set_within m.ripe b set in
    let long = tied.own.ripe in
    ap is_none (expires m.plan past (record { 0 = b }) on (omega (arith, low, long)) (sym ripe ∙ set)))

-- ## The first of them

nothing_passes : {X : Type 0} (p : X → Bool) (xs : List X) → ((x : X) → p x ≡ false) → find p xs ≡ None
nothing_passes p [] none = refl
nothing_passes p (x ∷ xs) none = ap (λ v. cond v (Some x) (find p xs)) (none x) ∙ nothing_passes p xs none

-- after the end of the run none is permitted
none_when_over : (plan : PlanView) (past : List Event) → is_halted past ≡ true → expiry plan past ≡ None
none_when_over plan past over =
    nothing_passes (permitted plan past) (map expire_event (range_with_len 0 (length plan.blocks)))
    (λ e. false_from_ne_true (permitted plan past e) (λ may. both_ways (is_halted past) (allowed plan past e (none_from_is_none (why plan past e) may)).goes_on over))

going_expiry_is : (m : MachineView) (past : List Event) → IsTied m.plan past m → is_halted past ≡ false → expiry m.plan past ≡ option_map expire_event (next_set m.ripe 0)
going_expiry_is m past tied on =
    let ripe_long = tied.own.ripe in
    let long : length m.plan.blocks ≡ length m.ripe - 0 = omega (arith, ripe_long) in
    found_map (permitted m.plan past) expire_event (range_with_len 0 (length m.plan.blocks))
    ∙ (ap (λ test. option_map expire_event (find test (range_with_len 0 (length m.plan.blocks)))) (fun_ext (λ b. expires_is m past b tied on))
    ∙ ap (λ n. option_map expire_event (find (is_ripe_at m) (range_with_len 0 n))) long)

by_end : (over : Bool) (now all : Option Event) → (over ≡ true → all ≡ None) → (over ≡ false → all ≡ now) → cond over None now ≡ all
by_end true now all ended going = sym (ended refl)
by_end false now all ended going = sym (going refl)

own_plan_expiry_is : (m : MachineView) (past : List Event) → IsTied m.plan past m → expiry_by m ≡ expiry m.plan past
own_plan_expiry_is m past tied =
    let over = over_is m.plan past m tied.totals in
    by_end (m.misused || m.halted) (option_map expire_event (next_set m.ripe 0)) (expiry m.plan past)
    (λ ended. none_when_over m.plan past (sym over ∙ ended))
    (λ on. going_expiry_is m past tied (sym over ∙ on))

-- what worker 0 records where a wait may expire, as what a machine keeps tells it
pub expiry_is : (plan : PlanView) (past : List Event) (m : MachineView) → IsTied plan past m → expiry_by m ≡ expiry plan past
expiry_is plan past m tied = own_plan_expiry_is m past (of_plan plan past m tied) ∙ ap (λ p. expiry p past) tied.same_plan

-- where no flag is set there is none
pub none_from_unripe : (plan : PlanView) (past : List Event) (m : MachineView) → IsTied plan past m → ((b : ℕ) → is_ripe_at m b ≡ false) → expiry plan past ≡ None
none_from_unripe plan past m tied none =
    sym (expiry_is plan past m tied)
    ∙ (ap (λ o. cond (m.misused || m.halted) None (option_map expire_event o)) (nothing_passes (is_ripe_at m) (range_with_len 0 (length m.ripe - 0)) none)
    ∙ either_way (m.misused || m.halted))
  where
    either_way : (over : Bool) → cond {A = Option Event} over None None ≡ None
    either_way true = refl
    either_way false = refl

-- and where there is none, and the run is not over, no flag is set
pub unripe_from_none : (plan : PlanView) (past : List Event) (m : MachineView) → IsTied plan past m → is_halted past ≡ false → expiry plan past ≡ None
    → (b : ℕ) → is_ripe_at m b ≡ false
unripe_from_none plan past m tied on none b =
    let going = over_is plan past m tied.totals ∙ on in
    let is = sym (ap (λ over. cond over None (option_map expire_event (next_set m.ripe 0))) going) ∙ (expiry_is plan past m tied ∙ none) in
    ⊎_elim
    (λ (low : b < length m.ripe). found_none (is_ripe_at m) 0 (length m.ripe - 0) (unmapped (next_set m.ripe 0) is) b (omega arith) (omega (arith, low)))
    (λ (high : length m.ripe ≤ b). get_or_past m.ripe b false high)
    (cases_lt b (length m.ripe))
  where
    unmapped : (o : Option ℕ) → option_map expire_event o ≡ None → o ≡ None
    unmapped None h = refl
    unmapped (Some n) h = cc
