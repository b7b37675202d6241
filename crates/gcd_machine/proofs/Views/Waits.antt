-- Which parked blocks may go on, and when time may move, as what a machine keeps tells it.
use Rattle.std.proofs.Common.{◌≡◌, ⊎_elim, ℕ, ◌+◌, ◌-◌, ◌<◌, ◌≤◌, ◌==◌, nat_le, nat_lt, false, not, ◌&&◌, ◌||◌, Bool, true, cond, List, [], ◌∷◌, take, count_by, Option, Some, None, is_some, is_none, refl, ap, sym, ◌∙◌, arith}
use Rattle.std.specs.List.{slice_index_or, list_all}
use Rattle.std.specs.Option.{option_map_or}
use Rattle.std.proofs.lemmas.Bool.{cases_eq, cases_lt, eq-eqb, ne_eqb, lt-ltb, ltb-true, false_from_ne_true, or_left, or_right}
use Rattle.std.proofs.lemmas.List.{take-map}
use Rattle.gcd_plan.specs.PlanView.{PlanView}
use Rattle.gcd_plan.specs.Made.{strip_blocks}
use Rattle.gcd_plan.specs.declared.numbers.Blk.{Blk}
use Rattle.gcd_plan.specs.declared.numbers.Run.TheVariants.{Block}
use Rattle.gcd_plan.specs.declared.reason.Reason.{Reason}
use Rattle.gcd_plan.specs.declared.reason.Reason.TheVariants.{Block as EndOf, Group as Empty, Strip, Rank}
use Rattle.gcd_event.specs.declared.event.Event.{Event}
use Rattle.gcd_history.specs.Runs.{is_ended}
use Rattle.gcd_history.specs.Expired.{has_expired}
use Rattle.gcd_history.specs.Groups.{is_empty_above}
use Rattle.gcd_history.specs.Semas.{waits_on, unexpired, is_expired_wait, passes}
use Rattle.gcd_history.specs.Parked.{awaited, has_come, has_run_out, is_over, is_parked, may_wake}
use Rattle.gcd_history.specs.Timers.{now}
use Rattle.gcd_history.specs.Due.{limit, is_at_limit, next_due, may_tick}
use Rattle.gcd_history.specs.Sources.{pending, is_pending}
use Rattle.gcd_plan.proofs.Mapped.{get_or-mapped}
use Rattle.gcd_plan.proofs.Sums.{count_by-map, count_by-cons}
use Rattle.gcd_sema.specs.SemasView.{expiries_at, is_expired_at, is_passed_at}
use Rattle.gcd_sync.specs.WaitsView.{reason_at, has_come_in, has_expired_at}
use Rattle.gcd_source.specs.SourcesView.{pending_at, is_cancelled_at}
use Rattle.gcd_timer.specs.TimersView.{due_count_at}
use Rattle.gcd_refinement.specs.MachineView.{MachineView, handler_at}
use Rattle.gcd_refinement.specs.Stands.{IsTied}
use Rattle.gcd_refinement.specs.Ties.{SourcesAre}
use Rattle.gcd_refinement.specs.After.{pending_in}
use Rattle.gcd_refinement.proofs.Groups.Sleepers.{parked_since}
use Rattle.gcd_refinement.proofs.Limits.NextDue.{next_due_is}
use Rattle.gcd_refinement.proofs.Step.Asleep.{first_is}
use Rattle.gcd_machine.specs.Judged.{has_pending_at, is_at_limit_at, is_pending_at, may_tick_at, may_wake_at}

-- ## Parked blocks

-- the waits on a semaphore, by rank: which have expired, and which pass
pub expired_is : (plan : PlanView) (past : List Event) (v : MachineView) (s k : ℕ) → IsTied plan past v → is_expired_at v.semas s k ≡ is_expired_wait plan past s k
expired_is plan past v s k tied =
    ap (λ l. slice_index_or l (k - 1) false) (tied.semas.waits s) ∙ get_or-mapped (has_expired past) (waits_on plan past s) (k - 1) false

pub passed_is : (plan : PlanView) (past : List Event) (v : MachineView) (s k : ℕ) → IsTied plan past v → is_passed_at v.semas s k ≡ passes plan past s k
passed_is plan past v s k tied =
    let expired = expired_is plan past v s k tied in
    let first = first_is plan v s tied.parts in
    let signals = tied.semas.signals s in
    let left : count_by not (take k (expiries_at v.semas s)) ≡ unexpired past (take k (waits_on plan past s)) =
    ap (λ l. count_by not (take k l)) (tied.semas.waits s)
    ∙ (ap (count_by not) (take-map (has_expired past) k (waits_on plan past s))
    ∙ count_by-map not (has_expired past) (take k (waits_on plan past s))) in
    rw (expired, left, first, signals) refl

-- none is counted that fails a test exactly where all pass it
pub none_left : {X : Type 0} (p : X → Bool) (xs : List X) → (count_by (λ x. not (p x)) xs == 0) ≡ list_all p xs
none_left p [] = refl
none_left p (x ∷ xs) =
    let split = count_by-cons (λ y. not (p y)) x xs in
    elim (p x) as (λ v. p x ≡ v → (count_by (λ y. not (p y)) (x ∷ xs) == 0) ≡ (v && list_all p xs)) [
      | true ↦ λ passes.
          let here : ◌≡◌ {A = ℕ} (cond (not (p x)) 1 0) 0 = ap (λ v. cond (not v) 1 0) passes in
          let same : count_by (λ y. not (p y)) (x ∷ xs) ≡ count_by (λ y. not (p y)) xs = omega (arith, split, here) in
          ap (λ n. n == 0) same ∙ none_left p xs
      | false ↦ λ fails.
          let here : ◌≡◌ {A = ℕ} (cond (not (p x)) 1 0) 1 = ap (λ v. cond (not v) 1 0) fails in
          ne_eqb (count_by (λ y. not (p y)) (x ∷ xs)) 0 (λ none. omega (arith, split, here, none))
    ] refl

-- what a block is parked for has come, or its wait has expired
empty_or_expired : (empty out : Bool) → (empty || out) ≡ ((not out && empty) || out)
empty_or_expired true true = refl
empty_or_expired true false = refl
empty_or_expired false true = refl
empty_or_expired false false = refl

over_in : (plan : PlanView) (past : List Event) (v : MachineView) (b : Blk) (why : Reason) → IsTied plan past v → awaited plan past (Block b) ≡ Some why
    → (has_come_in v.groups v.semas v.strips v.ended why || has_run_out plan past why) ≡ is_over plan past why
unfolding has_come has_run_out
over_in plan past v b (EndOf c) tied is = ap (λ u. u || false) (tied.blocks.ended c.0)
over_in plan past v b (Empty g p) tied is =
    ap (λ u. u || has_expired past p) (tied.groups.empty g.0 p (parked_since plan past b g p is))
    ∙ empty_or_expired (is_empty_above plan past g.0 p) (has_expired past p)
over_in plan past v b (Strip a) tied is =
    ap (λ n. n == 0 || false) (tied.strips.left a) ∙ ap (λ u. u || false) (none_left (λ c. is_ended past c.0) (strip_blocks plan a))
over_in plan past v b (Rank s k) tied is = ap (λ u. u || is_expired_wait plan past s.0 k) (passed_is plan past v s.0 k tied)

pub wake_is : (plan : PlanView) (past : List Event) (v : MachineView) (b : ℕ) → IsTied plan past v → may_wake_at v b ≡ may_wake plan past b
unfolding may_wake
wake_is plan past v b tied =
    let run = Block (record { 0 = b }) in
    let same : reason_at v.waits b ≡ awaited plan past run = tied.waits.reasons b in
    ap (λ o. option_map_or (λ why. has_come_in v.groups v.semas v.strips v.ended why || has_expired_at v.waits b) o false) same
    ∙ (ap (λ t. option_map_or (λ why. has_come_in v.groups v.semas v.strips v.ended why || t) (awaited plan past run) false) (tied.waits.expired b)
    ∙ elim (awaited plan past run) as (λ o. awaited plan past run ≡ o
    → option_map_or (λ why. has_come_in v.groups v.semas v.strips v.ended why || option_map_or (has_run_out plan past) o false) o false ≡ option_map_or (is_over plan past) o false) [
      | None ↦ λ is. refl
      | Some why ↦ λ is. over_in plan past v (record { 0 = b }) why tied is
    ] refl)

-- time has come to the limit of a wait
pub limit_is : (plan : PlanView) (past : List Event) (v : MachineView) (b : ℕ) → IsTied plan past v → is_at_limit_at v b ≡ is_at_limit plan past b
unfolding is_at_limit
limit_is plan past v b tied =
    ap (λ o. option_map_or (λ end. nat_le end v.timers.moment) o false) (tied.waits.limits b)
    ∙ ap (λ n. option_map_or (λ end. nat_le end n) (limit plan past b) false) tied.timers.moment

pub parked_is : (plan : PlanView) (past : List Event) (v : MachineView) (b : ℕ) → IsTied plan past v → is_none (reason_at v.waits b) ≡ not (is_parked plan past b)
unfolding is_parked
parked_is plan past v b tied = ap is_none (tied.waits.reasons b) ∙ turned (awaited plan past (Block (record { 0 = b })))
  where
    turned : (o : Option Reason) → is_none o ≡ not (is_some o)
    turned None = refl
    turned (Some why) = refl

-- ## Due times

pub tick_is : (plan : PlanView) (past : List Event) (v : MachineView) (t : ℕ) → IsTied plan past v → v.plan ≡ plan → may_tick_at v t ≡ may_tick plan past t
unfolding may_tick
tick_is plan past v t tied own =
    ap (λ o. nat_lt v.timers.moment t && (nat_le t v.plan.until && option_map_or (λ due. nat_le due t) o false)) (next_due_is plan past v tied)
    ∙ (ap (λ n. nat_lt n t && (nat_le t v.plan.until && option_map_or (λ due. nat_le due t) (next_due plan past) false)) tied.timers.moment
    ∙ ap (λ (p : PlanView). nat_lt (now past) t && (nat_le t p.until && option_map_or (λ due. nat_le due t) (next_due plan past) false)) own)

-- ## Pending data

-- what is pending, of what came and what was due
pub pending_is : (plan : PlanView) (past : List Event) (v : MachineView) (s : ℕ) → SourcesAre plan past v → pending_in v s ≡ pending plan past s
pending_is plan past v s ties =
    let sum = ties.pending s in
    let taken = ties.taken s in
    omega (arith, sum, taken)

-- something is pending, where the sum is above what was taken
pub some_pending_is : (plan : PlanView) (past : List Event) (v : MachineView) (s : ℕ) → SourcesAre plan past v → has_pending_at v s ≡ not (pending plan past s == 0)
some_pending_is plan past v s ties = by_numbers (pending_at v.sources s) (due_count_at v.timers s) (handler_at v s).taken (pending plan past s) (ties.pending s) (ties.taken s)
  where
    by_numbers : (values due taken all : ℕ) → values + due ≡ taken + all → taken ≤ due → (nat_lt 0 values || nat_lt taken due) ≡ not (all == 0)
    by_numbers values due taken all sum less =
        ⊎_elim
        (λ (none : all ≡ 0).
        let no_value = false_from_ne_true (nat_lt 0 values) (λ h. let l = ltb-true 0 values h in omega (arith, l, sum, less, none)) in
        let no_time = false_from_ne_true (nat_lt taken due) (λ h. let l = ltb-true taken due h in omega (arith, l, sum, less, none)) in
        let zero = eq-eqb all 0 none in
        rw (no_value, no_time, zero) refl)
        (λ (some : all ≡ 0 → ⊥).
        let other = ne_eqb all 0 some in
        ⊎_elim
        (λ (value : 0 < values). or_left (nat_lt 0 values) (nat_lt taken due) (lt-ltb 0 values value) ∙ sym (ap not other))
        (λ (no_value : values ≤ 0).
        or_right (nat_lt 0 values) (nat_lt taken due) (lt-ltb taken due (let above : 0 < all = omega arith in omega (arith, sum, no_value, above))) ∙ sym (ap not other))
        (cases_lt 0 values))
        (cases_eq all 0)

pub is_pending_is : (plan : PlanView) (past : List Event) (v : MachineView) (s : ℕ) → SourcesAre plan past v → is_pending_at v s ≡ is_pending plan past s
unfolding is_pending
is_pending_is plan past v s ties =
    ap (λ u. u && not (is_cancelled_at v.sources s)) (some_pending_is plan past v s ties)
    ∙ ap (λ u. not (pending plan past s == 0) && not u) (ties.cancelled s)
