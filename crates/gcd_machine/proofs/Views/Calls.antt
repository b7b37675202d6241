-- What a machine tells of each history that it stands for.
use Rattle.std.proofs.Common.{◌≡◌, ℕ, ◌^◌, ◌<◌, ◌≤◌, ◌||◌, List, [], ◌∷◌, length, reverse, Option, Some, None, refl, ap, sym, ◌∙◌, subst, arith, Bool, cond, ◌-◌}
use Rattle.std.specs.List.{range_with_len, find}
use Rattle.std.specs.Option.{option_map}
use Rattle.std.proofs.lemmas.List.{length-map, length-reverse, reverse-append, reverse-reverse}
use Rattle.std.proofs.lemmas.List.FromFn.{length-range_with_len}
use Rattle.std.proofs.lemmas.List.Sums.{count_by-le-length}
use Rattle.gcd_plan.specs.PlanView.{PlanView}
use Rattle.gcd_plan.specs.Validity.{IsPlan}
use Rattle.gcd_plan.specs.declared.numbers.Obj.{Obj}
use Rattle.gcd_event.specs.declared.event.Event.{Event}
use Rattle.gcd_history.specs.declared.submission.Submission.{Submission}
use Rattle.gcd_history.specs.Runs.{act_of}
use Rattle.gcd_history.specs.Parked as parked
use Rattle.gcd_history.specs.Permitted as permitted
use Rattle.gcd_history.specs.History.{why, IsLawful, running_of, next_due_of, is_live_feed, first_waiting_of, node_of, is_started, is_ended, awaited_of, last_data_of, pending_of, parks, is_block_cancelled, is_intake_open, next_of_intake}
use Rattle.gcd_history.specs.Ends.{is_halted}
use Rattle.gcd_history.proofs.Permitted.Lawful.{lawful_none, lawful_more}
use Rattle.gcd_timer.specs.TimersView.{is_due_at, due_count_at}
use Rattle.gcd_refinement.specs.MachineView.{MachineView, block_at, ended_at, handler_at, live_at, next_due_in}
use Rattle.gcd_refinement.specs.After.{pending_in}
use Rattle.gcd_refinement.specs.Stands.{IsTied}
use Rattle.gcd_refinement.specs.Ties.{next_in, waiter}
use Rattle.gcd_blockobj.specs.MarksView.{is_cancelled_at}
use Rattle.gcd_machine.specs.Conditions.{HasPending}
use Rattle.gcd_machine.specs.Judged.{first_waiting_at, is_intake_open_at, why_by}
use Rattle.gcd_machine.specs.Stands.{StandsFor}
use Rattle.gcd_machine.proofs.Reasons.Starts.{first_is}
use Rattle.gcd_refinement.proofs.Limits.NextDue.{next_due_is}
use Rattle.gcd_machine.proofs.Views.Intake.{open_is, next_in_is}
use Rattle.gcd_machine.proofs.Views.Waits.{pending_is}
use Rattle.gcd_machine.proofs.Views.Workers.{over_is}
use Rattle.gcd_machine.proofs.Reasons.First.{why_is}
use Rattle.gcd_sync.specs.WaitsView.{reason_at}

-- what a machine keeps is of the history in reverse
pub tied_by : (m : MachineView) (plan : PlanView) (h : List Event) → StandsFor m plan h → IsTied plan (reverse h) m
unfolding StandsFor
tied_by m plan h stands = stands

-- ## What may come next

pub why_stands : (m : MachineView) (plan : PlanView) (h : List Event) (e : Event) → StandsFor m plan h → why_by m e ≡ why plan h e
unfolding why
why_stands m plan h e stands = why_is plan (reverse h) m e (tied_by m plan h stands)

pub over_stands : (m : MachineView) (plan : PlanView) (h : List Event) → StandsFor m plan h → (m.misused || m.halted) ≡ is_halted h
unfolding is_halted
over_stands m plan h stands = over_is plan (reverse h) m (tied_by m plan h stands).totals

-- ## Numbers

pub len_stands : (m : MachineView) (plan : PlanView) (h : List Event) → StandsFor m plan h → m.len ≡ length h
len_stands m plan h stands = (tied_by m plan h stands).totals.len ∙ length-reverse h

pub running_stands : (m : MachineView) (plan : PlanView) (h : List Event) → StandsFor m plan h → m.running ≡ running_of plan h
unfolding running_of
running_stands m plan h stands = (tied_by m plan h stands).totals.running

pub next_due_stands : (m : MachineView) (plan : PlanView) (h : List Event) → StandsFor m plan h → next_due_in m ≡ next_due_of plan h
unfolding next_due_of
next_due_stands m plan h stands = next_due_is plan (reverse h) m (tied_by m plan h stands)

-- ## Blocks

pub first_stands : (m : MachineView) (plan : PlanView) (h : List Event) (n : ℕ) → StandsFor m plan h → first_waiting_at m n ≡ first_waiting_of plan h n
unfolding first_waiting_of
first_stands m plan h n stands =
    ap (option_map (λ w. w.0)) (first_is plan (reverse h) m n (tied_by m plan h stands).lists) ∙ twice (permitted.first_waiting plan (reverse h) n)
  where
    twice : (o : Option Submission) → option_map (λ w. w.0) (option_map waiter o) ≡ option_map (λ s. s.blk) o
    twice None = refl
    twice (Some s) = refl

pub node_stands : (m : MachineView) (plan : PlanView) (h : List Event) (b : ℕ) → StandsFor m plan h → (block_at m b).node ≡ node_of plan h b
unfolding node_of
node_stands m plan h b stands = (tied_by m plan h stands).blocks.node b

pub awaited_stands : (m : MachineView) (plan : PlanView) (h : List Event) (b : ℕ) → StandsFor m plan h → reason_at m.waits b ≡ awaited_of plan h b
unfolding awaited_of
awaited_stands m plan h b stands = (tied_by m plan h stands).waits.reasons b

pub started_stands : (m : MachineView) (plan : PlanView) (h : List Event) (b : ℕ) → StandsFor m plan h → (block_at m b).started ≡ is_started h b
unfolding is_started
started_stands m plan h b stands = (tied_by m plan h stands).blocks.started b

pub ended_stands : (m : MachineView) (plan : PlanView) (h : List Event) (b : ℕ) → StandsFor m plan h → ended_at m b ≡ is_ended h b
unfolding is_ended
ended_stands m plan h b stands = (tied_by m plan h stands).blocks.ended b

pub cancelled_stands : (m : MachineView) (plan : PlanView) (h : List Event) (b : ℕ) → StandsFor m plan h → is_cancelled_at m.marks b ≡ is_block_cancelled plan h b
unfolding is_block_cancelled
cancelled_stands m plan h b stands = (tied_by m plan h stands).block_marks.cancelled b

pub open_stands : (m : MachineView) (plan : PlanView) (h : List Event) → StandsFor m plan h → is_intake_open_at m ≡ is_intake_open plan h
unfolding is_intake_open
open_stands m plan h stands = open_is plan (reverse h) m (tied_by m plan h stands)

pub next_intake_stands : (m : MachineView) (plan : PlanView) (h : List Event) → StandsFor m plan h → next_in m.plan m ≡ next_of_intake plan h
unfolding next_of_intake
next_intake_stands m plan h stands = next_in_is plan (reverse h) m (tied_by m plan h stands)

pub parks_stands : (m : MachineView) (plan : PlanView) (h : List Event) (e : Event) → StandsFor m plan h → parked.is_parking (act_of m.plan e) ≡ parks plan e
unfolding parks
parks_stands m plan h e stands = ap (λ p. parked.is_parking (act_of p e)) (tied_by m plan h stands).same_plan

-- ## Sources

pub live_stands : (m : MachineView) (plan : PlanView) (h : List Event) (s : ℕ) → StandsFor m plan h → live_at m s ≡ is_live_feed plan h s
unfolding is_live_feed
live_stands m plan h s stands = (tied_by m plan h stands).totals.live s

-- the first that passes one of two tests that agree
first_alike : (p q : ℕ → Bool) (xs : List ℕ) → ((x : ℕ) → p x ≡ q x) → find p xs ≡ find q xs
first_alike p q [] same = refl
first_alike p q (x ∷ xs) same = ap (λ t. cond t (Some x) (find p xs)) (same x) ∙ ap (cond (q x) (Some x)) (first_alike p q xs same)

pub next_live_stands : (m : MachineView) (plan : PlanView) (h : List Event) (from : ℕ) → StandsFor m plan h
    → find (live_at m) (range_with_len from (length m.live - from)) ≡ find (is_live_feed plan h) (range_with_len from (length plan.objects - from))
next_live_stands m plan h from stands =
    ap (λ n. find (live_at m) (range_with_len from (n - from))) (tied_by m plan h stands).own.live
    ∙ first_alike (live_at m) (is_live_feed plan h) (range_with_len from (length plan.objects - from)) (λ s. live_stands m plan h s stands)

pub data_stands : (m : MachineView) (plan : PlanView) (h : List Event) (s : ℕ) → StandsFor m plan h → (handler_at m s).given ≡ last_data_of plan h s
unfolding last_data_of
data_stands m plan h s stands = (tied_by m plan h stands).handlers.given s

pub pending_stands : (m : MachineView) (plan : PlanView) (h : List Event) (s : ℕ) → StandsFor m plan h → pending_in m s ≡ pending_of plan h s
unfolding pending_of
pending_stands m plan h s stands = pending_is plan (reverse h) m s (tied_by m plan h stands).sources

-- no more due times than the time has had
few_dues : (m : MachineView) (s : ℕ) → due_count_at m.timers s ≤ m.timers.moment
few_dues m s =
    let few = count_by-le-length (is_due_at m.timers s) (range_with_len 1 m.timers.moment) in
    let long = length-range_with_len 1 m.timers.moment in
    omega (arith, few, long)

-- what is pending is a number of 64 bits
pub pending_fits : (plan : PlanView) (past : List Event) (m : MachineView) (s : Obj) → IsTied plan past m → m.len < 2 ^ 32 → s.0 < length plan.objects → HasPending m s
pending_fits plan past m s tied few low =
    let kinds = ap length tied.parts.source_kinds in
    let clocks = ap length tied.parts.timer_kinds in
    let long = tied.own.handlers in
    let objects = length-map plan.objects (λ o. o.kind) in
    let values = tied.small.pending s.0 in
    let time = tied.small.moment in
    let until = tied.valid.until_high in
    let len = tied.totals.len in
    let dues = few_dues m s.0 in
    record {
      source = omega (arith, kinds, objects, low);
      timer = omega (arith, clocks, objects, low);
      handler = omega (arith, long, low);
      taken = tied.sources.taken s.0;
      room = omega (arith, values, time, until, len, dues, few);
    }

pub pending_has : (m : MachineView) (plan : PlanView) (h : List Event) (s : Obj) → StandsFor m plan h → m.len < 2 ^ 32 → s.0 < length m.plan.objects → HasPending m s
pending_has m plan h s stands few low =
    let tied = tied_by m plan h stands in
    pending_fits plan (reverse h) m s tied few (subst (λ p. s.0 < length p.objects) tied.same_plan low)

-- ## Laws

from_after : (plan : PlanView) (past : List Event) → permitted.IsLawful plan past → IsLawful plan (reverse past)
unfolding why
from_after plan [] lawful = lawful_none plan
from_after plan (e ∷ past) lawful =
    let now : permitted.why plan (reverse (reverse past)) e ≡ None = ap (λ l. permitted.why plan l e) (reverse-reverse past) ∙ lawful.1 in
    subst (IsLawful plan) (sym (reverse-append (e ∷ []) past)) (lawful_more plan (reverse past) e (from_after plan past lawful.0) now)

pub lawful_stands : (m : MachineView) (plan : PlanView) (h : List Event) → StandsFor m plan h → IsLawful plan h
lawful_stands m plan h stands = subst (IsLawful plan) (reverse-reverse h) (from_after plan (reverse h) (tied_by m plan h stands).lawful)

pub plan_stands : (m : MachineView) (plan : PlanView) (h : List Event) → StandsFor m plan h → m.plan ≡ plan
plan_stands m plan h stands = (tied_by m plan h stands).same_plan

pub valid_stands : (m : MachineView) (plan : PlanView) (h : List Event) → StandsFor m plan h → IsPlan plan
valid_stands m plan h stands = (tied_by m plan h stands).valid
