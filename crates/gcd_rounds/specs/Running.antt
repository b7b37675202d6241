-- What holds of a run by rounds after each of its steps.
use Rattle.std.specs.Prelude.{◌≡◌, ◌≤◌, ◌<◌, ◌^◌, [], ℕ, false, List, Option, Some, None, IsTrue, length, map, slice_get}
use Rattle.std.specs.List.{range_with_len}
use Rattle.gcd_plan.specs.PlanView.{PlanView}
use Rattle.gcd_plan.specs.declared.kind.Kind.{Kind}
use Rattle.gcd_event.specs.declared.event.Event.{Event}
use Rattle.gcd_history.specs.Choice.{is_work, worker_of}
use Rattle.gcd_history.specs.Ends.{is_halted}
use Rattle.gcd_history.specs.History.{choice_of, delivery_count_of, is_ended, received_of, why}
use Rattle.gcd_history.specs.Intake.{accepted, AcceptsNone}
use Rattle.gcd_machine.specs.Stands.{StandsFor}
use Rattle.gcd_loop.specs.Followed.{FollowsChoice, IsOfWorkers}
use Rattle.gcd_loop.specs.Recorded.{Bounds, IsSight}
use Rattle.gcd_rounds.specs.declared.kept.Ending.{Ending}
use Rattle.gcd_rounds.specs.declared.round.Round.{Round}
use Rattle.gcd_rounds.specs.declared.running.Running.{Running}
use Rattle.gcd_rounds.specs.Kept.{AreKept, EndBefore, HaveJobs, endings_of}
use Rattle.gcd_rounds.specs.Ran.{AreGiven, AreHandlers, sources_before}

-- the event may come next, is of one of the workers, and the choice of one who is alone; there is room for it; and it accepts no job of
-- an outside caller
pub record IsNext (most : ℕ) (plan : PlanView) (workers : ℕ) (h : List Event) (e : Event) : Type 0 where
  pub permitted : why plan h e ≡ None
  pub room : length h < most
  pub below : worker_of e < workers
  pub chosen : workers ≡ 1 → IsTrue (is_work e) → choice_of plan h 0 0 ≡ Some e
  pub no_job : accepted e ≡ None

-- the places of the handlers, by object
abbrev pub places_of : PlanView → List ℕ
places_of plan = map (sources_before plan) (range_with_len 0 (length plan.objects))

-- each handler took what the Delivers of its source handed over
abbrev pub HaveTaken : {H : Type 0} → (kind : H → Kind) → (times total : H → ℕ) → PlanView → List Event → List H → Type 0
HaveTaken kind times total plan h handlers = AreHandlers kind times total plan (delivery_count_of h) (received_of plan h) handlers

-- a run so far: the machine stands for its journal, whose workers are those of the run, and which follows the choice of one who
-- is alone; no job of an outside caller is accepted; and the handlers took what was handed over; the limit of events is a number of 32 bits, as the machine's count is
pub record IsRun {J H : Type 0} (kind : H → Kind) (times total : H → ℕ) (plan : PlanView) (r : Running J H) : Type 0 where
  pub some : 0 < r.terms.workers
  pub countable : r.terms.most < 2 ^ 32
  pub own : r.machine.plan ≡ plan
  pub stands : StandsFor r.machine plan r.journal.items
  pub few : length r.journal.items ≤ r.terms.most
  pub by : IsOfWorkers r.terms.workers r.journal.items
  pub chosen : r.terms.workers ≡ 1 → FollowsChoice plan r.journal.items
  pub uncalled : AcceptsNone r.journal.items
  pub places : r.places.items ≡ places_of plan
  pub taken : HaveTaken kind times total plan r.journal.items r.handlers.items

-- the run goes on: its history is neither halted nor full
pub record GoesOn (most : ℕ) (h : List Event) : Type 0 where
  pub unhalted : is_halted h ≡ false
  pub room : length h < most

-- one of these Ends is of block b
pub record IsKept (ends : List Ending) (b : ℕ) : Type 0 where
  pub place : ℕ
  pub ending : Ending
  pub at : slice_get ends place ≡ Some ending
  pub of : ending.blk.0 ≡ b

-- the job of block b lies where it was handed in
pub record Waits {J : Type 0} (first : List J) (jobs : List (Option J)) (b : ℕ) : Type 0 where
  pub job : J
  pub job_of : slice_get first b ≡ Some job
  pub at : slice_get jobs b ≡ Some (Some job)

-- as long as the run goes on, the job of each block lies there whose End neither stands nor is kept back
abbrev pub AllWait : {J : Type 0} → (most : ℕ) → PlanView → (first : List J) → List Event → (jobs : List (Option J)) → List Ending → Type 0
AllWait most plan first h jobs ends =
    GoesOn most h → (b : ℕ) → b < length plan.blocks → is_ended h b ≡ false → (IsKept ends b → ⊥) → Waits first jobs b

-- the values and jobs of the blocks, and the Ends that are kept back
pub record AreReady {J H : Type 0} (gives : J → ℕ → ℕ → Type 0) (plan : PlanView) (r : Running J H) (ends : List Ending) : Type 0 where
  pub given : AreGiven gives plan r.terms.jobs.value.items r.journal.items r.values.items
  pub count : length r.jobs.items ≡ length plan.blocks
  pub wait : AllWait r.terms.most plan r.terms.jobs.value.items r.journal.items r.jobs.items ends
  pub kept : AreKept plan r.terms.workers r.journal.items ends

-- a run between two turns of worker 0: no End is kept back
pub record AtTurn {J H : Type 0} (gives : J → ℕ → ℕ → Type 0) (kind : H → Kind) (times total : H → ℕ) (o : Round J H) : Type 0 where
  pub run : IsRun kind times total o.plan.now o.run
  pub ready : AreReady gives o.plan.now o.run []
  pub none : o.kept.items ≡ []

-- a run where worker 0's turn is over in a round: an End of it may be kept back, and nobody else's
pub record InRound {J H : Type 0} (gives : J → ℕ → ℕ → Type 0) (kind : H → Kind) (times total : H → ℕ) (o : Round J H) : Type 0 where
  pub run : IsRun kind times total o.plan.now o.run
  pub ready : AreReady gives o.plan.now o.run (endings_of o.kept.items)
  pub jobs : HaveJobs o.run.terms.jobs.value.items o.kept.items
  pub before : EndBefore 1 (endings_of o.kept.items)

-- its plan, and how many events it may have
abbrev pub bounds_of : {J H : Type 0} → Round J H → Bounds
bounds_of o = record { plan = o.plan.now; most = o.run.terms.most }

-- its machine stands for its journal
pub run_sight : {J H : Type 0} (kind : H → Kind) (times total : H → ℕ) (plan : PlanView) (r : Running J H) → IsRun kind times total plan r
    → IsSight r.terms.most plan r.journal.items r.machine
run_sight kind times total plan r run = record { own = run.own; stands = run.stands; few = run.few }

pub turn_sight : {J H : Type 0} (gives : J → ℕ → ℕ → Type 0) (kind : H → Kind) (times total : H → ℕ) (o : Round J H)
    → AtTurn gives kind times total o → IsSight o.run.terms.most o.plan.now o.run.journal.items o.run.machine
turn_sight gives kind times total o at = run_sight kind times total o.plan.now o.run at.run
