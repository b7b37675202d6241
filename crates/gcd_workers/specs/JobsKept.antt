-- What holds of a run of jobs that worker 0 alone keeps in a list, after each of its steps.
use Rattle.std.specs.Prelude.{◌≡◌, ◌≤◌, ◌<◌, ◌^◌, ℕ, false, List, [], ◌∷◌, ◌++◌, Some, None, IsTrue, length, slice_set}
use Rattle.gcd_plan.specs.PlanView.{PlanView}
use Rattle.gcd_plan.specs.declared.numbers.Blk.{Blk}
use Rattle.gcd_event.specs.declared.event.Event.{Event}
use Rattle.gcd_event.specs.declared.event.Event.TheVariants.{Accept, End, Start}
use Rattle.gcd_history.specs.Choice.{is_work, worker_of}
use Rattle.gcd_history.specs.Ends.{is_halted}
use Rattle.gcd_history.specs.History.{choice_of, next_of_intake, why}
use Rattle.gcd_front.specs.Fronts.{IsIntakeOf}
use Rattle.gcd_front.specs.Limits.{max_senders}
use Rattle.gcd_front.specs.Views.{FrontView, IntakeView}
use Rattle.gcd_machine.specs.Stands.{StandsFor}
use Rattle.gcd_machine.specs.declared.put.Put.{Put}
use Rattle.gcd_machine.specs.declared.put.Put.TheVariants.{Placed, Barred, Held, Full}
use Rattle.gcd_refinement.specs.MachineView.{MachineView}
use Rattle.gcd_loop.specs.Recorded.{Grows, IsSight}
use Rattle.gcd_loop.specs.Followed.{FollowsChoice, IsAllWorker0}
use Rattle.gcd_workers.specs.AloneCalls.{HaveCalls, Stays}
use Rattle.gcd_workers.specs.JobStates.{AreOwn, AreStates}
use Rattle.gcd_workers.specs.declared.job_state.JobState.{JobState}
use Rattle.gcd_workers.specs.declared.job_state.JobState.TheVariants.{Waits}
use Rattle.gcd_workers.specs.declared.jobs_kept.JobsGiven.{JobsGiven}
use Rattle.gcd_workers.specs.declared.jobs_kept.JobsKept.{JobsKept}

-- a run of jobs so far: the machine stands for its journal, of which each event is worker 0's and its choice, and each block has its job or
-- its value; the limit of events is a number of 32 bits, as the machine's count is
pub record IsJobsRun {J : Type 0} (gives : J → ℕ → ℕ → Type 0) (most : ℕ) (plan : PlanView) (jobs : List J) (h : List Event) (states : List (JobState J))
    (m : MachineView) : Type 0 where
  pub countable : most < 2 ^ 32
  pub own : m.plan ≡ plan
  pub stands : StandsFor m plan h
  pub few : length h ≤ most
  pub alone : IsAllWorker0 h
  pub chosen : FollowsChoice plan h
  pub states_are : AreStates plan h states
  pub own_jobs : AreOwn gives plan jobs states

-- a run of what was given has kept this so far
abbrev pub IsJobsKept : {J : Type 0} → (gives : J → ℕ → ℕ → Type 0) → JobsGiven J → JobsKept J → Type 0
IsJobsKept gives given kept = IsJobsRun gives given.most given.plan.now given.jobs.value.items kept.journal.items kept.states.items kept.machine

-- so the machine stands for what is seen
pub jobs_sight : {J : Type 0} (gives : J → ℕ → ℕ → Type 0) (given : JobsGiven J) (kept : JobsKept J) → IsJobsKept gives given kept
    → IsSight given.most given.plan.now kept.journal.items kept.machine
jobs_sight gives given kept run = record { own = run.own; stands = run.stands; few = run.few }

-- the event may come next, is worker 0's, and its choice where it is an event of a worker; and there is room for it
pub record IsNextOfJobs (most : ℕ) (plan : PlanView) (h : List Event) (e : Event) : Type 0 where
  pub permitted : why plan h e ≡ None
  pub room : length h < most
  pub by : worker_of e ≡ 0
  pub chosen : IsTrue (is_work e) → choice_of plan h 0 0 ≡ Some e

-- the machine has taken the event, and its job has not run
pub record IsToEnd {J : Type 0} (m : MachineView) (states : List (JobState J)) (e : Event) : Type 0 where
  pub plan : PlanView
  pub history : List Event
  pub stands : StandsFor m plan (history ++ e ∷ [])
  pub permitted : why plan history e ≡ None
  pub states_are : AreStates plan history states

-- a block has started and ended at once
abbrev pub HasRunAtOnce : (h k : List Event) → Type 0
HasRunAtOnce h k = (b : Blk) × (k ≡ (h ++ Start 0 b ∷ []) ++ End 0 b ∷ [])

-- events of workers came, the run is not halted, there is room, and the next block of the intake is the same
pub record IsBetween (most : ℕ) (plan : PlanView) (h k : List Event) : Type 0 where
  pub grows : Grows h k
  pub next : (b : Blk) → next_of_intake plan h ≡ Some b → next_of_intake plan k ≡ Some b
  pub on : is_halted k ≡ false
  pub room : length k < most

-- the event was put alone, or all is as it was
abbrev pub WasPutAlone : Event → (h k : List Event) → Put → Type 0
WasPutAlone e h k (Placed n) = k ≡ h ++ e ∷ []
WasPutAlone e h k (Barred at y) = k ≡ h
WasPutAlone e h k (Held by passed) = ⊥
WasPutAlone e h k Full = ⊥

-- the job was laid down for block b, and its Accept of this sender was put, behind events of workers at most
pub record IsAcceptedAlone {J : Type 0} (gives : J → ℕ → ℕ → Type 0) (plan : PlanView) (b : Blk) (sender : ℕ) (job : J)
    (old new : JobsKept J) (answer : Put) : Type 0 where
  pub between : List Event
  pub states : List (JobState J)
  pub grows : Grows old.journal.items between
  pub next : next_of_intake plan between ≡ Some b
  pub stays : Stays gives old.journal.items between old.states.items states
  pub is : new.journal.items ≡ between ++ Accept b sender ∷ []
  pub laid : new.states.items ≡ slice_set states b.0 (Waits job)
  pub placed : answer ≡ Placed (length between)

-- worker 0 alone between two turns: what it kept, with the intake of this front, which has no more senders than there may be, of which it
-- accepted what it took
pub record IsAlone {J X : Type 0} (gives : J → ℕ → ℕ → Type 0) (sent : X → ℕ → Type 0) (given : JobsGiven J) (kept : JobsKept J) (f : FrontView)
    (i : IntakeView X) : Type 0 where
  pub run : IsJobsKept gives given kept
  pub few : f.senders ≤ max_senders
  pub of_front : IsIntakeOf f i
  pub calls : HaveCalls gives sent f i given.plan.now kept.journal.items kept.states.items

-- so its machine stands for what it has seen
pub alone_sight : {J X : Type 0} (gives : J → ℕ → ℕ → Type 0) (sent : X → ℕ → Type 0) (given : JobsGiven J) (kept : JobsKept J) (f : FrontView)
    (i : IntakeView X) → IsAlone gives sent given kept f i → IsSight given.most given.plan.now kept.journal.items kept.machine
alone_sight gives sent given kept f i is = jobs_sight gives given kept is.run
