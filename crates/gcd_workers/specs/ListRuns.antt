-- What holds of a run that one worker keeps in a list, after each of its steps.
use Rattle.std.specs.Prelude.{◌≡◌, ◌≤◌, ◌<◌, ◌+◌, ◌^◌, ℕ, Bool, true, false, List, [], ◌∷◌, ◌++◌, Option, Some, None, IsTrue, length, slice_get}
use Rattle.gcd_plan.specs.Kinds.{is_source_kind}
use Rattle.gcd_plan.specs.PlanView.{PlanView, kind_of}
use Rattle.gcd_plan.specs.declared.kind.Kind.{Kind}
use Rattle.gcd_event.specs.Owners.{ended}
use Rattle.gcd_event.specs.declared.event.Event.{Event}
use Rattle.gcd_history.specs.Choice.{is_work, worker_of}
use Rattle.gcd_history.specs.History.{choice_of, delivery_count_of, received_of, why}
use Rattle.gcd_history.specs.Intake.{accepted, AcceptsNone}
use Rattle.gcd_jobs.specs.BlockValues.{AreValues}
use Rattle.gcd_jobs.specs.Contents.{contents}
use Rattle.gcd_jobs.specs.declared.tally.Tally.{Tally}
use Rattle.gcd_machine.specs.Calm.{IsCalm}
use Rattle.gcd_machine.specs.Stands.{StandsFor}
use Rattle.gcd_refinement.specs.MachineView.{MachineView}
use Rattle.gcd_loop.specs.Recorded.{IsSight}
use Rattle.gcd_loop.specs.Followed.{FollowsChoice, IsAllWorker0}
use Rattle.gcd_workers.specs.declared.list_run.Kept.{Kept}
use Rattle.gcd_workers.specs.declared.over.Over.{Over}

-- the tally of source s, of this kind: it took as many values as the source has Delivers, and what these handed over
abbrev pub tally_of : PlanView → List Event → ℕ → Kind → Tally
tally_of plan h s kind = record { kind = kind; times = delivery_count_of h s; total = received_of plan h s }

-- at the number of each source lies its tally
abbrev pub AreTallies : PlanView → List Event → List Tally → Type 0
AreTallies plan h tallies = (s : ℕ) (kind : Kind) → kind_of plan s ≡ Some kind → is_source_kind kind ≡ true → slice_get tallies s ≡ Some (tally_of plan h s kind)

-- the machine has taken the event, and the tallies have not
pub record IsUntold (m : MachineView) (tallies : List Tally) (e : Event) : Type 0 where
  pub plan : PlanView
  pub history : List Event
  pub stands : StandsFor m plan (history ++ e ∷ [])
  pub tallies_are : AreTallies plan history tallies
  pub room : length history + 1 < 2 ^ 32

-- a run so far: the machine stands for its journal, of which each event is worker 0's and its choice, and none accepts a job of an
-- outside caller, and these are the values and the tallies; the limit of events is a number of 32 bits, as the machine's count is
pub record IsListRun (most : ℕ) (plan : PlanView) (files : List (List ℕ)) (h : List Event) (given : List ℕ) (tallies : List Tally) (m : MachineView) : Type 0 where
  pub countable : most < 2 ^ 32
  pub own : m.plan ≡ plan
  pub stands : StandsFor m plan h
  pub few : length h ≤ most
  pub alone : IsAllWorker0 h
  pub chosen : FollowsChoice plan h
  pub uncalled : AcceptsNone h
  pub values : AreValues plan files h given
  pub tallies_are : AreTallies plan h tallies

-- a run over this plan and these files has kept this so far
abbrev pub IsKept : Over → Kept → Type 0
IsKept over kept = IsListRun over.most over.plan.now (contents over.files.now) kept.journal.items kept.values.items kept.tallies.items kept.machine

-- so the machine stands for what is seen
pub kept_sight : (over : Over) (kept : Kept) → IsKept over kept → IsSight over.most over.plan.now kept.journal.items kept.machine
kept_sight over kept run = record { own = run.own; stands = run.stands; few = run.few }

-- the event may come next, is worker 0's, and its choice where it is an event of a worker; there is room for it; and it accepts no job
-- of an outside caller
pub record IsNext (most : ℕ) (plan : PlanView) (h : List Event) (e : Event) : Type 0 where
  pub permitted : why plan h e ≡ None
  pub room : length h < most
  pub by : worker_of e ≡ 0
  pub chosen : IsTrue (is_work e) → choice_of plan h 0 0 ≡ Some e
  pub no_job : accepted e ≡ None

-- the event is the choice of worker 0, and stands behind the others
pub record IsChosen (plan : PlanView) (h k : List Event) (e : Event) : Type 0 where
  pub is : k ≡ h ++ e ∷ []
  pub chosen : choice_of plan h 0 0 ≡ Some e

-- the same. Unless it ends a run, nothing can come of the outside if nothing could
pub record IsStep (plan : PlanView) (h k : List Event) (e : Event) : Type 0 where
  pub chosen : IsChosen plan h k e
  pub calm : ended e ≡ None → IsCalm plan h → IsCalm plan k

-- it is so of the event that was taken, or all is as it was
abbrev pub HasStepped : PlanView → (h k : List Event) → Option Event → Type 0
HasStepped plan h k None = k ≡ h
HasStepped plan h k (Some e) = IsStep plan h k e

-- two events stand behind the others, each the choice of worker 0. Between them nothing can come of the outside if nothing could before
pub record IsTwoSteps (plan : PlanView) (h k : List Event) : Type 0 where
  pub first : Event
  pub second : Event
  pub is : k ≡ (h ++ first ∷ []) ++ second ∷ []
  pub chosen : choice_of plan h 0 0 ≡ Some first
  pub chosen_next : choice_of plan (h ++ first ∷ []) 0 0 ≡ Some second
  pub calm : IsCalm plan h → IsCalm plan (h ++ first ∷ [])

-- two events are there, or all is as it was
abbrev pub HasSteppedTwice : PlanView → (h k : List Event) → Bool → Type 0
HasSteppedTwice plan h k true = IsTwoSteps plan h k
HasSteppedTwice plan h k false = k ≡ h

-- a choice of worker 0 is there, or all is as it was
pub record IsOneMore (plan : PlanView) (h k : List Event) : Type 0 where
  pub event : Event
  pub chosen : IsChosen plan h k event

abbrev pub HasChosen : PlanView → (h k : List Event) → Bool → Type 0
HasChosen plan h k true = IsOneMore plan h k
HasChosen plan h k false = k ≡ h
