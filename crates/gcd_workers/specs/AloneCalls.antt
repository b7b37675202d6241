-- What worker 0 alone took of outside callers, and what was accepted of it.
use Rattle.std.specs.Prelude.{◌≡◌, ◌≤◌, ◌⊎◌, ℕ, true, List, []}
use Rattle.std.specs.List.{AllZip, list_any}
use Rattle.gcd_plan.specs.PlanView.{PlanView}
use Rattle.gcd_plan.specs.declared.numbers.Blk.{Blk}
use Rattle.gcd_event.specs.declared.event.Event.{Event}
use Rattle.gcd_history.specs.Intake.{AllAccepted, accepts, blocks_of_sender, shuts}
use Rattle.gcd_front.specs.Fronts.{KnowsAll, TookAll}
use Rattle.gcd_front.specs.Queue.{jobs_of}
use Rattle.gcd_front.specs.Views.{FrontView, IntakeView}
use Rattle.gcd_workers.specs.JobStates.{ComesToNoMore, MayCome}
use Rattle.gcd_workers.specs.declared.job_state.JobState.{JobState}

-- nothing of outside callers came between
pub record CallsStay (h k : List Event) : Type 0 where
  pub blocks : (s : ℕ) → blocks_of_sender k s ≡ blocks_of_sender h s
  pub shut : list_any shuts k ≡ list_any shuts h
  pub accepted : (b : ℕ) → list_any (accepts b) h ≡ true → list_any (accepts b) k ≡ true

module _ {J X : Type 0} (gives : J → ℕ → ℕ → Type 0) (sent : X → ℕ → Type 0) where
  -- block b comes only to what the job that was sent may give
  abbrev pub ComesOf : List (JobState J) → X → Blk → Type 0
  ComesOf states x b = (value : ℕ) → MayCome gives states b.0 value → sent x value

  -- of each sender these jobs are those of the blocks that were accepted of it, in order
  abbrev pub AreAccepted : List (JobState J) → List X → List Blk → Type 0
  AreAccepted states jobs blocks = AllZip (ComesOf states) jobs blocks

  -- Of each sender the jobs that were taken are those of the blocks that were accepted of it. No sender has another number than the
  -- front's. Where a Shut stands, either each block of the intake is accepted, or all mouths were shut, and all that was sent was taken.
  pub record HaveCalls (f : FrontView) (i : IntakeView X) (plan : PlanView) (h : List Event) (states : List (JobState J)) : Type 0 where
    pub taken : (s : ℕ) → AreAccepted states (jobs_of s i.taken) (blocks_of_sender h s)
    pub senders : (s : ℕ) → f.senders ≤ s → blocks_of_sender h s ≡ []
    pub why_shut : list_any shuts h ≡ true → AllAccepted plan h ⊎ (KnowsAll f i × TookAll i)

-- nothing of outside callers came, and no block may come to another value than before
pub record Stays {J : Type 0} (gives : J → ℕ → ℕ → Type 0) (h k : List Event) (old new : List (JobState J)) : Type 0 where
  pub calls : CallsStay h k
  pub no_more : ComesToNoMore gives old new
