-- What a run beside callers from outside leaves.
use Rattle.std.specs.Prelude.{◌≡◌, ◌<◌, ◌≤◌, ◌⊎◌, ℕ, true, false, List, [], ◌++◌, length, Option, Some, None, slice_get}
use Rattle.std.specs.List.{AllZip, list_any}
use Rattle.gcd_plan.specs.Limits.{max_workers}
use Rattle.gcd_plan.specs.Made.{is_of_intake}
use Rattle.gcd_plan.specs.PlanView.{PlanView}
use Rattle.gcd_plan.specs.declared.numbers.Blk.{Blk}
use Rattle.gcd_event.specs.declared.event.Event.{Event}
use Rattle.gcd_history.specs.Ends.{HasState}
use Rattle.gcd_history.specs.History.{is_ended}
use Rattle.gcd_history.specs.Intake.{shuts, AllAccepted, AcceptsOf, blocks_of_sender}
use Rattle.gcd_front.specs.Fronts.{IsIntakeOf, KnowsAll, TookAll}
use Rattle.gcd_front.specs.Limits.{max_senders}
use Rattle.gcd_front.specs.Queue.{jobs_of}
use Rattle.gcd_front.specs.Views.{FrontView, IntakeView}
use Rattle.gcd_jobs.specs.BlockValues.{has_given}
use Rattle.gcd_outer.specs.Outside.{ClockState, Seen}
use Rattle.gcd_outer.specs.Tells.{PollerState}
use Rattle.gcd_loop.specs.Ran.{RunsPlan}
use Rattle.gcd_workers.specs.JobsRuns.{IsGiven}
use Rattle.gcd_workers.specs.declared.jobs_input.JobsInput.{JobsInput}
use Rattle.gcd_workers.specs.declared.ran.Ran.{Ran}

-- For each block none where it has not ended or is cancelled; where it has given a value, and is not of the intake, one that its job may
-- give. The jobs of the intake's blocks are the callers'.
pub record AreGivenBeside {J : Type 0} (gives : J → ℕ → ℕ → Type 0) (plan : PlanView) (jobs : List J) (h : List Event)
    (values : List (Option ℕ)) : Type 0 where
  pub count : length values ≡ length plan.blocks
  pub ended : (b : ℕ) → b < length plan.blocks → is_of_intake plan b ≡ false → has_given plan h b ≡ true → IsGiven gives jobs values b
  pub others : (b : ℕ) → b < length plan.blocks → has_given plan h b ≡ false → slice_get values b ≡ Some None

module _ {X : Type 0} (sent : X → ℕ → Type 0) (h : List Event) (values : List (Option ℕ)) where
  -- the block ran this job: where it has ended, its value is one that the job may give
  abbrev pub RanFor : X → Blk → Type 0
  RanFor job b = is_ended h b.0 ≡ true → (value : ℕ) × (slice_get values b.0 ≡ Some (Some value)) × sent job value

  -- The jobs that were taken of a sender begin with those of the blocks that were accepted of it: in order, each job once, for the block
  -- at its place.
  pub record OfSender (jobs : List X) (s : ℕ) : Type 0 where
    pub front : List X
    pub rest : List X
    pub split : jobs ≡ front ++ rest
    pub given : AllZip RanFor front (blocks_of_sender h s)

-- what was given can be run beside this front and its intake, and the poller watches no feed
pub record IsReadyBeside {J X : Type 0} (d : JobsInput J) (f : FrontView) (i : IntakeView X) (poller : PollerState) : Type 0 where
  pub jobs : length d.jobs.items ≡ length d.plan.now.blocks
  pub workers : (0 < d.workers) × (d.workers ≤ max_workers)
  pub most : 0 < d.most
  pub few : f.senders ≤ max_senders
  pub of_front : IsIntakeOf f i
  pub untaken : i.taken ≡ []
  pub unwatched : (feed : ℕ) → poller.watched feed ≡ false

-- The run of what was given, beside a front and its intake: it promises what a run of any engine does (`RunsPlan`), each accepted job is of a
-- sender of the front, it has come to this state, and these are the values of its blocks. Of each sender the blocks accepted stand for the
-- jobs that were taken first; if a Shut stands, for all of them, and then each block of the intake is accepted, or all mouths were shut and
-- all that was sent was taken.
pub record RunsFront {J X : Type 0} (gives : J → ℕ → ℕ → Type 0) (sent : X → ℕ → Type 0) (d : JobsInput J) (f : FrontView) (i : IntakeView X)
    (poller : Seen PollerState) (clock : Seen ClockState) (ran : Ran) : Type 0 where
  pub run : RunsPlan d.most d.plan.now d.workers (AcceptsOf f.senders) poller clock ran.journal.items
  pub state_is : HasState d.plan.now ran.journal.items ran.state
  pub given : AreGivenBeside gives d.plan.now d.jobs.items ran.journal.items ran.values.items
  pub callers : (s : ℕ) → OfSender sent ran.journal.items ran.values.items (jobs_of s i.taken) s
  pub all : list_any shuts ran.journal.items ≡ true → (s : ℕ) → length (blocks_of_sender ran.journal.items s) ≡ length (jobs_of s i.taken)
  pub why_shut : list_any shuts ran.journal.items ≡ true → AllAccepted d.plan.now ran.journal.items ⊎ (KnowsAll f i × TookAll i)
