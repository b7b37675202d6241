-- What a run of a plan leaves.
use Rattle.std.specs.Prelude.{◌≡◌, ◌≤◌, ℕ, List, length}
use Rattle.gcd_event.specs.declared.event.Event.{Event}
use Rattle.gcd_history.specs.Ends.{HasEnded, HasState}
use Rattle.gcd_jobs.specs.BlockValues.{AreValues}
use Rattle.gcd_jobs.specs.Contents.{contents}
use Rattle.gcd_outer.specs.Outside.{ClockState, Seen}
use Rattle.gcd_outer.specs.Tells.{PollerState}
use Rattle.gcd_history.specs.Intake.{AcceptsNone}
use Rattle.gcd_loop.specs.Followed.{FollowsChoice, IsOfWorkers}
use Rattle.gcd_loop.specs.Going.{GoesOn}
use Rattle.gcd_loop.specs.Ran.{RunsPlan}
use Rattle.gcd_loop.specs.Recorded.{Bounds}
use Rattle.gcd_machine.specs.Stands.{StandsFor}
use Rattle.gcd_turn.specs.Outsides.{Faced}
use Rattle.gcd_workers.specs.declared.outcome.Outcome.{Outcome}
use Rattle.gcd_workers.specs.declared.over.Over.{Over}

-- The run of a plan over its files, by so many workers: it promises what a run of any engine does (`RunsPlan`), has come to this state, and
-- these are the values of its blocks.
pub record RunsOverFiles (over : Over) (workers : ℕ) (poller : Seen PollerState) (clock : Seen ClockState) (o : Outcome) : Type 0 where
  pub run : RunsPlan over.most over.plan.now workers AcceptsNone poller clock o.journal.items
  pub state_is : HasState over.plan.now o.journal.items o.state
  pub values : AreValues over.plan.now (contents over.files.now) o.journal.items o.values.items

-- the plan of a run, and how many events it may have
abbrev pub bounds_over : Over → Bounds
bounds_over over = record { plan = over.plan.now; most = over.most }

-- A run of a plan over its files by so many workers has left this: its history has ended, and is what a run of so many workers without outside
-- callers leaves, with its machine, its state and its values.
pub record HasLeft (over : Over) (workers : ℕ) (o : Outcome) : Type 0 where
  pub ended : HasEnded over.most over.plan.now o.journal.items
  pub stands : StandsFor o.machine over.plan.now o.journal.items
  pub few : length o.journal.items ≤ over.most
  pub by : IsOfWorkers workers o.journal.items
  pub chosen : workers ≡ 1 → FollowsChoice over.plan.now o.journal.items
  pub uncalled : AcceptsNone o.journal.items
  pub state_is : HasState over.plan.now o.journal.items o.state
  pub values : AreValues over.plan.now (contents over.files.now) o.journal.items o.values.items

-- The same, and what poller and clock said since this history stands in what came since.
pub record GoesOnOverFiles (over : Over) (workers : ℕ) (h : List Event) (f : Faced) (o : Outcome) : Type 0 where
  pub going : GoesOn (bounds_over over) h o.journal.items f
  pub left : HasLeft over workers o
