-- Which events have a line in a journal.
use Rattle.std.specs.Prelude.{◌≡◌, ℕ, List, Some, slice_get, IsTrue}
use Rattle.gcd_plan.specs.PlanView.{PlanView}
use Rattle.gcd_plan.specs.declared.numbers.Run.TheVariants.{Block, Source}
use Rattle.gcd_event.specs.declared.event.Event.{Event}
use Rattle.gcd_event.specs.declared.event.Event.TheVariants.{Start, Act as Acted, Wake, End, Deliver, DeliverEnd, Tick, Ready, FeedEnd, Misuse, Halt, Expire, Accept, Shut}
use Rattle.gcd_event.specs.Fits.{IsFitting}
use Rattle.gcd_history.specs.Permitted.{is_run_of}

-- the plan has the block or source that the event names; a source may be of any kind
abbrev pub IsNamed : PlanView → Event → Type 0
IsNamed plan (Start w b) = IsTrue (is_run_of plan (Block b))
IsNamed plan (Acted w run i) = IsTrue (is_run_of plan run)
IsNamed plan (Wake w b) = IsTrue (is_run_of plan (Block b))
IsNamed plan (End w b) = IsTrue (is_run_of plan (Block b))
IsNamed plan (Deliver w s) = IsTrue (is_run_of plan (Source s))
IsNamed plan (DeliverEnd w s) = IsTrue (is_run_of plan (Source s))
IsNamed plan (Tick t) = Unit {0}
IsNamed plan (Ready s n) = IsTrue (is_run_of plan (Source s))
IsNamed plan (FeedEnd s) = IsTrue (is_run_of plan (Source s))
IsNamed plan (Misuse w c run i) = IsTrue (is_run_of plan run)
IsNamed plan Halt = Unit {0}
IsNamed plan (Expire b) = IsTrue (is_run_of plan (Block b))
IsNamed plan (Accept b s) = IsTrue (is_run_of plan (Block b))
IsNamed plan Shut = Unit {0}

-- the event has a line: its fields are in their ranges, and the plan has what it names
pub record IsSpoken (plan : PlanView) (e : Event) : Type 0 where
  pub fits : IsFitting e
  pub named : IsNamed plan e

-- each event has a line
abbrev pub AreSpoken : PlanView → List Event → Type 0
AreSpoken plan h = (i : ℕ) (e : Event) → slice_get h i ≡ Some e → IsSpoken plan e
