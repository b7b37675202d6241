-- Whose an event is, and which run it begins or ends (this project's own rule).
use Rattle.std.specs.Prelude.{ℕ, Option, Some, None}
use Rattle.gcd_plan.specs.declared.numbers.Run.{Run}
use Rattle.gcd_plan.specs.declared.numbers.Run.TheVariants.{Block, Source}
use Rattle.gcd_event.specs.declared.event.Event.{Event}
use Rattle.gcd_event.specs.declared.event.Event.TheVariants.{Start, Act as Acted, Wake, End, Deliver, DeliverEnd, Tick, Ready, FeedEnd, Misuse, Halt, Expire, Accept, Shut}

-- the event's worker; those of the outside are worker 0's
abbrev pub worker_of : Event → ℕ
worker_of (Start w b) = w
worker_of (Acted w r i) = w
worker_of (Wake w b) = w
worker_of (End w b) = w
worker_of (Deliver w s) = w
worker_of (DeliverEnd w s) = w
worker_of (Tick t) = 0
worker_of (Ready s n) = 0
worker_of (FeedEnd s) = 0
worker_of (Misuse w c r i) = w
worker_of Halt = 0
worker_of (Expire b) = 0
worker_of (Accept b s) = 0
worker_of Shut = 0

-- the run that the event begins
abbrev pub begun : Event → Option Run
begun (Start w b) = Some (Block b)
begun (Acted w r i) = None
begun (Wake w b) = None
begun (End w b) = None
begun (Deliver w s) = Some (Source s)
begun (DeliverEnd w s) = None
begun (Tick t) = None
begun (Ready s n) = None
begun (FeedEnd s) = None
begun (Misuse w c r i) = None
begun Halt = None
begun (Expire b) = None
begun (Accept b s) = None
begun Shut = None

-- the run that the event ends
abbrev pub ended : Event → Option Run
ended (Start w b) = None
ended (Acted w r i) = None
ended (Wake w b) = None
ended (End w b) = Some (Block b)
ended (Deliver w s) = None
ended (DeliverEnd w s) = Some (Source s)
ended (Tick t) = None
ended (Ready s n) = None
ended (FeedEnd s) = None
ended (Misuse w c r i) = None
ended Halt = None
ended (Expire b) = None
ended (Accept b s) = None
ended Shut = None
