-- The blocks that end.
use Rattle.std.specs.Prelude.{◌<◌, length}
use Rattle.gcd_plan.specs.PlanView.{PlanView}
use Rattle.gcd_event.specs.declared.event.Event.{Event}
use Rattle.gcd_event.specs.declared.event.Event.TheVariants.{Start, Act as Acted, Wake, End, Deliver, DeliverEnd, Tick, Ready, FeedEnd, Misuse, Halt, Expire, Accept, Shut}

-- the block that the event ends is one of the plan's
abbrev pub EndFits : PlanView → Event → Type 0
EndFits plan (Start w b) = Unit {0}
EndFits plan (Acted w r i) = Unit {0}
EndFits plan (Wake w b) = Unit {0}
EndFits plan (End w b) = b.0 < length plan.blocks
EndFits plan (Deliver w s) = Unit {0}
EndFits plan (DeliverEnd w s) = Unit {0}
EndFits plan (Tick t) = Unit {0}
EndFits plan (Ready s n) = Unit {0}
EndFits plan (FeedEnd s) = Unit {0}
EndFits plan (Misuse w c r i) = Unit {0}
EndFits plan Halt = Unit {0}
EndFits plan (Expire b) = Unit {0}
EndFits plan (Accept b s) = Unit {0}
EndFits plan Shut = Unit {0}
