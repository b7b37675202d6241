use Rattle.std.proofs.Common.{◌≡◌, take}
use Rattle.gcd_event.proofs.events.events_of.Given as goal

abbrev pub invariant-loop-entry : goal.invariant-loop-entry
invariant-loop-entry l = l.events.items ≡ take l.entry-index l.journal
