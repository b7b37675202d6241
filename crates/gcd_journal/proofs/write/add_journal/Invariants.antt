use Rattle.std.proofs.Common.{◌≡◌, ◌++◌, take}
use Rattle.std.specs.List.{flat_map}
use Rattle.gcd_history.specs.JournalText.{event_line}
use Rattle.gcd_journal.proofs.write.add_journal.Given as goal

abbrev pub invariant-loop-e : goal.invariant-loop-e
invariant-loop-e l = l.into.items ≡ l.fn.into.items ++ flat_map (event_line l.plan) (take l.e-index l.events)
