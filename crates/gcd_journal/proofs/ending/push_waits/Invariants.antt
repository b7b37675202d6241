use Rattle.std.proofs.Common.{◌≡◌, ◌++◌, List, string_bytes}
use Rattle.std.specs.List.{flat_map, range_with_len}
use Rattle.gcd_event.specs.declared.event.Event.{Event}
use Rattle.gcd_history.specs.Report.{wait_line}
use Rattle.gcd_machine.specs.Stands.{StandsFor}
use Rattle.gcd_journal.proofs.ending.push_waits.Given as goal

abbrev pub invariant-loop-b : goal.invariant-loop-b
invariant-loop-b l = (h : List Event) → StandsFor l.machine l.plan h → string_bytes l.text ≡ string_bytes l.fn.text ++ flat_map (wait_line l.plan h) (range_with_len 0 l.b)
