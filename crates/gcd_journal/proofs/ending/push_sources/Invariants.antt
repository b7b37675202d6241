use Rattle.std.proofs.Common.{◌≡◌, ◌++◌, List, string_bytes}
use Rattle.std.specs.List.{flat_map, range_with_len}
use Rattle.gcd_event.specs.declared.event.Event.{Event}
use Rattle.gcd_history.specs.Report.{source_line}
use Rattle.gcd_machine.specs.Stands.{StandsFor}
use Rattle.gcd_journal.specs.Totals.{AreTotals}
use Rattle.gcd_journal.proofs.ending.push_sources.Given as goal

abbrev pub invariant-loop-s : goal.invariant-loop-s
invariant-loop-s l = (h : List Event) → StandsFor l.machine l.plan h → AreTotals l.plan h l.totals → string_bytes l.text ≡ string_bytes l.fn.text ++ flat_map (source_line l.plan h) (range_with_len 0 l.s)
