use Rattle.std.proofs.Common.{◌≡◌, ◌++◌, ℕ, List, string_bytes}
use Rattle.std.specs.List.{flat_map, range_with_len}
use Rattle.gcd_event.specs.declared.event.Event.{Event}
use Rattle.gcd_history.specs.Report.{result_line}
use Rattle.gcd_machine.specs.Stands.{StandsFor}
use Rattle.gcd_journal.specs.Totals.{AreValues}
use Rattle.gcd_journal.proofs.report.push_results.Given as goal

abbrev pub invariant-loop-b : goal.invariant-loop-b
invariant-loop-b l = (h : List Event) (value : ℕ → ℕ) → StandsFor l.machine l.plan h → AreValues l.plan value l.values h → string_bytes l.text ≡ string_bytes l.fn.text ++ flat_map (result_line l.plan value h) (range_with_len 0 l.b)
