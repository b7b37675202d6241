use Rattle.std.proofs.Common.{take}
use Rattle.gcd_machine.specs.Stands.{StandsFor}
use Rattle.gcd_journal.specs.Totals.{AreTotals}
use Rattle.gcd_journal.proofs.totals.replayed.Given as goal

abbrev pub invariant-loop-e : goal.invariant-loop-e
invariant-loop-e l = record {
  stands : StandsFor l.machine l.plan (take l.e-index l.events);
  totals : AreTotals l.plan (take l.e-index l.events) l.totals.items;
}
