use Rattle.std.proofs.Common.{◌≡◌, replicate}
use Rattle.gcd_journal.specs.Totals.{no_total}
use Rattle.gcd_journal.proofs.totals.no_totals.Given as goal

abbrev pub invariant-loop : goal.invariant-loop
invariant-loop l = l.totals.items ≡ replicate l.counter no_total
