use Rattle.std.proofs.Common.{◌≡◌}
use Rattle.gcd_callers_example.proofs.send.Given as goal

abbrev pub invariant-loop : goal.invariant-loop
invariant-loop g l = record {
  mouth : l.mouth ≡ l.fn.mouth;
  job : l.job ≡ l.fn.line;
}
