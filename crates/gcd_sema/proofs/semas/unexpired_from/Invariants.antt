use Rattle.std.proofs.Common.{◌≡◌, ◌≤◌, not, length, take, count_by}
use Rattle.gcd_sema.proofs.semas.unexpired_from.Given as goal

abbrev pub invariant-loop-at : goal.invariant-loop-at
invariant-loop-at l = record {
  high : l.at ≤ length l.waits;
  same : count_by not (take l.at l.waits) ≡ count_by not (take l.from l.waits);
}
