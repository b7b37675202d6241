use Rattle.std.proofs.Common.{◌+◌, ◌*◌, ◌<◌, ◌≤◌}
use Rattle.gcd_sets.proofs.Shown.{Passed}
use Rattle.gcd_sets.proofs.set.BitSet.next.Given as goal

abbrev pub invariant-loop-at : goal.invariant-loop-at
invariant-loop-at l = record {
  short : l.start < 64;
  low : l.from ≤ 64 * l.at + l.start;
  passed : Passed l.self-inside.words.items l.from l.at l.start;
}
