use Rattle.std.proofs.Common.{◌+◌, ◌*◌, ◌<◌, ◌≤◌}
use Rattle.gcd_sets.proofs.Passing.{NonePasses}
use Rattle.gcd_sets.proofs.Without.{is_in_without}
use Rattle.gcd_sets.proofs.set.BitSet.next_without.Given as goal

abbrev pub invariant-loop-at : goal.invariant-loop-at
invariant-loop-at l = record {
  short : l.start < 64;
  low : l.from ≤ 64 * l.at + l.start;
  passed : NonePasses (is_in_without l.self-inside.words.items l.other-inside.words.items) l.from l.at l.start;
}
