use Rattle.std.proofs.Common.{ℕ, ◌≢◌, ◌≤◌, ◌<◌, ◌-◌, length, get_or}
use Rattle.gcd_text.proofs.lines.space_in.Given as goal

abbrev pub invariant-four : goal.invariant-four
invariant-four l = record {
  inside : l.at ≤ length l.bytes;
  none : (k : ℕ) → k < l.at → get_or l.bytes k 0 ≢ 32;
}

abbrev pub decreases-four : goal.decreases-four
decreases-four l = length l.bytes - l.at

abbrev pub invariant-one : goal.invariant-one
invariant-one l = record {
  inside : l.at ≤ length l.bytes;
  none : (k : ℕ) → k < l.at → get_or l.bytes k 0 ≢ 32;
}

abbrev pub decreases-one : goal.decreases-one
decreases-one l = length l.bytes - l.at
