use Rattle.std.proofs.Common.{◌≡◌, ◌*◌, ◌<◌, ◌≤◌, ℕ, length}
use Rattle.gcd_sets.specs.Tree.{node_at, HoldsBut}
use Rattle.gcd_sets.proofs.tree.lift.Given as goal

abbrev pub invariant-loop-at : goal.invariant-loop-at
invariant-loop-at l = record {
  long : length l.nodes.items ≡ 2 * l.len;
  within : l.at < l.len;
  holds : HoldsBut l.nodes.items l.at;
  leaves : (k : ℕ) → l.len ≤ k → node_at l.nodes.items k ≡ node_at l.initial.nodes.items k;
}

abbrev pub decreases-loop-at : goal.decreases-loop-at
decreases-loop-at l = l.at
