use Rattle.std.proofs.Common.{◌≡◌, ◌*◌, ◌-◌, ◌<◌, ◌≤◌}
use Rattle.gcd_sets.specs.Tree.{node_at}
use Rattle.gcd_sets.proofs.times.Times.soonest.Given as goal

abbrev pub invariant-loop-at : goal.invariant-loop-at
invariant-loop-at l = record {
  above : 1 ≤ l.at;
  within : l.at < 2 * l.len;
  same : node_at l.self-inside.nodes.items l.at ≡ node_at l.self-inside.nodes.items 1;
}

abbrev pub decreases-loop-at : goal.decreases-loop-at
decreases-loop-at l = l.len - l.at
