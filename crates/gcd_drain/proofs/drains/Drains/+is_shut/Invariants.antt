use Rattle.std.proofs.Common.{length}
use Rattle.gcd_tree.specs.TreeView.{chain_at}
use Rattle.gcd_drain.proofs.drains.Drains.+is_shut.Given as goal

abbrev pub decreases-is_shut : goal.decreases-is_shut
decreases-is_shut l = length (chain_at l.tree.now l.node.0)
