use Rattle.std.proofs.Common.{length}
use Rattle.gcd_tree.specs.TreeView.{chain_at}
use Rattle.gcd_drain.proofs.held_chains.HeldChains.+hold_chain.Given as goal

abbrev pub decreases-hold_chain : goal.decreases-hold_chain
decreases-hold_chain l = length (chain_at l.tree.now l.o.0)
