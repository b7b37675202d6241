use Rattle.std.proofs.Common.{◌≡◌, ℕ, ◌<◌, false}
use Rattle.gcd_tree.specs.TreeView.{is_child_of}
use Rattle.gcd_tree.proofs.tree.Tree.has_child.Given as goal

abbrev pub invariant-loop-p : goal.invariant-loop-p
invariant-loop-p l = (k : ℕ) → k < l.p → is_child_of l.self l.o.0 k ≡ false
