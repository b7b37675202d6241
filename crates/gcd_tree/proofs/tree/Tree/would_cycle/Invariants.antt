use Rattle.std.proofs.Common.{◌≡◌, ◌-◌, ◌<◌, length}
use Rattle.gcd_plan.specs.Chains.{chain_by, is_in}
use Rattle.gcd_tree.specs.TreeView.{walk_next}
use Rattle.gcd_tree.proofs.tree.Tree.would_cycle.Given as goal

abbrev pub invariant-loop : goal.invariant-loop
invariant-loop l =
    (is_in l.o.0 (chain_by (walk_next l.self) l.end l.fn.t.0) ≡ is_in l.o.0 (chain_by (walk_next l.self) (l.end - l.counter) l.at.0))
    × (l.at.0 < length l.self.targets)
