use Rattle.std.proofs.Common.{◌≡◌, map}
use Rattle.std.specs.List.{range_with_len}
use Rattle.gcd_plan.specs.Kinds.{is_node}
use Rattle.gcd_tree.proofs.first.nodes.Given as goal

abbrev pub invariant-loop-o : goal.invariant-loop-o
invariant-loop-o l = l.nodes.items ≡ map (is_node l.plan) (range_with_len 0 l.o)
