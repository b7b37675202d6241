use Rattle.std.proofs.Common.{◌≡◌, map}
use Rattle.std.specs.List.{range_with_len}
use Rattle.gcd_tree.proofs.PlanTree.{first_obj}
use Rattle.gcd_tree.proofs.first.first_targets.Given as goal

abbrev pub invariant-loop-o : goal.invariant-loop-o
invariant-loop-o l = l.targets.items ≡ map (first_obj l.plan) (range_with_len 0 l.o)
