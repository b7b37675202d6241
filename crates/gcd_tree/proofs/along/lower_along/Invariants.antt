use Rattle.std.proofs.Common.{◌≡◌, ℕ, ◌+◌, ◌<◌, ◌==◌, length, slice_index, count_by}
use Rattle.std.specs.List.{All}
use Rattle.gcd_plan.specs.Chains.{chain_by}
use Rattle.gcd_tree.specs.TreeView.{target_in}
use Rattle.gcd_tree.proofs.along.lower_along.Given as goal

abbrev pub invariant-loop-o : goal.invariant-loop-o
invariant-loop-o l = record {
  in_range : All (λ x. x < length l.targets) l.o-iterator;
  counted : (x : ℕ) → x < length l.counts
      → slice_index l.counts x + count_by (λ y. y == x) (chain_by (target_in l.targets) (length l.targets) l.fn.node.0)
      ≡ slice_index l.initial.counts x + count_by (λ y. y == x) l.o-iterator;
}
