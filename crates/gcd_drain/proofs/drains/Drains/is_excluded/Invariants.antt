use Rattle.std.proofs.Common.{◌≡◌, ◌<◌, length}
use Rattle.std.specs.List.{All, list_any}
use Rattle.gcd_tree.specs.TreeView.{chain_at}
use Rattle.gcd_drain.specs.Rule.{excludes_at}
use Rattle.gcd_drain.proofs.drains.Drains.is_excluded.Given as goal

abbrev pub invariant-loop-o : goal.invariant-loop-o
invariant-loop-o l = record {
  in_range : All (λ x. x < length l.tree.targets) l.o-iterator;
  ahead : list_any (excludes_at l.self l.tree) (chain_at l.tree l.fn.node.0) ≡ list_any (excludes_at l.self l.tree) l.o-iterator;
}
