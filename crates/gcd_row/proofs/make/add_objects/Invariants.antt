use Rattle.std.proofs.Common.{◌≡◌, ◌++◌, drop, length}
use Rattle.std.specs.Vec.Iter.{into_iter_items, into_iter_len}
use Rattle.gcd_row.specs.Opening.{object_cells}
use Rattle.gcd_row.proofs.make.add_objects.Given as goal

abbrev pub invariant-loop-number : goal.invariant-loop-number
invariant-loop-number g l = record {
  count : into_iter_len l.left ≡ length (into_iter_items l.left);
  rest : l.cells.items ++ object_cells (drop l.number l.plan.objects) (into_iter_items l.left) ≡ l.fn.cells.items ++ object_cells l.plan.objects l.fn.handlers.items;
}
