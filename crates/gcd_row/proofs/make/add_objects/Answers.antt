use Rattle.gcd_row.proofs.FirstCells.{objects_on}
use Rattle.gcd_row.proofs.make.add_objects.Goals as goal

pub loop-number-preserved : goal.loop-number-preserved
loop-number-preserved g c = let i = c.loop-number.invariant in let o = c.object_cell.ensures in record {
  count = o.count;
  rest = rw c.in_ok-push.ensures.items (objects_on _ _ c.args.plan.now.objects c.loop-number.number _ _ _ c.kind.result c.is_source-is_source.result c.kind.ensures c.is_source-is_source.ensures o.cell o.left i.rest);
}
