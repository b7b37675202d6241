use Rattle.std.proofs.Common.{◌≡◌, length}
use Rattle.gcd_tree.proofs.Marks.{MarkUpTo}
use Rattle.gcd_tree.proofs.first.first_marks.Given as goal

abbrev pub invariant-loop-o : goal.invariant-loop-o
invariant-loop-o l = record {
  long : length l.marks.items ≡ length l.plan.objects;
  marked : MarkUpTo l.plan l.marks.items l.o;
}
