use Rattle.std.proofs.Common.{◌≡◌, map, take}
use Rattle.gcd_plan.specs.PlanView.{obj_view}
use Rattle.gcd_plan.proofs.copy.copied_objects.Given as goal

abbrev pub invariant-loop-o : goal.invariant-loop-o
invariant-loop-o l = map obj_view l.v.items ≡ map obj_view (take l.o-index l.objects)
