use Rattle.std.proofs.Common.{◌≡◌, map, take}
use Rattle.gcd_plan.proofs.plan.Plan.kinds.Given as goal

abbrev pub invariant-loop-o : goal.invariant-loop-o
invariant-loop-o l = l.kinds.items ≡ map (λ o. o.kind) (take l.o l.self.objects)
