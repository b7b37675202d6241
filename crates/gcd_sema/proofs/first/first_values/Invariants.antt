use Rattle.std.proofs.Common.{◌≡◌, map, take}
use Rattle.gcd_plan.specs.KindValues.{first_value_of}
use Rattle.gcd_sema.proofs.first.first_values.Given as goal

abbrev pub invariant-loop-o : goal.invariant-loop-o
invariant-loop-o l = l.firsts.items ≡ map (λ o. first_value_of o.kind) (take l.o l.plan.objects)
