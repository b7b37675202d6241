use Rattle.std.proofs.Common.{◌≡◌, map, take}
use Rattle.gcd_hold.proofs.first.created_active.Given as goal

abbrev pub invariant-loop-o : goal.invariant-loop-o
invariant-loop-o l = l.active.items ≡ map (λ o. o.active) (take l.o l.plan.objects)
