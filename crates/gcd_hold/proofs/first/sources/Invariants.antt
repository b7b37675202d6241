use Rattle.std.proofs.Common.{◌≡◌, map, take}
use Rattle.gcd_plan.specs.Kinds.{is_source_kind}
use Rattle.gcd_hold.proofs.first.sources.Given as goal

abbrev pub invariant-loop-o : goal.invariant-loop-o
invariant-loop-o l = l.sources.items ≡ map (λ o. is_source_kind o.kind) (take l.o l.plan.objects)
