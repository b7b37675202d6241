use Rattle.gcd_plan.proofs.Mapped.{map_goes_on}
use Rattle.gcd_plan.proofs.plan.Plan.kinds.Goals as goal

pub loop-o-preserved : goal.loop-o-preserved
loop-o-preserved c =
    map_goes_on (λ obj. obj.kind) c.kind.result c.args.self.now.objects c.loop-o.o _ _ c.loop-o.invariant c.in_ok-push.ensures.items c.kind.ensures
