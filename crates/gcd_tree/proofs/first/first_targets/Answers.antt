use Rattle.std.proofs.Common.{ap, arith}
use Rattle.gcd_tree.proofs.PlanTree.{first_obj, filled_more, filled_targets}
use Rattle.gcd_tree.proofs.first.first_targets.Goals as goal

pub loop-o-preserved : goal.loop-o-preserved
loop-o-preserved c =
    filled_more (first_obj c.args.plan.now) c.loop-o.o c.loop-o.targets.items c.push.new.self.items c.first_target.result
    c.loop-o.invariant (ap (λ n. record { 0 = n }) c.first_target.ensures) c.in_ok-push.ensures.items

pub returns : goal.returns
returns c =
    filled_targets c.args.plan.now c.loop-o.o c.loop-o.targets.items c.loop-o.invariant
    (omega (arith, c.loop-o-test.false, c.loop-o.auto.o-end, c.objects-o-end.ensures.count))
