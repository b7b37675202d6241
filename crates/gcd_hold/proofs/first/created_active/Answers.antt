use Rattle.std.proofs.Common.{◌<◌, false, length, arith}
use Rattle.gcd_plan.proofs.Mapped.{map_goes_on, found_within}
use Rattle.gcd_hold.proofs.first.created_active.Goals as goal

pub loop-o-preserved : goal.loop-o-preserved
loop-o-preserved c =
    let objects = c.args.plan.now.objects in
    let active = c.starts_active.result in
    let within : c.loop-o.o < length objects = omega arith in
    let found = found_within (λ obj. obj.active) active false objects c.loop-o.o within c.starts_active.ensures in
    map_goes_on (λ obj. obj.active) active objects c.loop-o.o _ _ c.loop-o.invariant c.in_ok-push.ensures.items found
