use Rattle.std.proofs.Common.{◌+◌, arith}
use Rattle.std.proofs.lemmas.Grind.{common_steps}
use Rattle.gcd_group.specs.Inside.{view_of}
use Rattle.gcd_group.proofs.Agreement.{notified, all_due, room_for_one}
use Rattle.gcd_group.proofs.groups.Groups.notify.Goals as goal

pub overflow_add-registered : goal.overflow_add-registered
overflow_add-registered c =
    let room = room_for_one (view_of c.self.inside) c.self.inside.registered.items c.args.g.0 c.args.blk _ c.self.invariant
    (grind (arith, common_steps)) c.push.ensures.behind c.push.ensures.few in
    grind (arith, common_steps, room)

pub invariant_of-self : goal.invariant_of-self
invariant_of-self c =
    let agree = notified (view_of c.self.inside) c.self.inside.registered.items c.args.g.0 c.index-2.result.now c.args.blk c.self.invariant
    (grind (arith, common_steps)) (grind (arith, common_steps)) in
    rw c.push.ensures.behind (all_due _ _ c.args.g.0 (c.index-2.result.now + 1) agree (grind (arith, common_steps)) (grind (arith, common_steps)))

pub invariant_of-self-else-empty : goal.invariant_of-self-else-empty
invariant_of-self-else-empty c =
    rw c.push.ensures.behind
    (notified (view_of c.self.inside) c.self.inside.registered.items c.args.g.0 _ c.args.blk c.self.invariant
    (grind (arith, common_steps)) (grind (arith, common_steps)))
