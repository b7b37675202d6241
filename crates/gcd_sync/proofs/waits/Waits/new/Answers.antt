use Rattle.std.proofs.Common.{◌∙◌, false, length, replicate, ap, rules, arith}
use Rattle.gcd_plan.specs.Effects.{parks}
use Rattle.gcd_plan.proofs.Needed.{room_low}
use Rattle.gcd_sync.proofs.Fitting.{none_fit}
use Rattle.gcd_sync.proofs.waits.Waits.new.Goals as goal

pub invariant_of-result : goal.invariant_of-result
invariant_of-result c =
    let low = room_low parks c.args.plan.now in
    none_fit c.blocks-2.result c.park_room.result c.limit_room.result c.objects.result (length c.strips.result.now)
    (omega (arith, low, c.park_room.ensures.room, c.blocks-2.ensures.count)) c.in_ok-vec.field-0.items c.in_ok-vec-2.field-0.items c.in_ok-new.field-0
    (c.in_ok-vec.ensures.items_if_clones_equal (λ y same. search rules))
    (c.in_ok-vec-2.ensures.items_if_clones_equal (λ y same. search rules))
    c.in_ok-new.ensures
