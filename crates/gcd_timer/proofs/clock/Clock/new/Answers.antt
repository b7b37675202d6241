use Rattle.std.proofs.Common.{◌≡◌, None, replicate, rules}
use Rattle.gcd_timer.proofs.Views.{clock_first}
use Rattle.gcd_timer.proofs.clock.Clock.new.Goals as goal

pub invariant_of-result : goal.invariant_of-result
invariant_of-result c =
    let n = c.objects-objects.result in
    let activated : c.in_ok-vec.field-0.items ≡ replicate n None = c.in_ok-vec.ensures.items_if_clones_equal (λ y same. search rules) in
    let cancelled : c.in_ok-vec-2.field-0.items ≡ replicate n None = c.in_ok-vec-2.ensures.items_if_clones_equal (λ y same. search rules) in
    clock_first c.args.plan.now _ n c.objects-objects.ensures.valid c.objects-objects.ensures.count c.in_ok-kinds.ensures
    activated cancelled c.until.ensures
