use Rattle.std.proofs.Common.{◌≡◌, ◌<◌, refl, sym, subst, true, false, slice_index_or, None}
use Rattle.std.specs.List.{count_by}
use Rattle.gcd_timer.specs.Listed.{is_reached}
use Rattle.gcd_timer.proofs.Nexts.{one_less, all_ahead}
use Rattle.gcd_timer.proofs.timers.move_on.Goals as goal

pub loop-s-smaller : goal.loop-s-smaller
loop-s-smaller c =
    let there = subst (λ t. is_reached t (slice_index_or c.loop-s.nexts c.in-Some.s None) ≡ true) c.moment.ensures c.in-Some.ensures.there in
    subst (λ ns. count_by (is_reached c.args.clock.now.moment) ns < count_by (is_reached c.args.clock.now.moment) c.loop-s.nexts) (sym c.set_next.ensures)
    (one_less c.args.clock.now c.loop-s.nexts c.in-Some.s c.next-next.result c.in-Some.ensures.within there c.next-next.ensures.value)

pub returns : goal.returns
returns c =
    all_ahead c.args.clock.now c.loop-s.nexts c.loop-s.invariant
    (λ s. subst (λ t. is_reached t (slice_index_or c.loop-s.nexts s None) ≡ false) c.moment.ensures (c.in_default.ensures.none refl s))
