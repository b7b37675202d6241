use Rattle.std.proofs.Common.{◌≡◌, ◌<◌, refl, sym, subst, true, false, slice_index_or, None, arith}
use Rattle.std.specs.List.{count_by}
use Rattle.gcd_timer.specs.Listed.{is_reached}
use Rattle.gcd_timer.proofs.Nexts.{one_less, all_ahead, behind_still}
use Rattle.gcd_timer.proofs.Marks.{marked_more, marked_all}
use Rattle.gcd_timer.proofs.timers.move_on_marked.Goals as goal

pub loop-s-smaller : goal.loop-s-smaller
loop-s-smaller c =
    let there = subst (λ t. is_reached t (slice_index_or c.loop-s.nexts c.in-Some.s None) ≡ true) c.moment.ensures c.in-Some.ensures.there in
    subst (λ ns. count_by (is_reached c.args.clock.now.moment) ns < count_by (is_reached c.args.clock.now.moment) c.loop-s.nexts) (sym c.set_next.ensures)
    (one_less c.args.clock.now c.loop-s.nexts c.in-Some.s c.next-next.result c.in-Some.ensures.within there c.next-next.ensures.value)

pub loop-s-preserved : goal.loop-s-preserved
loop-s-preserved c =
    let there = subst (λ t. is_reached t (slice_index_or c.loop-s.nexts c.in-Some.s None) ≡ true) c.moment.ensures c.in-Some.ensures.there in
    rw (c.set_next.ensures, c.set.ensures) (record {
      behind = behind_still c.args.clock.now c.loop-s.nexts c.in-Some.s c.next-next.result c.loop-s.invariant.behind c.in-Some.ensures.within c.next-next.ensures.value;
      marked = marked_more c.args.clock.now c.args.nexts.now c.args.marks.now c.loop-s.nexts c.loop-s.marks c.in-Some.s c.next-next.result
          c.loop-s.invariant.marked c.in-Some.ensures.within
          (omega (arith, c.in-Some.ensures.within, c.loop-s.invariant.behind.long, c.loop-s.invariant.marked.length_kept, c.requires.long)) there
          c.next-next.ensures.value;
    })

pub returns-clause-nexts : goal.returns-clause-nexts
returns-clause-nexts c =
    all_ahead c.args.clock.now c.loop-s.nexts c.loop-s.invariant.behind
    (λ s. subst (λ t. is_reached t (slice_index_or c.loop-s.nexts s None) ≡ false) c.moment.ensures (c.in_default.ensures.none refl s))

pub returns-clause-marks : goal.returns-clause-marks
returns-clause-marks c =
    marked_all c.args.clock.now.moment c.args.nexts.now c.args.marks.now c.loop-s.nexts c.loop-s.marks c.loop-s.invariant.marked
    (λ s. subst (λ t. is_reached t (slice_index_or c.loop-s.nexts s None) ≡ false) c.moment.ensures (c.in_default.ensures.none refl s))
