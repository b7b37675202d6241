use Rattle.std.proofs.Common.{rules, sym, ◌∙◌, arith}
use Rattle.gcd_sema.proofs.Fresh.{room_for, counted_more}
use Rattle.gcd_sema.proofs.NoWaits.{no_rooms}
use Rattle.gcd_sema.proofs.rooms.rooms.Goals as goal

pub count_waits-requires : goal.count_waits-requires
count_waits-requires c = record {
  room = room_for c.args.plan.now c.objects.ensures.valid c.loop-b.counts.items c.loop-b.b c.acts.result.now (omega (arith, c.loop-b-test.true, c.blocks-b-end.ensures.count)) c.acts.ensures
      c.loop-b.invariant.long c.loop-b.invariant.counted;
}

pub loop-b-preserved : goal.loop-b-preserved
loop-b-preserved c = record {
  long = c.count_waits.ensures.as_many ∙ c.loop-b.invariant.long;
  counted = λ s lt.
      let more = counted_more c.args.plan.now c.objects.ensures.valid c.loop-b.counts.items c.loop-b.b c.acts.result.now (omega (arith, c.loop-b-test.true, c.blocks-b-end.ensures.count)) c.acts.ensures s in
      let new = c.count_waits.ensures.counted s (omega (arith, lt, c.loop-b.invariant.long)) in
      let old = c.loop-b.invariant.counted s lt in
      omega (arith, more, new, old);
}

pub returns-then-not-has_awaited : goal.returns-then-not-has_awaited
returns-then-not-has_awaited c =
    no_rooms c.args.plan.now (sym c.has_awaited.ensures ∙ c.if-not-has_awaited.true) c.objects.ensures.valid.blocks c.in_ok-counts.counts.items c.objects.result
    (c.in_ok-counts.ensures.items_if_clones_equal (λ y same. search rules)) c.objects.ensures.count
