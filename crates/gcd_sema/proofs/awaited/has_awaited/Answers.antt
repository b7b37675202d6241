use Rattle.std.proofs.Common.{sym, ◌∙◌, arith}
use Rattle.gcd_sema.proofs.NoWaits.{object_found, object_passed}
use Rattle.gcd_sema.proofs.awaited.has_awaited.Goals as goal

pub returns-then-is_awaited : goal.returns-then-is_awaited
returns-then-is_awaited c =
    object_found c.args.plan.now c.loop-o.o c.kind.result (omega (arith, c.loop-o-test.true, c.objects-o-end.ensures.count)) c.kind.ensures (sym c.is_awaited.ensures ∙ c.if-is_awaited.true)

pub loop-o-preserved : goal.loop-o-preserved
loop-o-preserved c =
    object_passed c.args.plan.now c.loop-o.o c.kind.result (omega (arith, c.loop-o-test.true, c.objects-o-end.ensures.count)) c.kind.ensures c.loop-o.invariant (sym c.is_awaited.ensures ∙ c.if-is_awaited.false)
