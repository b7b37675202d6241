use Rattle.std.proofs.Common.{true, false, sym, ◌∙◌}
use Rattle.gcd_script.proofs.Picked.{from_row}
use Rattle.gcd_script.proofs.keyword.pick.Goals as goal

pub loop-spelled-preserved : goal.loop-spelled-preserved
loop-spelled-preserved g c =
    c.loop-spelled.invariant
    ∙ from_row c.args.rows.now c.args.word.now c.loop-spelled.spelled-index c.loop-spelled-item.result false
    c.loop-spelled-test.true c.loop-spelled-item.is (sym c.eq.ensures ∙ c.if-eq.false)

pub returns-then-eq : goal.returns-then-eq
returns-then-eq g c =
    sym
    (c.loop-spelled.invariant
    ∙ from_row c.args.rows.now c.args.word.now c.loop-spelled.spelled-index c.loop-spelled-item.result true
    c.loop-spelled-test.true c.loop-spelled-item.is (sym c.eq.ensures ∙ c.if-eq.true))
