use Rattle.gcd_pool.proofs.Serves.{sees_serves, serves_further, serves_nothing}
use Rattle.gcd_pool.proofs.Told.{to_end}
use Rattle.gcd_pool.proofs.run.see_the_end.Goals as goal

pub loop-init : goal.loop-init
loop-init g c = serves_nothing g.S.Slot.shape g.S.Slot.gives c.args.pool.now c.args.hand.now c.requires

pub loop-preserved : goal.loop-preserved
loop-preserved g c =
    serves_further g.S.Slot.shape g.S.Slot.gives c.args.pool.now c.args.hand.now c.loop.hand (record { pass = c.look.new.pass; bench = c.loop.hand.bench; journal = c.loop.hand.journal }) c.loop.invariant
    (sees_serves g.S.Slot.shape g.S.Slot.gives c.args.pool.now c.loop.hand c.look.new.pass c.loop.invariant.of c.look.ensures.pass c.look.ensures.view.sees)

pub returns-then-has_ended : goal.returns-then-has_ended
returns-then-has_ended g c = record {
  serving = c.loop.invariant;
  ended = to_end g.S.Slot.shape g.S.Slot.gives c.args.pool.now.board.now c.loop.hand.pass c.loop.invariant.of.pass c.machine.result.now c.most-most.result c.has_ended.result c.machine.ensures c.most-most.ensures
      c.has_ended.ensures c.if-has_ended.true;
}
