use Rattle.gcd_row.specs.Passes.{view}
use Rattle.gcd_pool.proofs.Puts.{sees_fresh}
use Rattle.gcd_pool.proofs.Works.{sees_adds}
use Rattle.gcd_pool.proofs.serve.are_quick.Goals as goal

pub returns-clause-fresh : goal.returns-clause-fresh
returns-clause-fresh g c =
    sees_fresh g.S.Slot.shape g.S.Slot.gives c.args.pool.now.board.now c.args.hand.now.pass c.look-now.new.pass c.look-now.ensures.pass c.look-now.ensures.view.sees c.look-now.ensures.slots c.requires.fresh

pub returns-clause-none : goal.returns-clause-none
returns-clause-none g c = c.look-now.ensures.view.sees.ahead.own

pub returns-clause-work : goal.returns-clause-work
returns-clause-work g c = sees_adds (view c.args.hand.now.pass) (view c.look-now.new.pass) c.look-now.ensures.view.sees
