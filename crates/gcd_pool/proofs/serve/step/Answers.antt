use Rattle.gcd_pool.proofs.Puts.{sees_fresh}
use Rattle.gcd_pool.proofs.Serves.{passing_fresh, passing_ready}
use Rattle.gcd_pool.proofs.serve.step.Goals as goal

pub returns-then-watch-clause-after : goal.returns-then-watch-clause-after
returns-then-watch-clause-after g c =
    passing_fresh g.S.Slot.shape g.S.Slot.gives c.args.pool.now c.look-seen.new.pass c.pass_seen.new.hand.pass c.pass_seen.ensures.view c.pass_seen.ensures.slots
    (sees_fresh g.S.Slot.shape g.S.Slot.gives c.args.pool.now.board.now c.args.hand.now.pass c.look-seen.new.pass c.look-seen.ensures.pass c.look-seen.ensures.view.sees c.look-seen.ensures.slots c.requires.fresh)

pub free_turn-requires : goal.free_turn-requires
free_turn-requires g c =
    passing_ready g.S.Slot.shape g.S.Slot.gives c.args.pool.now (record { pass = c.look-seen.new.pass; bench = c.args.hand.now.bench; journal = c.args.hand.now.journal }) c.pass_seen.new.hand c.pass_seen.ensures.serving
    c.pass_seen.ensures.view c.pass_seen.ensures.slots
    (sees_fresh g.S.Slot.shape g.S.Slot.gives c.args.pool.now.board.now c.args.hand.now.pass c.look-seen.new.pass c.look-seen.ensures.pass c.look-seen.ensures.view.sees c.look-seen.ensures.slots c.requires.fresh)

pub take_turn-requires : goal.take_turn-requires
take_turn-requires g c =
    passing_ready g.S.Slot.shape g.S.Slot.gives c.args.pool.now (record { pass = c.look-seen.new.pass; bench = c.args.hand.now.bench; journal = c.args.hand.now.journal }) c.pass_seen.new.hand c.pass_seen.ensures.serving
    c.pass_seen.ensures.view c.pass_seen.ensures.slots
    (sees_fresh g.S.Slot.shape g.S.Slot.gives c.args.pool.now.board.now c.args.hand.now.pass c.look-seen.new.pass c.look-seen.ensures.pass c.look-seen.ensures.view.sees c.look-seen.ensures.slots c.requires.fresh)
