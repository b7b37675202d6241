use Rattle.gcd_pool.proofs.Told.{begins_at}
use Rattle.gcd_pool.proofs.lead.lead_any.Goals as goal

pub begin_chosen-requires-clause-node : goal.begin_chosen-requires-clause-node
begin_chosen-requires-clause-node g c =
    (begins_at g.S.Slot.shape g.S.Slot.gives c.args.pool.now.board.now c.args.hand.now.pass c.requires.ready.of.pass c.machine.result.now c.in-Some.node c.args.e c.machine.ensures c.requires.may c.in-Some.ensures).0

pub begin_chosen-requires-clause-begins : goal.begin_chosen-requires-clause-begins
begin_chosen-requires-clause-begins g c =
    (begins_at g.S.Slot.shape g.S.Slot.gives c.args.pool.now.board.now c.args.hand.now.pass c.requires.ready.of.pass c.machine.result.now c.in-Some.node c.args.e c.machine.ensures c.requires.may c.in-Some.ensures).1
