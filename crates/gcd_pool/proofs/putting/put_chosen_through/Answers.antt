use Rattle.gcd_machine.specs.declared.put.Put.TheVariants.{Placed, Barred}
use Rattle.gcd_pool.proofs.Throughs.{sees_waits, outcome_after, put_at_once, waited_gives}
use Rattle.gcd_pool.proofs.putting.put_chosen_through.Goals as goal

pub put_through-requires-clause-cell : goal.put_through-requires-clause-cell
put_through-requires-clause-cell g c =
    waited_gives g.S.Slot.shape g.S.Slot.gives c.args.pool.now.board.now c.args.hand.now.pass c.put_chosen.new.pass c.args.e c.requires.of.pass c.in-Held.ensures.pass
    (sees_waits c.args.hand.now.pass c.put_chosen.new.pass c.in-Held.ensures.view.0.sees c.in-Held.ensures.slots) c.requires.cell

pub returns-in-Held-clause-said : goal.returns-in-Held-clause-said
returns-in-Held-clause-said g c =
    outcome_after g.S.Slot.shape g.S.Slot.gives c.args.pool.now.board.now c.args.e c.args.hand.now.pass c.put_chosen.new.pass c.put_through.new.hand.pass c.put_through.result
    (sees_waits c.args.hand.now.pass c.put_chosen.new.pass c.in-Held.ensures.view.0.sees c.in-Held.ensures.slots) c.put_through.ensures.said

pub returns-in-Placed-clause-said : goal.returns-in-Placed-clause-said
returns-in-Placed-clause-said g c =
    put_at_once g.S.Slot.shape g.S.Slot.gives c.args.pool.now.board.now c.args.e c.args.hand.now.pass c.put_chosen.new.pass (Placed c.in-Placed.n)
    c.requires.of.pass c.in-Placed.ensures.view c.in-Placed.ensures.slots

pub returns-in-Barred-clause-said : goal.returns-in-Barred-clause-said
returns-in-Barred-clause-said g c =
    put_at_once g.S.Slot.shape g.S.Slot.gives c.args.pool.now.board.now c.args.e c.args.hand.now.pass c.put_chosen.new.pass (Barred c.in-Barred.at c.in-Barred.why)
    c.requires.of.pass c.in-Barred.ensures.view c.in-Barred.ensures.slots
