use Rattle.gcd_row.specs.Passes.{view}
use Rattle.gcd_pool.proofs.Told.{stands_as}
use Rattle.gcd_pool.proofs.serve.seen_by.Goals as goal

pub returns : goal.returns
returns g c = λ board is. c.len.ensures (view c.args.pass.now).terms.plan (view c.args.pass.now).seen (stands_as g.S.Slot.shape g.S.Slot.gives board c.args.pass.now is c.machine.result.now c.machine.ensures)
