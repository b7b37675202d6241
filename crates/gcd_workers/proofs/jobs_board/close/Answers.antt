use Rattle.gcd_row.specs.Passes.{view}
use Rattle.gcd_workers.proofs.Giving.{cells_for, told_at_end}
use Rattle.gcd_workers.proofs.jobs_board.close.Goals as goal

pub values_of-requires : goal.values_of-requires
values_of-requires g c =
    rw c.deref.ensures.value (cells_for g.J.Job.gives c.args.pass c.in-Ok.machine c.in-Ok.cells.items c.in-Ok.ensures.cells c.in-Ok.ensures.machine)

pub returns-clause-values : goal.returns-clause-values
returns-clause-values g c =
    let taken = rw c.deref.ensures.value at c.in_ok-values.ensures in
    told_at_end g.J.Job.gives c.args.pass c.in-Ok.machine c.in-Ok.cells.items c.in_ok-values.values.items c.in-Ok.ensures.machine c.in-Ok.ensures.cells
    (taken (view c.args.pass).terms.plan (view c.args.pass).seen c.in-Ok.ensures.machine)
