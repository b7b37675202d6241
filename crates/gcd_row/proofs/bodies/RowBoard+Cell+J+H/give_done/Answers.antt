use Rattle.std.proofs.Common.{refl}
use Rattle.gcd_row.specs.Jobs.{held_jobs}
use Rattle.gcd_row.specs.Passes.{view}
use Rattle.gcd_row.specs.Shapes.{shape_of, gives_of}
use Rattle.gcd_row.specs.Views.{held_run}
use Rattle.gcd_row.specs.declared.cell.Cell.TheVariants.{Done}
use Rattle.gcd_row.proofs.BodySlots.{block_slot, done_may}
use Rattle.gcd_row.proofs.bodies.RowBoard+Cell+J+H.give_done.Goals as goal

pub change-before-requires-clause-here : goal.change-before-requires-clause-here
change-before-requires-clause-here g c =
    block_slot (shape_of g.H.Handler.kind g.H.Handler.times g.H.Handler.total) (gives_of g.J.Job.gives) c.args.self.now c.args.pass.now c.args.b
    c.requires.pass c.requires.run

pub change-before-requires-clause-may : goal.change-before-requires-clause-may
change-before-requires-clause-may g c =
    let v = view c.args.pass.now in
    done_may (shape_of g.H.Handler.kind g.H.Handler.times g.H.Handler.total) (gives_of g.J.Job.gives) (held_jobs v) v.seen c.args.b (held_run v) c.requires.run
    (Done c.args.value) c.args.value refl c.requires.gives c.requires.zero
