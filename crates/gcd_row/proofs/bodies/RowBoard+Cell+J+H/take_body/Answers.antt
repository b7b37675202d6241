use Rattle.std.proofs.Common.{◌∷◌, [], ◌∙◌, ap, refl}
use Rattle.gcd_row.specs.Jobs.{held_jobs}
use Rattle.gcd_row.specs.Passes.{view}
use Rattle.gcd_row.specs.Shapes.{shape_of, gives_of}
use Rattle.gcd_row.specs.Views.{held_run}
use Rattle.gcd_row.specs.declared.cell.Cell.TheVariants.{Away, Body}
use Rattle.gcd_row.proofs.BodySlots.{away_may, body_gives}
use Rattle.gcd_row.proofs.bodies.RowBoard+Cell+J+H.take_body.Goals as goal

pub change-requires-clause-may : goal.change-requires-clause-may
change-requires-clause-may g c =
    let v = view c.args.pass.now in
    away_may (shape_of g.H.Handler.kind g.H.Handler.times g.H.Handler.total) (gives_of g.J.Job.gives) (held_jobs v) v.seen c.args.b (held_run v) c.requires.run
    Away refl c.requires.uncancelled

pub returns-clause-gives : goal.returns-clause-gives
returns-clause-gives g c = λ value may first at.
    body_gives (shape_of g.H.Handler.kind g.H.Handler.times g.H.Handler.total) (gives_of g.J.Job.gives) c.args.self.now c.args.pass.now c.args.b
    (Body c.in-Body.job) c.requires.pass c.requires.run (c.change.ensures.before ∙ ap (λ x. (c.args.b.0, x) ∷ []) c.in-Body.is) refl value may first at
