use Rattle.std.proofs.Common.{◌∙◌, ap, subst, sym}
use Rattle.std.proofs.lemmas.Bool.{both_ways}
use Rattle.gcd_row.specs.Jobs.{held_jobs}
use Rattle.gcd_row.specs.Passes.{view}
use Rattle.gcd_row.specs.Shapes.{MayGive, shape_of, gives_of}
use Rattle.gcd_row.specs.Views.{knows_cancelled}
use Rattle.gcd_pool.proofs.Cells.{body_here}
use Rattle.gcd_pool.proofs.Told.{stands_as}
use Rattle.gcd_pool.proofs.run_cells.CellRunCells.run_body.Goals as goal

-- ## Of a cancelled block

pub give_done-requires-clause-away : goal.give_done-requires-clause-away
give_done-requires-clause-away g c = λ works.
    let v = view c.args.pass.now in
    let stands = stands_as (shape_of g.H.Handler.kind g.H.Handler.times g.H.Handler.total) (gives_of g.J.Job.gives) c.args.board.now c.args.pass.now
    c.requires.pass c.machine.result.now c.machine.ensures in
    absurd (both_ways (knows_cancelled v c.args.b.0) works (sym (c.is_cancelled.ensures v.terms.plan v.seen stands) ∙ c.if-is_cancelled.true))

pub give_done-requires-clause-gives : goal.give_done-requires-clause-gives
give_done-requires-clause-gives g c = λ works.
    let v = view c.args.pass.now in
    let stands = stands_as (shape_of g.H.Handler.kind g.H.Handler.times g.H.Handler.total) (gives_of g.J.Job.gives) c.args.board.now c.args.pass.now
    c.requires.pass c.machine.result.now c.machine.ensures in
    absurd (both_ways (knows_cancelled v c.args.b.0) works (sym (c.is_cancelled.ensures v.terms.plan v.seen stands) ∙ c.if-is_cancelled.true))

pub give_done-requires-clause-body : goal.give_done-requires-clause-body
give_done-requires-clause-body g c = λ marked.
    body_here g.H.Handler.kind g.H.Handler.times g.H.Handler.total g.J.Job.gives c.args.board.now c.args.pass.now c.args.b c.requires.pass c.requires.run c.requires.fresh

-- ## Of another

pub take_body-job-requires-clause-uncancelled : goal.take_body-job-requires-clause-uncancelled
take_body-job-requires-clause-uncancelled g c =
    let v = view c.args.pass.now in
    let stands = stands_as (shape_of g.H.Handler.kind g.H.Handler.times g.H.Handler.total) (gives_of g.J.Job.gives) c.args.board.now c.args.pass.now
    c.requires.pass c.machine.result.now c.machine.ensures in
    sym (c.is_cancelled.ensures v.terms.plan v.seen stands) ∙ c.if-is_cancelled.false

pub take_body-job-requires-clause-body : goal.take_body-job-requires-clause-body
take_body-job-requires-clause-body g c =
    body_here g.H.Handler.kind g.H.Handler.times g.H.Handler.total g.J.Job.gives c.args.board.now c.args.pass.now c.args.b c.requires.pass c.requires.run c.requires.fresh

pub give_done-requires-2-clause-gives : goal.give_done-requires-2-clause-gives
give_done-requires-2-clause-gives g c = λ works.
    subst (λ v. MayGive g.J.Job.gives (held_jobs v) c.args.b.0 c.run.result) (sym c.take_body-job.ensures.view) (c.take_body-job.ensures.gives c.run.result c.run.ensures)

pub give_done-requires-2-clause-body : goal.give_done-requires-2-clause-body
give_done-requires-2-clause-body g c = λ marked.
    let v = view c.args.pass.now in
    let stands = stands_as (shape_of g.H.Handler.kind g.H.Handler.times g.H.Handler.total) (gives_of g.J.Job.gives) c.args.board.now c.args.pass.now
    c.requires.pass c.machine.result.now c.machine.ensures in
    absurd (both_ways (knows_cancelled v c.args.b.0) (sym (c.is_cancelled.ensures v.terms.plan v.seen stands) ∙ c.if-is_cancelled.false)
    (sym (ap (λ w. knows_cancelled w c.args.b.0) c.take_body-job.ensures.view) ∙ marked))

pub give_done-requires-2-clause-zero : goal.give_done-requires-2-clause-zero
give_done-requires-2-clause-zero g c = λ marked.
    let v = view c.args.pass.now in
    let stands = stands_as (shape_of g.H.Handler.kind g.H.Handler.times g.H.Handler.total) (gives_of g.J.Job.gives) c.args.board.now c.args.pass.now
    c.requires.pass c.machine.result.now c.machine.ensures in
    absurd (both_ways (knows_cancelled v c.args.b.0) (sym (c.is_cancelled.ensures v.terms.plan v.seen stands) ∙ c.if-is_cancelled.false)
    (sym (ap (λ w. knows_cancelled w c.args.b.0) c.take_body-job.ensures.view) ∙ marked))
