use Rattle.std.proofs.Common.{◌<◌, length, ap, sym, ◌∙◌, subst}
use Rattle.gcd_plan.specs.PlanView.{PlanView}
use Rattle.gcd_refinement.specs.MachineView.{MachineView}
use Rattle.gcd_row.specs.Lying.{IsServed}
use Rattle.gcd_row.specs.Passes.{view}
use Rattle.gcd_row.specs.Shapes.{shape_of, gives_of}
use Rattle.gcd_row.proofs.Passing.{lawful_seen, valid_plan}
use Rattle.gcd_pool.proofs.Cells.{few_events, handler_here, source_known, takes_fit}
use Rattle.gcd_pool.proofs.Told.{machine_plan, stands_as}
use Rattle.gcd_pool.proofs.run_cells.CellRunCells.call_handler.Goals as goal

pub data_of-value-requires : goal.data_of-value-requires
data_of-value-requires g c =
    let shape = shape_of g.H.Handler.kind g.H.Handler.times g.H.Handler.total in
    let known = source_known g.H.Handler.kind g.H.Handler.times g.H.Handler.total g.J.Job.gives c.args.board.now c.args.pass.now c.args.s c.requires.pass c.requires.run in
    subst (λ (q : PlanView). c.args.s.0 < length q.objects)
    (sym (ap (λ (m : MachineView). m.plan) c.machine.ensures ∙ machine_plan shape (gives_of g.J.Job.gives) c.args.board.now c.args.pass.now c.requires.pass)) known

pub take_handler-handler-requires-clause-handler : goal.take_handler-handler-requires-clause-handler
take_handler-handler-requires-clause-handler g c = handler_here g.H.Handler.kind g.H.Handler.times g.H.Handler.total g.J.Job.gives c.args.board.now c.args.pass.now c.args.s c.requires.pass c.requires.run c.requires.fresh

pub take-requires-clause-times_fit : goal.take-requires-clause-times_fit
take-requires-clause-times_fit g c =
    let v = view c.args.pass.now in
    let shape = shape_of g.H.Handler.kind g.H.Handler.times g.H.Handler.total in
    let gives = gives_of g.J.Job.gives in
    let h = c.take_handler-handler.result in
    let few = few_events shape gives c.args.board.now c.args.pass.now c.most-most.result c.requires.pass c.most-most.ensures c.most-most.type_inv in
    (takes_fit v.terms.plan v.seen c.args.s.0 (g.H.Handler.kind h) (g.H.Handler.times h) (g.H.Handler.total h) c.data_of-value.result
    (valid_plan shape gives c.args.board.now c.args.pass.now c.requires.pass) (lawful_seen shape gives c.args.board.now c.args.pass.now c.requires.pass) few
    c.take_handler-handler.ensures.kind c.take_handler-handler.ensures.untaken
    (c.data_of-value.ensures v.terms.plan v.seen (stands_as shape gives c.args.board.now c.args.pass.now c.requires.pass c.machine.result.now c.machine.ensures))).times_fit

pub take-requires-clause-total_fits : goal.take-requires-clause-total_fits
take-requires-clause-total_fits g c =
    let v = view c.args.pass.now in
    let shape = shape_of g.H.Handler.kind g.H.Handler.times g.H.Handler.total in
    let gives = gives_of g.J.Job.gives in
    let h = c.take_handler-handler.result in
    let few = few_events shape gives c.args.board.now c.args.pass.now c.most-most.result c.requires.pass c.most-most.ensures c.most-most.type_inv in
    (takes_fit v.terms.plan v.seen c.args.s.0 (g.H.Handler.kind h) (g.H.Handler.times h) (g.H.Handler.total h) c.data_of-value.result
    (valid_plan shape gives c.args.board.now c.args.pass.now c.requires.pass) (lawful_seen shape gives c.args.board.now c.args.pass.now c.requires.pass) few
    c.take_handler-handler.ensures.kind c.take_handler-handler.ensures.untaken
    (c.data_of-value.ensures v.terms.plan v.seen (stands_as shape gives c.args.board.now c.args.pass.now c.requires.pass c.machine.result.now c.machine.ensures))).total_fits

pub give_handler-requires-clause-served : goal.give_handler-requires-clause-served
give_handler-requires-clause-served g c =
    let v = view c.args.pass.now in
    let shape = shape_of g.H.Handler.kind g.H.Handler.times g.H.Handler.total in
    let gives = gives_of g.J.Job.gives in
    let h = c.take_handler-handler.result in
    let few = few_events shape gives c.args.board.now c.args.pass.now c.most-most.result c.requires.pass c.most-most.ensures c.most-most.type_inv in
    let fit = takes_fit v.terms.plan v.seen c.args.s.0 (g.H.Handler.kind h) (g.H.Handler.times h) (g.H.Handler.total h) c.data_of-value.result
    (valid_plan shape gives c.args.board.now c.args.pass.now c.requires.pass) (lawful_seen shape gives c.args.board.now c.args.pass.now c.requires.pass) few
    c.take_handler-handler.ensures.kind c.take_handler-handler.ensures.untaken
    (c.data_of-value.ensures v.terms.plan v.seen (stands_as shape gives c.args.board.now c.args.pass.now c.requires.pass c.machine.result.now c.machine.ensures)) in
    subst (λ x. IsServed x.terms.plan x.seen c.args.s.0 (g.H.Handler.times c.take.new.self) (g.H.Handler.total c.take.new.self)) (sym c.take_handler-handler.ensures.view)
    (record { all_times = c.take.ensures.once_more ∙ fit.served.all_times; all_data = c.take.ensures.folded_in ∙ fit.served.all_data })
