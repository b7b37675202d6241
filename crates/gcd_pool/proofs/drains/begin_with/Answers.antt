use Rattle.std.proofs.Common.{ap, subst, sym, ◌∙◌}
use Rattle.gcd_machine.specs.declared.put.Put.{Put}
use Rattle.gcd_refinement.specs.MachineView.{MachineView}
use Rattle.gcd_row.specs.Passes.{view}
use Rattle.gcd_row.specs.declared.view.View.{View}
use Rattle.gcd_pool.specs.Throughs.{SaysThrough}
use Rattle.gcd_pool.proofs.Throughs.{barred_none, full_none, held_none, outcome_adds, outcome_fresh, placed_one}
use Rattle.gcd_pool.proofs.Placing.{begins_none, begins_one, begins_stopped}
use Rattle.gcd_pool.proofs.Told.{machine_plan}
use Rattle.gcd_pool.proofs.Due.{barred_put, full_put, held_put, placed_put}
use Rattle.gcd_pool.proofs.drains.begin_with.Goals as goal

pub others_may_begin-more-requires-clause-plan : goal.others_may_begin-more-requires-clause-plan
others_may_begin-more-requires-clause-plan g c =
    ap (λ (m : MachineView). m.plan) c.machine.ensures
    ∙ machine_plan g.S.Slot.shape g.S.Slot.gives c.args.pool.now.board.now c.put_chosen_through.new.hand.pass c.put_chosen_through.ensures.serving.of.pass
    ∙ ap (λ (x : View g.row.S.Denot). x.terms.plan) c.put_chosen_through.ensures.serving.view.is
    ∙ sym c.requires.ready.of.plan

pub returns-in-Placed-clause-work : goal.returns-in-Placed-clause-work
returns-in-Placed-clause-work g c =
    outcome_adds g.S.Slot.shape g.S.Slot.gives c.args.pool.now.board.now c.args.e c.args.hand.now.pass c.put_chosen_through.new.hand.pass c.put_chosen_through.result c.requires.work c.put_chosen_through.ensures.said

pub returns-in-Barred-clause-work : goal.returns-in-Barred-clause-work
returns-in-Barred-clause-work g c =
    outcome_adds g.S.Slot.shape g.S.Slot.gives c.args.pool.now.board.now c.args.e c.args.hand.now.pass c.put_chosen_through.new.hand.pass c.put_chosen_through.result c.requires.work c.put_chosen_through.ensures.said

pub returns-in-Held-clause-work : goal.returns-in-Held-clause-work
returns-in-Held-clause-work g c =
    outcome_adds g.S.Slot.shape g.S.Slot.gives c.args.pool.now.board.now c.args.e c.args.hand.now.pass c.put_chosen_through.new.hand.pass c.put_chosen_through.result c.requires.work c.put_chosen_through.ensures.said

pub returns-in-Full-clause-work : goal.returns-in-Full-clause-work
returns-in-Full-clause-work g c =
    outcome_adds g.S.Slot.shape g.S.Slot.gives c.args.pool.now.board.now c.args.e c.args.hand.now.pass c.put_chosen_through.new.hand.pass c.put_chosen_through.result c.requires.work c.put_chosen_through.ensures.said

pub returns-in-Placed-clause-after : goal.returns-in-Placed-clause-after
returns-in-Placed-clause-after g c =
    outcome_fresh g.S.Slot.shape g.S.Slot.gives c.args.pool.now.board.now c.args.e c.args.hand.now.pass c.put_chosen_through.new.hand.pass c.put_chosen_through.result c.put_chosen_through.ensures.serving.of.pass
    c.requires.worker c.put_chosen_through.ensures.said c.requires.ready.fresh

pub returns-in-Barred-clause-after : goal.returns-in-Barred-clause-after
returns-in-Barred-clause-after g c =
    outcome_fresh g.S.Slot.shape g.S.Slot.gives c.args.pool.now.board.now c.args.e c.args.hand.now.pass c.put_chosen_through.new.hand.pass c.put_chosen_through.result c.put_chosen_through.ensures.serving.of.pass
    c.requires.worker c.put_chosen_through.ensures.said c.requires.ready.fresh

pub returns-in-Full-clause-after : goal.returns-in-Full-clause-after
returns-in-Full-clause-after g c =
    outcome_fresh g.S.Slot.shape g.S.Slot.gives c.args.pool.now.board.now c.args.e c.args.hand.now.pass c.put_chosen_through.new.hand.pass c.put_chosen_through.result c.put_chosen_through.ensures.serving.of.pass
    c.requires.worker c.put_chosen_through.ensures.said c.requires.ready.fresh

pub returns-in-Placed-clause-begun : goal.returns-in-Placed-clause-begun
returns-in-Placed-clause-begun g c = λ node.
    let v = view c.args.hand.now.pass in
    let said = subst (λ (o : Put). SaysThrough g.S.Slot.shape g.S.Slot.gives c.args.pool.now.board.now c.args.e c.args.hand.now.pass c.put_chosen_through.new.hand.pass o) c.in-Placed.is c.put_chosen_through.ensures.said in
    begins_one v.terms.plan v.seen c.args.e _ node v (view c.put_chosen_through.new.hand.pass) c.requires.begins (placed_one g.S.Slot.shape g.S.Slot.gives c.args.pool.now.board.now c.args.e c.args.hand.now.pass c.put_chosen_through.new.hand.pass c.in-Placed.field-0 said)

pub returns-in-Barred-clause-begun : goal.returns-in-Barred-clause-begun
returns-in-Barred-clause-begun g c = λ node.
    let said = subst (λ (o : Put). SaysThrough g.S.Slot.shape g.S.Slot.gives c.args.pool.now.board.now c.args.e c.args.hand.now.pass c.put_chosen_through.new.hand.pass o) c.in-Barred.is c.put_chosen_through.ensures.said in
    begins_none node (view c.args.hand.now.pass) (view c.put_chosen_through.new.hand.pass) (barred_none g.S.Slot.shape g.S.Slot.gives c.args.pool.now.board.now c.args.e c.args.hand.now.pass c.put_chosen_through.new.hand.pass c.in-Barred.at c.in-Barred.why said)

pub returns-in-Full-clause-begun : goal.returns-in-Full-clause-begun
returns-in-Full-clause-begun g c = λ node.
    let said = subst (λ (o : Put). SaysThrough g.S.Slot.shape g.S.Slot.gives c.args.pool.now.board.now c.args.e c.args.hand.now.pass c.put_chosen_through.new.hand.pass o) c.in-Full.is c.put_chosen_through.ensures.said in
    begins_none node (view c.args.hand.now.pass) (view c.put_chosen_through.new.hand.pass) (full_none g.S.Slot.shape g.S.Slot.gives c.args.pool.now.board.now c.args.e c.args.hand.now.pass c.put_chosen_through.new.hand.pass said)

pub returns-in-Held-clause-begun : goal.returns-in-Held-clause-begun
returns-in-Held-clause-begun g c = λ node.
    let said = subst (λ (o : Put). SaysThrough g.S.Slot.shape g.S.Slot.gives c.args.pool.now.board.now c.args.e c.args.hand.now.pass c.put_chosen_through.new.hand.pass o) c.in-Held.is c.put_chosen_through.ensures.said in
    begins_stopped node (view c.args.hand.now.pass) (view c.put_chosen_through.new.hand.pass) (held_none g.S.Slot.shape g.S.Slot.gives c.args.pool.now.board.now c.args.e c.args.hand.now.pass c.put_chosen_through.new.hand.pass c.in-Held.by c.in-Held.passed said)

pub returns-in-Placed-clause-put : goal.returns-in-Placed-clause-put
returns-in-Placed-clause-put g c =
    let said = subst (λ (o : Put). SaysThrough g.S.Slot.shape g.S.Slot.gives c.args.pool.now.board.now c.args.e c.args.hand.now.pass c.put_chosen_through.new.hand.pass o) c.in-Placed.is c.put_chosen_through.ensures.said in
    placed_put g.S.Slot.shape g.S.Slot.gives c.args.pool.now.board.now c.args.e c.args.hand.now.pass c.put_chosen_through.new.hand.pass c.in-Placed.field-0 said

pub returns-in-Barred-clause-put : goal.returns-in-Barred-clause-put
returns-in-Barred-clause-put g c =
    let said = subst (λ (o : Put). SaysThrough g.S.Slot.shape g.S.Slot.gives c.args.pool.now.board.now c.args.e c.args.hand.now.pass c.put_chosen_through.new.hand.pass o) c.in-Barred.is c.put_chosen_through.ensures.said in
    barred_put g.S.Slot.shape g.S.Slot.gives c.args.pool.now.board.now c.args.e c.args.hand.now.pass c.put_chosen_through.new.hand.pass c.in-Barred.at c.in-Barred.why c.put_chosen_through.ensures.serving.view said

pub returns-in-Full-clause-put : goal.returns-in-Full-clause-put
returns-in-Full-clause-put g c =
    let said = subst (λ (o : Put). SaysThrough g.S.Slot.shape g.S.Slot.gives c.args.pool.now.board.now c.args.e c.args.hand.now.pass c.put_chosen_through.new.hand.pass o) c.in-Full.is c.put_chosen_through.ensures.said in
    full_put g.S.Slot.shape g.S.Slot.gives c.args.pool.now.board.now c.args.e c.args.hand.now.pass c.put_chosen_through.new.hand.pass said

pub returns-in-Held-clause-put : goal.returns-in-Held-clause-put
returns-in-Held-clause-put g c =
    let said = subst (λ (o : Put). SaysThrough g.S.Slot.shape g.S.Slot.gives c.args.pool.now.board.now c.args.e c.args.hand.now.pass c.put_chosen_through.new.hand.pass o) c.in-Held.is c.put_chosen_through.ensures.said in
    held_put g.S.Slot.shape g.S.Slot.gives c.args.pool.now.board.now c.args.e c.args.hand.now.pass c.put_chosen_through.new.hand.pass c.in-Held.by c.in-Held.passed said
