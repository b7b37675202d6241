use Rattle.std.proofs.Common.{◌<◌, ℕ, None, Some, ap, inl, inr, length, refl, rules, sym, subst, ◌∙◌}
use Rattle.gcd_plan.specs.PlanView.{PlanView}
use Rattle.gcd_plan.specs.declared.numbers.Obj.{Obj}
use Rattle.gcd_refinement.specs.MachineView.{MachineView}
use Rattle.gcd_row.specs.Passes.{view}
use Rattle.gcd_pool.specs.Due.{BeginsThere, IsAt}
use Rattle.gcd_pool.proofs.Laid.{missed_out, with_drain}
use Rattle.gcd_pool.proofs.Placing.{begins_none, begins_out}
use Rattle.gcd_pool.proofs.Told.{begin_there, begins_there, machine_plan}
use Rattle.gcd_pool.proofs.Due.{none_due, out_due, put_due}
use Rattle.gcd_pool.proofs.drains.begin_near.Goals as goal

pub begin_on-requires : goal.begin_on-requires
begin_on-requires g c =
    let rack = c.args.pool.now.rack.now in
    let of = c.requires.ready.of in
    subst (λ (q : PlanView). c.node.result.0 < length q.objects)
    (of.rack ∙ sym (ap (λ (m : MachineView). m.plan) c.machine.ensures ∙ machine_plan g.S.Slot.shape g.S.Slot.gives c.args.pool.now.board.now c.args.hand.now.pass of.pass))
    (subst (λ (n : ℕ). c.node.result.0 < n) rack.placed
    (subst (λ (o : Obj). o.0 < rack.places.shared.table_id.slots) (sym c.node.ensures) c.in-Some.ensures.drain.node))

pub begin_with-requires-clause-worker : goal.begin_with-requires-clause-worker
begin_with-requires-clause-worker g c =
    (begins_there g.S.Slot.shape g.S.Slot.gives c.args.pool.now.board.now c.args.hand.now.pass c.requires.ready.of.pass c.machine.result.now c.worker-worker.result c.node.result c.in-Some-begin_on.e
    c.machine.ensures c.worker-worker.ensures c.in-Some-begin_on.ensures).worker

pub begin_with-requires-clause-begins : goal.begin_with-requires-clause-begins
begin_with-requires-clause-begins g c =
    (begins_there g.S.Slot.shape g.S.Slot.gives c.args.pool.now.board.now c.args.hand.now.pass c.requires.ready.of.pass c.machine.result.now c.worker-worker.result c.node.result c.in-Some-begin_on.e
    c.machine.ensures c.worker-worker.ensures c.in-Some-begin_on.ensures).node ∙ ap (λ (o : Obj). Some o) c.node.ensures

pub begin_with-requires-clause-may : goal.begin_with-requires-clause-may
begin_with-requires-clause-may g c =
    (begins_there g.S.Slot.shape g.S.Slot.gives c.args.pool.now.board.now c.args.hand.now.pass c.requires.ready.of.pass c.machine.result.now c.worker-worker.result c.node.result c.in-Some-begin_on.e
    c.machine.ensures c.worker-worker.ensures c.in-Some-begin_on.ensures).may

pub begin_with-requires-clause-work : goal.begin_with-requires-clause-work
begin_with-requires-clause-work g c =
    (begins_there g.S.Slot.shape g.S.Slot.gives c.args.pool.now.board.now c.args.hand.now.pass c.requires.ready.of.pass c.machine.result.now c.worker-worker.result c.node.result c.in-Some-begin_on.e
    c.machine.ensures c.worker-worker.ensures c.in-Some-begin_on.ensures).work

pub returns-in_default-clause-laid : goal.returns-in_default-clause-laid
returns-in_default-clause-laid g c = inr c.in_default.ensures.none

pub returns-in_default-clause-begun : goal.returns-in_default-clause-begun
returns-in_default-clause-begun g c = begins_out c.args.node (view c.args.hand.now.pass) (view c.args.hand.now.pass) refl

pub returns-in_default-clause-out : goal.returns-in_default-clause-out
returns-in_default-clause-out g c = missed_out c.args.node c.args.hand.now.bench c.find_drain.new.bench c.in_default.ensures.out

pub returns-in-Some-begin_on-clause-laid : goal.returns-in-Some-begin_on-clause-laid
returns-in-Some-begin_on-clause-laid g c = inl (record { found = c.find_drain.new.bench; drain = c.in-Some.drain; took = c.in-Some.ensures.found; laid = c.begin_with.ensures.laid })

pub returns-in-Some-begin_on-clause-begun : goal.returns-in-Some-begin_on-clause-begun
returns-in-Some-begin_on-clause-begun g c = c.begin_with.ensures.begun c.args.node

pub returns-in-Some-begin_on-clause-out : goal.returns-in-Some-begin_on-clause-out
returns-in-Some-begin_on-clause-out g c = with_drain c.begin_with.result (view c.args.hand.now.pass) (view c.begin_with.new.hand.pass) c.args.hand.now.bench c.begin_with.new.hand.bench c.begin_with.ensures.begun

pub returns-in-None-clause-laid : goal.returns-in-None-clause-laid
returns-in-None-clause-laid g c = inl (record { found = c.find_drain.new.bench; drain = c.in-Some.drain; took = c.in-Some.ensures.found; laid = inl (c.sleep.ensures.same, search rules) })

pub returns-in-None-clause-begun : goal.returns-in-None-clause-begun
returns-in-None-clause-begun g c = begins_none c.args.node (view c.args.hand.now.pass) (view c.args.hand.now.pass) refl

pub returns-in-None-clause-out : goal.returns-in-None-clause-out
returns-in-None-clause-out g c =
    with_drain _ (view c.args.hand.now.pass) (view c.args.hand.now.pass) c.args.hand.now.bench c.sleep.new.bench
    (λ node. begins_none node (view c.args.hand.now.pass) (view c.args.hand.now.pass) refl)

pub returns-in_default-clause-due : goal.returns-in_default-clause-due
returns-in_default-clause-due g c = out_due BeginsThere (IsAt c.args.node) c.args.node (view c.args.hand.now.pass) (view c.args.hand.now.pass) c.args.hand.now.bench c.find_drain.new.bench refl

pub returns-in-Some-begin_on-clause-due : goal.returns-in-Some-begin_on-clause-due
returns-in-Some-begin_on-clause-due g c =
    let at = begins_there g.S.Slot.shape g.S.Slot.gives c.args.pool.now.board.now c.args.hand.now.pass c.requires.ready.of.pass c.machine.result.now c.worker-worker.result c.node.result c.in-Some-begin_on.e
    c.machine.ensures c.worker-worker.ensures c.in-Some-begin_on.ensures in
    put_due BeginsThere (IsAt c.args.node) c.in-Some-begin_on.e c.begin_with.result (view c.args.hand.now.pass) (view c.begin_with.new.hand.pass) c.args.hand.now.bench c.begin_with.new.hand.bench (
      record { found = c.find_drain.new.bench; drain = c.in-Some.drain; took = c.in-Some.ensures.found; laid = c.begin_with.ensures.laid },
      begin_there g.S.Slot.shape g.S.Slot.gives c.args.pool.now.board.now c.args.hand.now.pass c.requires.ready.of.pass c.machine.result.now c.worker-worker.result c.node.result _ (Some c.in-Some-begin_on.e)
          c.machine.ensures c.worker-worker.ensures c.node.ensures c.in-Some-begin_on.ensures,
    )
    at.worker at.work at.may c.begin_with.ensures.put

pub returns-in-None-clause-due : goal.returns-in-None-clause-due
returns-in-None-clause-due g c =
    none_due BeginsThere (IsAt c.args.node) c.args.node (view c.args.hand.now.pass) (view c.args.hand.now.pass) c.args.hand.now.bench c.sleep.new.bench refl
    (record { found = c.find_drain.new.bench; drain = c.in-Some.drain; took = c.in-Some.ensures.found; laid = inl (c.sleep.ensures.same, search rules) })
    (begin_there g.S.Slot.shape g.S.Slot.gives c.args.pool.now.board.now c.args.hand.now.pass c.requires.ready.of.pass c.machine.result.now c.worker-worker.result c.node.result _ None
    c.machine.ensures c.worker-worker.ensures c.node.ensures c.in-None.ensures)
