use Rattle.std.proofs.Common.{◌≡◌, ℕ, ◌+◌, get_or, ap, ◌∙◌, subst}
use Rattle.gcd_event.specs.declared.event.Event.TheVariants.{Start}
use Rattle.gcd_refinement.specs.MachineView.{MachineView}
use Rattle.gcd_plan.specs.declared.numbers.Blk.{Blk}
use Rattle.gcd_machine.specs.Conditions.{CanRun}
use Rattle.gcd_machine.specs.Inside.{view_of}
use Rattle.gcd_machine.specs.Steps.{closed_block, ended, passed, stepped}
use Rattle.gcd_machine.proofs.Conditions.KeptAtEnds.{may_end_waits, may_leave, end_is}
use Rattle.gcd_machine.proofs.Steps.Passing.{cell_read, passed_is}
use Rattle.gcd_machine.proofs.registers.Registers.run_through.Goals as goal

-- what is left of the run where it has closed
closed_is : (m before after : MachineView) (w : ℕ) (b : Blk) → CanRun m w b → before ≡ m → after ≡ passed m b
    → record after { len = before.len + 1 } ≡ closed_block (stepped m (Start w b)) w b
closed_is m before after w b can same is =
    ap (λ (x : MachineView). record x { len = before.len + 1 }) is
    ∙ (ap (λ (x : MachineView). record (passed m b) { len = x.len + 1 }) same
    ∙ passed_is m w b can.starts.changes can.free)

pub end_waits-requires : goal.end_waits-requires
end_waits-requires c =
    let m = c.args.self.now in
    let b = c.args.blk in
    let can = c.requires.can in
    let w = c.requires.worker in
    let read = c.index-cell.result.now in
    let is = subst (λ x. read ≡ get_or x.blocks b.0 read) c.self.view_is c.index-cell.ensures in
    let closed = closed_is m (view_of c.self.inside) (view_of c.self-2.inside) w b can c.self.view_is (c.self-2.view_is ∙ c.pass.ensures) in
    rw c.caller.ensures (may_end_waits (stepped m (Start w b)) (cell_read m w b read can.starts.changes.blk is) closed c.tell.ensures.told can.ends.changes)

pub leave_group-requires : goal.leave_group-requires
leave_group-requires c =
    let m = c.args.self.now in
    let b = c.args.blk in
    let can = c.requires.can in
    let w = c.requires.worker in
    let read = c.index-cell.result.now in
    let is = subst (λ x. read ≡ get_or x.blocks b.0 read) c.self.view_is c.index-cell.ensures in
    let closed = closed_is m (view_of c.self.inside) (view_of c.self-2.inside) w b can c.self.view_is (c.self-2.view_is ∙ c.pass.ensures) in
    rw c.group.ensures
    (may_leave (stepped m (Start w b)) (cell_read m w b read can.starts.changes.blk is) closed c.tell.ensures.leaves (rw c.caller.ensures at c.end_waits.ensures) can.ends.changes)

pub returns : goal.returns
returns c = λ w can.
    let m = c.args.self.now in
    let b = c.args.blk in
    let read = c.index-cell.result.now in
    let is = subst (λ x. read ≡ get_or x.blocks b.0 read) c.self.view_is c.index-cell.ensures in
    let closed = closed_is m (view_of c.self.inside) (view_of c.self-2.inside) w b can c.self.view_is (c.self-2.view_is ∙ c.pass.ensures) in
    let over =
    end_is (stepped m (Start w b)) (cell_read m w b read can.starts.changes.blk is) closed c.tell.ensures.told (rw c.caller.ensures at c.end_waits.ensures) (rw c.group.ensures at c.leave_group.ensures)
    can.ends.changes in
    ap (λ (x : MachineView). record x { len = c.self.inside.len + 1 + 1 }) (c.self-3.view_is ∙ over)
    ∙ ap (λ (x : MachineView). record (ended (stepped m (Start w b)) w b) { len = x.len + 1 + 1 }) c.self.view_is
