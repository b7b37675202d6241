use Rattle.std.proofs.Common.{sym, subst}
use Rattle.gcd_tree.specs.IsTree.{IsTree}
use Rattle.gcd_refinement.specs.MachineView.{MachineView}
use Rattle.gcd_drain.proofs.HeldAfter.{held_with_active}
use Rattle.gcd_machine.proofs.registers.Registers.activate.Goals as goal

pub rehold-requires-clause-others : goal.rehold-requires-clause-others
rehold-requires-clause-others c =
    let valid = subst (λ (m : MachineView). IsTree m.tree) (sym c.self.view_is) c.valid_tree.ensures in
    let i = c.self.inside in
    rw c.activate.ensures (held_with_active i.held i.tree i.holds c.self.invariant.are valid c.args.o.0)
