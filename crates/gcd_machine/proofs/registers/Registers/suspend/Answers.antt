use Rattle.std.proofs.Common.{◌+◌, length, ap, sym, subst, ◌∙◌, arith, length-set}
use Rattle.gcd_tree.specs.IsTree.{IsTree}
use Rattle.gcd_hold.specs.HoldsView.{hold_at}
use Rattle.gcd_refinement.specs.MachineView.{MachineView}
use Rattle.gcd_drain.proofs.HeldAfter.{held_with_hold}
use Rattle.gcd_machine.proofs.registers.Registers.suspend.Goals as goal

pub rehold-requires-clause-object : goal.rehold-requires-clause-object
rehold-requires-clause-object c =
    let holds = ap (λ (m : MachineView). length m.holds.holds) c.self.view_is in
    omega (arith, holds, c.requires.object, c.self.invariant.long)

pub rehold-requires-clause-holds : goal.rehold-requires-clause-holds
rehold-requires-clause-holds c =
    rw c.suspend.ensures (length-set c.self.inside.holds.holds c.args.o.0 (hold_at c.self.inside.holds c.args.o.0 + 1) ∙ c.self.invariant.long)

pub rehold-requires-clause-others : goal.rehold-requires-clause-others
rehold-requires-clause-others c =
    let valid = subst (λ (m : MachineView). IsTree m.tree) (sym c.self.view_is) c.valid_tree.ensures in
    rw c.suspend.ensures (held_with_hold c.self.inside.held c.self.inside.tree c.self.inside.holds c.self.invariant.are valid c.args.o.0 (hold_at c.self.inside.holds c.args.o.0 + 1))
