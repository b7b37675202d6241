use Rattle.std.proofs.Common.{ap, sym, subst, ◌∙◌}
use Rattle.gcd_refinement.specs.MachineView.{MachineView}
use Rattle.gcd_machine.specs.Conditions.{CanTake}
use Rattle.gcd_machine.specs.Steps.{stepped}
use Rattle.gcd_machine.proofs.Conditions.All.{may_take}
use Rattle.gcd_machine.proofs.Steps.Applied.{next_stands, next_shaped, next_plan}
use Rattle.gcd_machine.proofs.machine.Machine.apply.Goals as goal

pub apply-requires : goal.apply-requires
apply-requires c = subst (λ m. CanTake m c.args.e) (sym c.self.view_is) (may_take c.args.self.now c.args.e c.requires)

pub invariant_of-self : goal.invariant_of-self
invariant_of-self c =
    next_shaped c.args.self.now _ c.args.e (c.apply.ensures ∙ ap (λ (m : MachineView). stepped m c.args.e) c.self.view_is) c.requires

pub returns-clause-plan : goal.returns-clause-plan
returns-clause-plan c =
    next_plan c.args.self.now _ c.args.e (c.apply.ensures ∙ ap (λ (m : MachineView). stepped m c.args.e) c.self.view_is) c.requires

pub returns-clause-stands : goal.returns-clause-stands
returns-clause-stands c =
    next_stands c.args.self.now _ c.args.e (c.apply.ensures ∙ ap (λ (m : MachineView). stepped m c.args.e) c.self.view_is)
