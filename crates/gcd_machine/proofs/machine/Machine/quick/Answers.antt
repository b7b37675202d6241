use Rattle.std.proofs.Common.{ap, sym, subst, ◌∙◌}
use Rattle.gcd_refinement.specs.MachineView.{MachineView}
use Rattle.gcd_machine.specs.Quick.{MayStep}
use Rattle.gcd_machine.specs.Stands.{StandsFor}
use Rattle.gcd_machine.proofs.Choice.QuickSteps.{chosen_applies, quick_chosen, quick_plan, quick_shaped, quick_taken}
use Rattle.gcd_machine.proofs.Conditions.All.{may_take}
use Rattle.gcd_machine.proofs.machine.Machine.quick.Goals as goal

pub quick-requires-clause-takes : goal.quick-requires-clause-takes
quick-requires-clause-takes c = λ e chosen.
    let m = c.self.inside.registers in
    may_take m e (chosen_applies m c.args.worker e (subst MayStep (sym c.self.view_is) c.requires) chosen)

pub invariant_of-self : goal.invariant_of-self
invariant_of-self c =
    quick_shaped c.self.inside.registers c.quick.new.self c.args.worker c.quick.result c.self.invariant (subst MayStep (sym c.self.view_is) c.requires) c.quick.ensures

pub returns-clause-plan : goal.returns-clause-plan
returns-clause-plan c =
    quick_plan c.self.inside.registers c.quick.new.self c.args.worker c.quick.result (subst MayStep (sym c.self.view_is) c.requires) c.quick.ensures
    ∙ ap (λ (m : MachineView). m.plan) c.self.view_is

pub returns-clause-choice : goal.returns-clause-choice
returns-clause-choice c = λ plan h stands.
    quick_chosen c.self.inside.registers c.quick.new.self c.args.worker c.quick.result c.quick.ensures plan h
    (subst (λ (m : MachineView). StandsFor m plan h) (sym c.self.view_is) stands)

pub returns-clause-taken : goal.returns-clause-taken
returns-clause-taken c = λ plan h stands.
    quick_taken c.self.inside.registers c.quick.new.self c.args.worker c.quick.result c.quick.ensures plan h
    (subst (λ (m : MachineView). StandsFor m plan h) (sym c.self.view_is) stands)
