use Rattle.std.proofs.Common.{ap, sym, subst, ◌∙◌}
use Rattle.gcd_refinement.specs.MachineView.{MachineView}
use Rattle.gcd_machine.specs.Quick.{MayStepTwice}
use Rattle.gcd_machine.specs.Stands.{StandsFor}
use Rattle.gcd_machine.proofs.Choice.RunSteps.{can_run, run_fits, run_none, run_plan, run_shaped, run_taken}
use Rattle.gcd_machine.proofs.machine.Machine.quick_run.Goals as goal

pub quick_run-requires-clause-starts : goal.quick_run-requires-clause-starts
quick_run-requires-clause-starts c = λ b chosen.
    run_fits c.self.inside.registers c.args.worker b c.self.invariant (subst MayStepTwice (sym c.self.view_is) c.requires) chosen

pub quick_run-requires-clause-runs : goal.quick_run-requires-clause-runs
quick_run-requires-clause-runs c = λ b due. can_run c.self.inside.registers c.args.worker b (subst MayStepTwice (sym c.self.view_is) c.requires) due

pub invariant_of-self : goal.invariant_of-self
invariant_of-self c =
    run_shaped c.self.inside.registers c.quick_run.new.self c.args.worker c.quick_run.result c.self.invariant (subst MayStepTwice (sym c.self.view_is) c.requires) c.quick_run.ensures

pub returns-clause-plan : goal.returns-clause-plan
returns-clause-plan c =
    run_plan c.self.inside.registers c.quick_run.new.self c.args.worker c.quick_run.result (subst MayStepTwice (sym c.self.view_is) c.requires) c.quick_run.ensures
    ∙ ap (λ (m : MachineView). m.plan) c.self.view_is

pub returns-clause-taken : goal.returns-clause-taken
returns-clause-taken c = λ plan h stands.
    run_taken c.self.inside.registers c.quick_run.new.self c.args.worker c.quick_run.result (subst MayStepTwice (sym c.self.view_is) c.requires) c.quick_run.ensures plan h
    (subst (λ (m : MachineView). StandsFor m plan h) (sym c.self.view_is) stands)

pub returns-clause-none : goal.returns-clause-none
returns-clause-none c = λ plan h b stands none.
    run_none c.self.inside.registers c.quick_run.new.self c.args.worker c.quick_run.result (subst MayStepTwice (sym c.self.view_is) c.requires) c.quick_run.ensures none plan h b
    (subst (λ (m : MachineView). StandsFor m plan h) (sym c.self.view_is) stands)
