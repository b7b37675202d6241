use Rattle.std.proofs.Common.{ap, ◌∙◌}
use Rattle.gcd_refinement.specs.Ties.{next_in}
use Rattle.gcd_refinement.specs.MachineView.{MachineView}
use Rattle.gcd_machine.proofs.Views.Calls.{next_intake_stands}
use Rattle.gcd_machine.proofs.machine.Machine.next_intake.Goals as goal

pub returns : goal.returns
returns c = λ plan h stands. c.next_intake.ensures ∙ (ap (λ (m : MachineView). next_in m.plan m) c.self.view_is ∙ next_intake_stands c.args.self.now plan h stands)
