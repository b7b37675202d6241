use Rattle.std.proofs.Common.{ap, ◌∙◌}
use Rattle.gcd_machine.specs.Judged.{is_intake_open_at}
use Rattle.gcd_refinement.specs.MachineView.{MachineView}
use Rattle.gcd_machine.proofs.Views.Calls.{open_stands}
use Rattle.gcd_machine.proofs.machine.Machine.intake_open.Goals as goal

pub returns : goal.returns
returns c = λ plan h stands. c.intake_open.ensures ∙ (ap (λ (m : MachineView). is_intake_open_at m) c.self.view_is ∙ open_stands c.args.self.now plan h stands)
