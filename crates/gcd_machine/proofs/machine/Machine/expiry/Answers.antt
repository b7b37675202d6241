use Rattle.std.proofs.Common.{ap, ◌∙◌}
use Rattle.gcd_refinement.specs.MachineView.{MachineView}
use Rattle.gcd_machine.specs.Chosen.{expiry_by}
use Rattle.gcd_machine.proofs.Choice.Calls.{expiry_stands}
use Rattle.gcd_machine.proofs.machine.Machine.expiry.Goals as goal

pub returns : goal.returns
returns c = λ plan h stands. c.expiry.ensures ∙ (ap (λ (m : MachineView). expiry_by m) c.self.view_is ∙ expiry_stands c.args.self.now plan h stands)
