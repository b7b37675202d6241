use Rattle.std.proofs.Common.{ap, ◌∙◌}
use Rattle.gcd_refinement.specs.MachineView.{MachineView}
use Rattle.gcd_machine.specs.Judged.{first_waiting_at}
use Rattle.gcd_machine.proofs.Views.Calls.{first_stands}
use Rattle.gcd_machine.proofs.machine.Machine.first_waiting.Goals as goal

pub returns : goal.returns
returns c = λ plan h stands. c.first_waiting.ensures ∙ (ap (λ (m : MachineView). first_waiting_at m c.args.node.0) c.self.view_is ∙ first_stands c.args.self.now plan h c.args.node.0 stands)
