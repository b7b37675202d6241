use Rattle.std.proofs.Common.{ap, ◌∙◌}
use Rattle.gcd_refinement.specs.MachineView.{MachineView}
use Rattle.gcd_machine.proofs.Views.Calls.{running_stands}
use Rattle.gcd_machine.proofs.machine.Machine.running.Goals as goal

pub returns : goal.returns
returns c = λ plan h stands. c.running.ensures ∙ (ap (λ (m : MachineView). m.running) c.self.view_is ∙ running_stands c.args.self.now plan h stands)
