use Rattle.std.proofs.Common.{ap, ◌∙◌}
use Rattle.gcd_refinement.specs.MachineView.{MachineView}
use Rattle.gcd_machine.proofs.Views.Calls.{len_stands}
use Rattle.gcd_machine.proofs.machine.Machine.len.Goals as goal

pub returns : goal.returns
returns c = λ plan h stands. c.len.ensures ∙ (ap (λ (m : MachineView). m.len) c.self.view_is ∙ len_stands c.args.self.now plan h stands)
