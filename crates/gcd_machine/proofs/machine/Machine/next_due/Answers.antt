use Rattle.std.proofs.Common.{ap, ◌∙◌}
use Rattle.gcd_refinement.specs.MachineView.{MachineView, next_due_in}
use Rattle.gcd_machine.proofs.Views.Calls.{next_due_stands}
use Rattle.gcd_machine.proofs.machine.Machine.next_due.Goals as goal

pub returns : goal.returns
returns c = λ plan h stands. c.next_due.ensures ∙ (ap (λ (m : MachineView). next_due_in m) c.self.view_is ∙ next_due_stands c.args.self.now plan h stands)
