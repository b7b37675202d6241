use Rattle.std.proofs.Common.{ap, ◌∙◌}
use Rattle.gcd_refinement.specs.MachineView.{MachineView}
use Rattle.gcd_machine.specs.Judged.{why_by}
use Rattle.gcd_machine.proofs.Views.Calls.{why_stands}
use Rattle.gcd_machine.proofs.machine.Machine.permits.Goals as goal

pub returns : goal.returns
returns c = λ plan h stands. c.why_not.ensures ∙ (ap (λ (m : MachineView). why_by m c.args.e) c.self.view_is ∙ why_stands c.args.self.now plan h c.args.e stands)
