use Rattle.std.proofs.Common.{ap, ◌∙◌}
use Rattle.gcd_blockobj.specs.MarksView.{is_cancelled_at}
use Rattle.gcd_refinement.specs.MachineView.{MachineView}
use Rattle.gcd_machine.proofs.Views.Calls.{cancelled_stands}
use Rattle.gcd_machine.proofs.machine.Machine.is_cancelled.Goals as goal

pub returns : goal.returns
returns c = λ plan h stands. c.is_cancelled.ensures ∙ (ap (λ (m : MachineView). is_cancelled_at m.marks c.args.b.0) c.self.view_is ∙ cancelled_stands c.args.self.now plan h c.args.b.0 stands)
