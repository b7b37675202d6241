use Rattle.std.proofs.Common.{ap, ◌∙◌}
use Rattle.gcd_refinement.specs.MachineView.{MachineView, ended_at}
use Rattle.gcd_machine.proofs.Views.Calls.{ended_stands}
use Rattle.gcd_machine.proofs.machine.Machine.is_ended.Goals as goal

pub returns : goal.returns
returns c = λ plan h stands. c.is_ended.ensures ∙ (ap (λ (m : MachineView). ended_at m c.args.b.0) c.self.view_is ∙ ended_stands c.args.self.now plan h c.args.b.0 stands)
