use Rattle.std.proofs.Common.{ap, ◌∙◌}
use Rattle.gcd_refinement.specs.MachineView.{MachineView, block_at}
use Rattle.gcd_machine.proofs.Views.Calls.{started_stands}
use Rattle.gcd_machine.proofs.machine.Machine.is_started.Goals as goal

pub returns : goal.returns
returns c = λ plan h stands. c.is_started.ensures ∙ (ap (λ (m : MachineView). (block_at m c.args.b.0).started) c.self.view_is ∙ started_stands c.args.self.now plan h c.args.b.0 stands)
