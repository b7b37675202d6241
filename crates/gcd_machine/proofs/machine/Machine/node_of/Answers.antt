use Rattle.std.proofs.Common.{ap, ◌∙◌}
use Rattle.gcd_refinement.specs.MachineView.{MachineView, block_at}
use Rattle.gcd_machine.proofs.Views.Calls.{node_stands}
use Rattle.gcd_machine.proofs.machine.Machine.node_of.Goals as goal

pub returns : goal.returns
returns c = λ plan h stands. c.node_of.ensures ∙ (ap (λ (m : MachineView). (block_at m c.args.b.0).node) c.self.view_is ∙ node_stands c.args.self.now plan h c.args.b.0 stands)
