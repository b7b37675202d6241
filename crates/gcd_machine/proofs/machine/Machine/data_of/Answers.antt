use Rattle.std.proofs.Common.{ap, ◌∙◌}
use Rattle.gcd_refinement.specs.MachineView.{MachineView, handler_at}
use Rattle.gcd_machine.proofs.Views.Calls.{data_stands}
use Rattle.gcd_machine.proofs.machine.Machine.data_of.Goals as goal

pub returns : goal.returns
returns c = λ plan h stands. c.given.ensures ∙ (ap (λ (m : MachineView). (handler_at m c.args.src.0).given) c.self.view_is ∙ data_stands c.args.self.now plan h c.args.src.0 stands)
