use Rattle.std.proofs.Common.{ap, ◌∙◌}
use Rattle.gcd_refinement.specs.MachineView.{MachineView, live_at}
use Rattle.gcd_machine.proofs.Views.Calls.{live_stands}
use Rattle.gcd_machine.proofs.machine.Machine.is_live_feed.Goals as goal

pub returns : goal.returns
returns c = λ plan h stands. c.is_live_feed.ensures ∙ (ap (λ (m : MachineView). live_at m c.args.src.0) c.self.view_is ∙ live_stands c.args.self.now plan h c.args.src.0 stands)
