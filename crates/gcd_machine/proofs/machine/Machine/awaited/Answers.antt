use Rattle.std.proofs.Common.{ap, ◌∙◌}
use Rattle.gcd_sync.specs.WaitsView.{reason_at}
use Rattle.gcd_refinement.specs.MachineView.{MachineView}
use Rattle.gcd_machine.proofs.Views.Calls.{awaited_stands}
use Rattle.gcd_machine.proofs.machine.Machine.awaited.Goals as goal

pub returns : goal.returns
returns c = λ plan h stands. c.awaited.ensures ∙ (ap (λ (m : MachineView). reason_at m.waits c.args.b.0) c.self.view_is ∙ awaited_stands c.args.self.now plan h c.args.b.0 stands)
