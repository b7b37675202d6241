use Rattle.std.proofs.Common.{ap, ◌∙◌}
use Rattle.gcd_refinement.specs.MachineView.{MachineView}
use Rattle.gcd_machine.specs.Chosen.{begin_by}
use Rattle.gcd_machine.proofs.Choice.Begins.{begin_stands}
use Rattle.gcd_machine.proofs.machine.Machine.begin_on.Goals as goal

pub returns : goal.returns
returns c = λ plan h stands.
    c.begin.ensures
    ∙ (ap (λ (m : MachineView). begin_by m c.args.worker c.args.node.0) c.self.view_is
    ∙ begin_stands c.args.self.now plan h c.args.worker c.args.node.0 stands)
