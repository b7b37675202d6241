use Rattle.std.proofs.Common.{ap, ◌∙◌}
use Rattle.gcd_refinement.specs.MachineView.{MachineView}
use Rattle.std.specs.Prelude.{◌||◌}
use Rattle.gcd_machine.proofs.Views.Calls.{over_stands}
use Rattle.gcd_machine.proofs.machine.Machine.is_halted.Goals as goal

pub returns : goal.returns
returns c = λ plan h stands. c.is_over.ensures ∙ (ap (λ (m : MachineView). m.misused || m.halted) c.self.view_is ∙ over_stands c.args.self.now plan h stands)
