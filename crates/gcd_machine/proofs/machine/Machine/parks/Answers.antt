use Rattle.std.proofs.Common.{ap, ◌∙◌}
use Rattle.gcd_refinement.specs.MachineView.{MachineView}
use Rattle.gcd_history.specs.Parked.{is_parking}
use Rattle.gcd_history.specs.Runs.{act_of}
use Rattle.gcd_machine.proofs.Views.Calls.{parks_stands}
use Rattle.gcd_machine.proofs.machine.Machine.parks.Goals as goal

pub returns : goal.returns
returns c = λ plan h stands. c.parks.ensures ∙ (ap (λ (m : MachineView). is_parking (act_of m.plan c.args.e)) c.self.view_is ∙ parks_stands c.args.self.now plan h c.args.e stands)
