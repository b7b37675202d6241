use Rattle.std.proofs.Common.{Bool, ◌↔◌, ap, sym, ◌∙◌, subst}
use Rattle.std.specs.Bool.{IsTrue}
use Rattle.gcd_history.specs.Ends.{IsQuiescent}
use Rattle.gcd_refinement.specs.MachineView.{MachineView}
use Rattle.gcd_machine.specs.Chosen.{is_quiescent_at}
use Rattle.gcd_machine.proofs.Choice.Calls.{quiet_stands}
use Rattle.gcd_machine.proofs.machine.Machine.is_quiescent.Goals as goal

pub returns : goal.returns
returns c = λ plan h stands.
    let is = c.is_quiescent.ensures ∙ ap (λ (m : MachineView). is_quiescent_at m) c.self.view_is in
    subst (λ (b : Bool). IsTrue b ↔ IsQuiescent plan h) (sym is) (quiet_stands c.args.self.now plan h stands)
