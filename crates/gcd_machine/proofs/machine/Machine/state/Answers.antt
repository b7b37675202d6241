use Rattle.std.proofs.Common.{ap, sym, ◌∙◌, subst}
use Rattle.gcd_history.specs.Ends.{HasState}
use Rattle.gcd_refinement.specs.MachineView.{MachineView}
use Rattle.gcd_machine.specs.Chosen.{state_by}
use Rattle.gcd_machine.proofs.Choice.Calls.{state_stands}
use Rattle.gcd_machine.proofs.machine.Machine.state.Goals as goal

pub returns : goal.returns
returns c = λ plan h stands.
    let is = c.state.ensures ∙ ap (λ (m : MachineView). state_by m) c.self.view_is in
    subst (HasState plan h) (sym is) (state_stands c.args.self.now plan h stands)
