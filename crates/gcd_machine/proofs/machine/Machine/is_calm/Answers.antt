use Rattle.std.proofs.Common.{Bool, ap, sym, ◌∙◌, subst}
use Rattle.std.specs.Bool.{IsTrue}
use Rattle.gcd_refinement.specs.MachineView.{MachineView}
use Rattle.gcd_machine.specs.Calm.{is_calm_at}
use Rattle.gcd_machine.proofs.Choice.Calm.{calm_stands, calm_told}
use Rattle.gcd_machine.proofs.machine.Machine.is_calm.Goals as goal

pub returns-clause-calm : goal.returns-clause-calm
returns-clause-calm c = λ plan h stands calm.
    let is = c.is_calm.ensures ∙ ap (λ (m : MachineView). is_calm_at m) c.self.view_is in
    calm_stands c.args.self.now plan h stands (subst (λ (b : Bool). IsTrue b) is calm)

pub returns-clause-told : goal.returns-clause-told
returns-clause-told c = λ plan h stands going calm.
    let is = c.is_calm.ensures ∙ ap (λ (m : MachineView). is_calm_at m) c.self.view_is in
    subst (λ (b : Bool). IsTrue b) (sym is) (calm_told c.args.self.now plan h stands going calm)
