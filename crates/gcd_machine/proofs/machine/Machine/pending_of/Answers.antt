use Rattle.std.proofs.Common.{◌<◌, ◌∙◌, length, sym, subst}
use Rattle.gcd_refinement.specs.MachineView.{MachineView}
use Rattle.gcd_machine.specs.Stands.{StandsFor}
use Rattle.gcd_machine.proofs.Views.Calls.{pending_stands, pending_has}
use Rattle.gcd_machine.proofs.machine.Machine.pending_of.Goals as goal

pub returns : goal.returns
returns c = λ plan h stands.
    let m = c.self.inside.registers in
    let own = subst (λ (n : MachineView). StandsFor n plan h) (sym c.self.view_is) stands in
    let low = subst (λ (n : MachineView). c.args.src.0 < length n.plan.objects) (sym c.self.view_is) c.requires in
    c.pending_of.ensures.pending (pending_has m plan h c.args.src own c.pending_of.ensures.few low) ∙ pending_stands m plan h c.args.src.0 own
