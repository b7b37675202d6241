use Rattle.std.proofs.Common.{Some, None, refl, ap, sym, subst, set, ◌∙◌}
use Rattle.gcd_refinement.specs.MachineView.{MachineView}
use Rattle.gcd_machine.specs.Inside.{view_of}
use Rattle.gcd_machine.specs.Steps.{applier_let_go, caller_let_go}
use Rattle.gcd_machine.specs.Conditions.{CanLetApplierGo}
use Rattle.gcd_machine.proofs.Conditions.KeptAtEnds.{applier_read, may_let_applier_go}
use Rattle.gcd_machine.proofs.registers.Registers.let_applier_go.Goals as goal

pub let_caller_go-requires : goal.let_caller_go-requires
let_caller_go-requires c =
    let here = subst (λ m. CanLetApplierGo m c.args.strip) (sym c.self.view_is) c.requires in
    may_let_applier_go (view_of c.self.inside) c.in-Some.a _ c.index-applier.ensures (subst (CanLetApplierGo (view_of c.self.inside)) c.in-Some.is here)

pub returns-in-Some : goal.returns-in-Some
returns-in-Some c =
    let m = view_of c.self.inside in
    let here = subst (λ m. CanLetApplierGo m c.args.strip) (sym c.self.view_is) c.requires in
    let low = (subst (CanLetApplierGo m) c.in-Some.is here).strip c.in-Some.a refl in
    c.let_caller_go.ensures
    ∙ (ap (caller_let_go (record m { appliers = set m.appliers c.in-Some.a None })) (applier_read m c.in-Some.a low c.index-applier.ensures)
    ∙ (ap (λ (n : MachineView). applier_let_go n (Some c.in-Some.a)) c.self.view_is ∙ ap (applier_let_go c.args.self.now) (sym c.in-Some.is)))
