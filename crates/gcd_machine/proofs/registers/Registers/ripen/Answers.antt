use Rattle.std.proofs.Common.{◌≡◌, ◌<◌, length, true, sym, subst, ◌∙◌}
use Rattle.gcd_refinement.specs.MachineView.{MachineView, ahead_at}
use Rattle.gcd_refinement.specs.AfterLimits.{is_reached}
use Rattle.gcd_machine.specs.Inside.{view_of}
use Rattle.gcd_machine.proofs.Steps.LimitLoop.{Ripening, ripen_turn, ripen_end}
use Rattle.gcd_machine.proofs.registers.Registers.ripen.Goals as goal

pub loop-b-preserved : goal.loop-b-preserved
loop-b-preserved c =
    let same = sym c.self.view_is in
    let ripening = subst (λ m. Ripening m c.args.self.now c.args.at) same c.loop-b.invariant in
    let low = subst (λ (m : MachineView). c.in-Some.b < length m.ahead) same c.in-Some.ensures.within in
    let reached = subst (λ m. is_reached c.args.at (ahead_at m c.in-Some.b) ≡ true) same c.in-Some.ensures.reached in
    ripen_turn {m = view_of c.self.inside} low reached c.clear.ensures c.set.ensures ripening

pub returns : goal.returns
returns c = sym (ripen_end c.loop-b.self c.args.at c.in_default.ensures.none) ∙ c.loop-b.invariant.same
