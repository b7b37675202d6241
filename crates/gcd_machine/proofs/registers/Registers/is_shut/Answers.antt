use Rattle.std.proofs.Common.{length, ap, sym, ◌∙◌, arith}
use Rattle.gcd_drain.specs.Shut.{is_shut_by}
use Rattle.gcd_drain.proofs.Quiet.{shut_is_held}
use Rattle.gcd_refinement.specs.MachineView.{MachineView}
use Rattle.gcd_machine.specs.Inside.{view_of}
use Rattle.gcd_machine.proofs.registers.Registers.is_shut.Goals as goal

pub returns-else-any_open-clause-answer : goal.returns-else-any_open-clause-answer
returns-else-any_open-clause-answer c =
    let v = view_of c.self.inside in
    let targets = ap (λ (m : MachineView). length m.tree.targets) c.self.view_is in
    c.has.ensures
    ∙ sym (shut_is_held v.drains v.tree c.any_open.ensures.valid (sym c.any_open.ensures.open ∙ c.if-any_open.false) c.self.inside.held v.holds c.self.invariant.are
    c.args.node.0 (omega (arith, targets, c.requires.node, c.requires.shape.parts.targets)))
    ∙ ap (λ (m : MachineView). is_shut_by m.drains m.tree m.holds c.args.node.0) c.self.view_is
