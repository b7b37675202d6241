use Rattle.std.proofs.Common.{sym, subst, ◌∙◌}
use Rattle.gcd_machine.specs.Inside.{view_of}
use Rattle.gcd_machine.specs.Conditions.{CanComeEmpty}
use Rattle.gcd_machine.proofs.Conditions.Kept.{may_empty_by_act}
use Rattle.gcd_machine.proofs.registers.Registers.leave_by_act.Goals as goal

pub empty-requires : goal.empty-requires
empty-requires c =
    may_empty_by_act {m = view_of c.self.inside} _ c.leave.ensures (sym c.count-last.ensures ∙ c.if-last.true)
    (subst (λ m. CanComeEmpty m c.args.g) (sym c.self.view_is) c.requires.comes_empty)
