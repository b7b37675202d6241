use Rattle.std.proofs.Common.{sym, subst, ◌∙◌}
use Rattle.gcd_machine.specs.Inside.{view_of}
use Rattle.gcd_machine.specs.Conditions.{CanAccept}
use Rattle.gcd_machine.proofs.Conditions.KeptAtEnds.{may_accept}
use Rattle.gcd_machine.proofs.registers.Registers.accept.Goals as goal

pub submit-requires : goal.submit-requires
submit-requires c =
    may_accept {m = view_of c.self.inside} _ (sym c.in-Some.is ∙ c.intake_queue.ensures)
    (subst (λ m. CanAccept m c.args.blk) (sym c.self.view_is) c.requires)
