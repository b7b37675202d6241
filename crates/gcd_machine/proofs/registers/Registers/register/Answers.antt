use Rattle.std.proofs.Common.{sym, subst}
use Rattle.gcd_machine.specs.Inside.{view_of}
use Rattle.gcd_machine.specs.Conditions.{CanRegister}
use Rattle.gcd_machine.proofs.Conditions.Kept.{may_register}
use Rattle.gcd_machine.proofs.registers.Registers.register.Goals as goal

pub fire-requires : goal.fire-requires
fire-requires c =
    rw c.go_home_to.ensures
    (may_register {m = view_of c.self.inside} c.index_mut.ensures.value c.notify.ensures
    (subst (λ m. CanRegister m c.args.g c.args.queue c.args.blk) (sym c.self.view_is) c.requires))
