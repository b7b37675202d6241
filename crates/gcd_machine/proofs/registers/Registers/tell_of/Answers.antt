use Rattle.std.proofs.Common.{sym, subst}
use Rattle.gcd_machine.specs.Inside.{view_of}
use Rattle.gcd_machine.specs.Conditions.{CanTellOf}
use Rattle.gcd_machine.proofs.Conditions.KeptAtEnds.{may_tell_of}
use Rattle.gcd_machine.proofs.registers.Registers.tell_of.Goals as goal

pub tell-requires : goal.tell-requires
tell-requires c =
    rw c.go_home_to.ensures
    (may_tell_of {m = view_of c.self.inside} c.index_mut.ensures.value c.notify.ensures
    (subst (λ m. CanTellOf m c.args.blk c.args.queue c.args.next) (sym c.self.view_is) c.requires))
