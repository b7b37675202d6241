use Rattle.std.proofs.Common.{sym, subst}
use Rattle.gcd_machine.specs.Inside.{view_of}
use Rattle.gcd_machine.specs.Conditions.{CanStart}
use Rattle.gcd_machine.proofs.Conditions.Kept.{may_begin}
use Rattle.gcd_machine.proofs.registers.Registers.start.Goals as goal

pub begin_run-requires : goal.begin_run-requires
begin_run-requires c =
    rw (c.node.ensures, c.is_barrier.ensures)
    (may_begin (view_of c.self.inside) _ _ c.index-cell.ensures
    (subst (λ m. CanStart m c.args.worker c.args.blk) (sym c.self.view_is) c.requires))
