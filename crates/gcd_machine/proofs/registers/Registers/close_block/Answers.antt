use Rattle.std.proofs.Common.{sym, subst}
use Rattle.gcd_machine.specs.Inside.{view_of}
use Rattle.gcd_machine.specs.Conditions.{CanCloseBlock}
use Rattle.gcd_machine.proofs.Conditions.Kept.{may_close}
use Rattle.gcd_machine.proofs.registers.Registers.close_block.Goals as goal

pub close_run-requires : goal.close_run-requires
close_run-requires c =
    rw (c.node.ensures, c.is_barrier.ensures)
    (may_close (view_of c.self.inside) _ _ _ c.index-cell.ensures
    (subst (λ m. CanCloseBlock m c.args.worker c.args.blk) (sym c.self.view_is) c.requires))
