use Rattle.std.proofs.Common.{sym, subst}
use Rattle.gcd_machine.specs.Inside.{view_of}
use Rattle.gcd_machine.specs.Conditions.{CanPass}
use Rattle.gcd_machine.proofs.Conditions.Kept.{may_take_off}
use Rattle.gcd_machine.proofs.registers.Registers.pass.Goals as goal

pub take_off_node-requires : goal.take_off_node-requires
take_off_node-requires c =
    rw c.node.ensures (may_take_off (view_of c.self.inside) _ _ c.index-cell.ensures (subst (λ m. CanPass m c.args.blk) (sym c.self.view_is) c.requires))
