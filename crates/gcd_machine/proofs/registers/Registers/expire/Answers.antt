use Rattle.std.proofs.Common.{sym, subst}
use Rattle.gcd_machine.specs.Inside.{view_of}
use Rattle.gcd_machine.specs.Conditions.{CanExpire}
use Rattle.gcd_machine.proofs.Steps.Expiries.{may_end_wait}
use Rattle.gcd_machine.proofs.registers.Registers.expire.Goals as goal

pub end_wait-requires : goal.end_wait-requires
end_wait-requires c =
    may_end_wait (view_of c.self.inside) _ c.reason-awaited.ensures (subst (λ m. CanExpire m c.args.blk) (sym c.self.view_is) c.requires)
