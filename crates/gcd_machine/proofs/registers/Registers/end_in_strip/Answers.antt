use Rattle.std.proofs.Common.{sym, subst}
use Rattle.gcd_machine.specs.Conditions.{CanLetApplierGo}
use Rattle.gcd_machine.proofs.registers.Registers.end_in_strip.Goals as goal

pub let_applier_go-requires : goal.let_applier_go-requires
let_applier_go-requires c = subst (CanLetApplierGo c.args.self.now) (sym c.done_strip-strip.ensures) c.requires
