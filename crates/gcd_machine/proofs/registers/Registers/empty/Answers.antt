use Rattle.gcd_machine.proofs.Conditions.Kept.{may_fire}
use Rattle.gcd_machine.proofs.registers.Registers.empty.Goals as goal

pub fire-requires : goal.fire-requires
fire-requires c = may_fire c.let_all_go.ensures c.requires.fires
