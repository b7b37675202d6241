use Rattle.std.proofs.Common.{sym}
use Rattle.gcd_machine.proofs.registers.Registers.act.Goals as goal

pub make-requires : goal.make-requires
make-requires c = c.requires.acts c.in-Some.act (sym c.in-Some.ensures)
