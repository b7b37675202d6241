use Rattle.std.proofs.Common.{◌∙◌}
use Rattle.gcd_machine.proofs.Steps.Opening.{begun_is}
use Rattle.gcd_machine.proofs.registers.Registers.begin_on.Goals as goal

pub returns : goal.returns
returns c = begun_is c.args.self.now c.args.node (c.self.view_is ∙ c.take_off.ensures) c.opened.ensures c.began.ensures.barrier c.began.ensures.plain
