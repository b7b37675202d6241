use Rattle.std.proofs.Common.{ap}
use Rattle.gcd_plan.specs.declared.numbers.Run.TheVariants.{Block}
use Rattle.gcd_history.specs.Held.{taken}
use Rattle.gcd_workers.proofs.hire.starts_long.Goals as goal

pub returns : goal.returns
returns c = λ yes. (Block c.in-Start.blk, ap taken c.in-Start.is)
