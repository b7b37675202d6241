use Rattle.gcd_history.proofs.Public.BlockLaws.{cancelled_blocks_do_nothing, cancelled_blocks_may_end}
use Rattle.gcd_history.proofs.laws.cancelled_blocks_do_nothing.Goals as goal

pub returns : goal.returns
returns c = record { nothing = cancelled_blocks_do_nothing; ends = cancelled_blocks_may_end }
