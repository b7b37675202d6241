use Rattle.gcd_history.proofs.Public.BlockLaws.{accepts_in_order}
use Rattle.gcd_history.proofs.laws.blocks_are_accepted_in_order.Goals as goal

pub returns : goal.returns
returns c = accepts_in_order
