use Rattle.gcd_history.proofs.Public.Laws.{starts_in_order}
use Rattle.gcd_history.proofs.laws.blocks_start_in_order.Goals as goal

pub returns : goal.returns
returns c = starts_in_order
