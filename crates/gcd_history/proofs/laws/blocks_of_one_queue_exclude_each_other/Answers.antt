use Rattle.gcd_history.proofs.Public.Laws.{blocks_of_one_node_apart}
use Rattle.gcd_history.proofs.laws.blocks_of_one_queue_exclude_each_other.Goals as goal

pub returns : goal.returns
returns c = blocks_of_one_node_apart
