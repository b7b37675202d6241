use Rattle.gcd_steal.proofs.Dealing.{begins}
use Rattle.gcd_steal.proofs.deque.open_deque.Goals as goal

pub fifo_as-requires : goal.fifo_as-requires
fifo_as-requires c = begins
