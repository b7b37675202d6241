use Rattle.gcd_front.proofs.Queueing.{begins}
use Rattle.gcd_front.proofs.queue.open_queue.Goals as goal

pub ruled-requires-clause-rule : goal.ruled-requires-clause-rule
ruled-requires-clause-rule g c = begins
