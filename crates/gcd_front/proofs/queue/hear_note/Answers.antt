use Rattle.gcd_front.proofs.Queueing.{hears}
use Rattle.gcd_front.proofs.queue.hear_note.Goals as goal

pub absorb-requires-clause-rule : goal.absorb-requires-clause-rule
absorb-requires-clause-rule g c = hears _ _ _ _
