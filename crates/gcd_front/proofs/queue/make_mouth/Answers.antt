use Rattle.gcd_front.proofs.Queueing.{makes}
use Rattle.gcd_front.proofs.queue.make_mouth.Goals as goal

pub another-requires-clause-rule : goal.another-requires-clause-rule
another-requires-clause-rule g c = makes _ _ c.requires.intake.1
