use Rattle.gcd_front.proofs.Queueing.{shuts}
use Rattle.gcd_front.proofs.queue.shut_pass.Goals as goal

pub another-requires-clause-rule : goal.another-requires-clause-rule
another-requires-clause-rule g c = shuts _ _ _ c.requires.sends.1
