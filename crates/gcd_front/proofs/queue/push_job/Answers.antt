use Rattle.std.proofs.Common.{ap}
use Rattle.gcd_front.proofs.Queueing.{sends, saw}
use Rattle.gcd_front.proofs.queue.push_job.Goals as goal

pub push-requires-clause-push : goal.push-requires-clause-push
push-requires-clause-push g c = sends _ _ _ _ (ap (λ v. v.sends) c.requires.mouth.1) c.requires.number

pub push-requires-clause-fact : goal.push-requires-clause-fact
push-requires-clause-fact g c = saw _ _
