use Rattle.gcd_front.proofs.Queueing.{takes, learns, all_taken}
use Rattle.gcd_front.proofs.queue.pop_job.Goals as goal

pub pop-requires-clause-pop : goal.pop-requires-clause-pop
pop-requires-clause-pop g c = takes _ _ c.requires.intake.1

pub pop-requires-clause-fact : goal.pop-requires-clause-fact
pop-requires-clause-fact g c = learns _ _ c.requires.intake.1

pub returns-in-None-clause-says : goal.returns-in-None-clause-says
returns-in-None-clause-says g c = let held = c.in-None.ensures.rule.1 in (c.in-None.ensures.rule.0, (held.0, held.1, held.2.0), all_taken _ held.0 held.1 held.2)
