use Rattle.std.proofs.Common.{rules}
use Rattle.gcd_front.proofs.Queueing.{tells, learns, taken_first}
use Rattle.gcd_front.proofs.queue.settle_pass.Goals as goal

pub another-note-requires-clause-rule : goal.another-note-requires-clause-rule
another-note-requires-clause-rule g c = tells _ _

pub learn_as-requires-clause-rule : goal.learn_as-requires-clause-rule
learn_as-requires-clause-rule g c = learns _ _ (search rules)

pub returns-clause-taken : goal.returns-clause-taken
returns-clause-taken g c = rw c.learn_as.ensures.queue.1 (taken_first _ c.learn_as.ensures.rule.0 c.learn_as.ensures.rule.1)

pub returns-clause-learnt : goal.returns-clause-learnt
returns-clause-learnt g c = rw c.learn_as.ensures.queue.1 (c.learn_as.ensures.rule.0, c.learn_as.ensures.rule.1)
