use Rattle.std.proofs.Common.{rules}
use Rattle.gcd_steal.proofs.Dealing.{gets, finds}
use Rattle.gcd_steal.proofs.deque.Deque.pop.Goals as goal

pub pop_front-requires-clause-takes : goal.pop_front-requires-clause-takes
pop_front-requires-clause-takes c = gets _ _ (search rules)

pub pop_front-requires-clause-empty : goal.pop_front-requires-clause-empty
pop_front-requires-clause-empty c = finds _ _
