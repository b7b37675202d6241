use Rattle.std.proofs.Common.{rules}
use Rattle.gcd_steal.proofs.Dealing.{sends}
use Rattle.gcd_steal.proofs.deque.Deque.push.Goals as goal

pub push_as-requires-clause-pushes : goal.push_as-requires-clause-pushes
push_as-requires-clause-pushes c = sends _ _ _ (search rules) (search rules) (search rules)
