use Rattle.std.proofs.Common.{rules}
use Rattle.gcd_steal.proofs.Dealing.{parts}
use Rattle.gcd_steal.proofs.deque.split_pass.Goals as goal

pub another-requires : goal.another-requires
another-requires g c = rw c.requires.picked (parts _ _ _ (search rules) (search rules))
