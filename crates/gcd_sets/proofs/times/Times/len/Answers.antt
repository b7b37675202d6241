use Rattle.gcd_sets.proofs.Nodes.{len_is}
use Rattle.gcd_sets.proofs.times.Times.len.Goals as goal

pub returns : goal.returns
returns c = len_is c.self.invariant c.self.view_is
