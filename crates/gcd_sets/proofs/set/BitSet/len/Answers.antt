use Rattle.std.proofs.Common.{sym}
use Rattle.gcd_sets.proofs.Shown.{shown, long}
use Rattle.gcd_sets.proofs.set.BitSet.len.Goals as goal

pub returns : goal.returns
returns c = sym (long (shown c.self.invariant c.self.view_is))
