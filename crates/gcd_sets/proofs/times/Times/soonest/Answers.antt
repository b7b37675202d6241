use Rattle.std.proofs.Common.{arith}
use Rattle.gcd_sets.proofs.Nodes.{len_is, leaf_time}
use Rattle.gcd_sets.proofs.times.Times.soonest.Goals as goal

pub returns-clause-within : goal.returns-clause-within
returns-clause-within c =
    omega (arith, c.loop-at.invariant.above, c.loop-at.invariant.within, c.loop-at-test.false, len_is c.self.invariant c.self.view_is)

pub returns-clause-there : goal.returns-clause-there
returns-clause-there c =
    leaf_time c.self.invariant c.self.view_is c.loop-at.at (omega (arith, c.loop-at.invariant.above, c.loop-at.invariant.within)) (omega (arith, c.loop-at-test.false))
    c.loop-at.invariant.within c.loop-at.invariant.same
