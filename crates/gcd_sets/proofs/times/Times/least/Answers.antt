use Rattle.std.proofs.Common.{◌∙◌, arith}
use Rattle.gcd_sets.proofs.Nodes.{none_least, least_read}
use Rattle.gcd_sets.proofs.times.Times.least.Goals as goal

pub returns-then-self-eq0 : goal.returns-then-self-eq0
returns-then-self-eq0 c = none_least c.self.invariant c.self.view_is c.if-self-eq0.true

pub returns : goal.returns
returns c =
    c.time_at.ensures ∙ least_read c.self.invariant c.self.view_is c.index.result.now (omega (arith, c.if-self-eq0.false)) c.index.ensures
