use Rattle.std.proofs.Common.{◌∙◌, arith}
use Rattle.gcd_drain.proofs.faults.is_held.Goals as goal

pub has-requires : goal.has-requires
has-requires c = let e = c.requires.held.as_many in omega (arith, e, c.requires.node)

pub returns : goal.returns
returns c = c.has.ensures ∙ c.requires.held.exact c.args.node.0 c.requires.node
