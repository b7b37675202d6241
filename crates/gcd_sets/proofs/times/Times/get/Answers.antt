use Rattle.std.proofs.Common.{◌∙◌, arith}
use Rattle.gcd_sets.proofs.Nodes.{node_within, time_read}
use Rattle.gcd_sets.proofs.times.Times.get.Goals as goal

pub index-requires : goal.index-requires
index-requires c = omega (arith, node_within c.self.invariant c.self.view_is c.args.i c.requires, c.self.inside.nodes.ok.0)

pub returns : goal.returns
returns c = c.time_at.ensures ∙ time_read c.self.invariant c.self.view_is c.args.i c.index.result.now c.requires c.index.ensures
