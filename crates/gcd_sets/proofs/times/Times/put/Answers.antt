use Rattle.std.proofs.Common.{◌+◌, arith}
use Rattle.std.proofs.lemmas.Nat.{div-add-mod'}
use Rattle.gcd_sets.proofs.Nodes.{len_is, node_within, written}
use Rattle.gcd_sets.proofs.times.Times.put.Goals as goal

pub index_mut-requires : goal.index_mut-requires
index_mut-requires c = omega (arith, node_within c.self.invariant c.self.view_is c.args.i c.requires, c.self.inside.nodes.ok.0)

pub lift-requires-clause-within : goal.lift-requires-clause-within
lift-requires-clause-within c =
    let parts = div-add-mod' (c.self.inside.len + c.args.i) 2 in
    omega (arith, parts, len_is c.self.invariant c.self.view_is, c.requires)

pub returns : goal.returns
returns c =
    (written c.self.invariant c.self.view_is c.lift.new.nodes.items c.args.i c.args.node c.requires c.lift.ensures.long c.lift.ensures.holds c.lift.ensures.leaves).1
