use Rattle.std.proofs.Common.{arith}
use Rattle.gcd_drain.proofs.Noting.{nothing_known, known_next, all_known}
use Rattle.gcd_drain.proofs.held_chains.HeldChains.hold_all.Goals as goal

pub loop-o-init : goal.loop-o-init
loop-o-init c = record {
  known = nothing_known c.args.tree.now c.args.holds.now c.new-known.result c.args.self.now c.requires.set c.new-known.ensures;
  all = λ k lt. absurd (omega arith);
}

pub loop-o-preserved : goal.loop-o-preserved
loop-o-preserved c = record {
  known = c.hold_chain.ensures.known;
  all = known_next c.args.tree.now c.args.holds.now c.loop-o.known c.hold_chain.new.known c.loop-o.o c.loop-o.invariant.all c.hold_chain.ensures.still c.hold_chain.ensures.here;
}

pub returns : goal.returns
returns c =
    all_known c.args.tree.now c.args.holds.now c.loop-o.known c.loop-o.self c.loop-o.o c.loop-o.invariant.known c.loop-o.invariant.all
    (omega (arith, c.loop-o-test.false, c.loop-o.auto.o-end, c.objects-o-end.ensures.count))
