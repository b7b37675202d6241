use Rattle.gcd_steal.specs.Making.{SameButPasses, AreSame, HavePasses}
use Rattle.gcd_steal.proofs.make.hand_out_passes.Given as goal

abbrev pub invariant-loop-k : goal.invariant-loop-k
invariant-loop-k l = record {
  same : AreSame SameButPasses l.initial.benches.items l.benches.items;
  passes : HavePasses l.rack l.benches.items l.k;
}
