use Rattle.std.proofs.Common.{arith}
use Rattle.gcd_sets.proofs.Nodes.{no_times}
use Rattle.gcd_sets.proofs.times.Times.new.Goals as goal

pub invariant_of-result : goal.invariant_of-result
invariant_of-result c = (no_times c.in_ok-vec.field-0.items c.args.len _ (omega arith) (c.in_ok-vec.ensures.items_if_clones_equal (λ y same. same))).0

pub returns : goal.returns
returns c = (no_times c.in_ok-vec.field-0.items c.args.len _ (omega arith) (c.in_ok-vec.ensures.items_if_clones_equal (λ y same. same))).1
