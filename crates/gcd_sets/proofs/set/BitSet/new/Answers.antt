use Rattle.std.proofs.Common.{false, replicate, arith}
use Rattle.std.proofs.lemmas.Grind.{div_ceil_times}
use Rattle.gcd_sets.proofs.Shown.{Shows, shows_nothing}
use Rattle.gcd_sets.proofs.set.BitSet.new.Goals as goal

shows : (c : goal.In_ok-vec) → Shows c.in_ok-vec.field-0.items c.args.len 0 (replicate c.args.len false)
shows c =
    let zeros = c.in_ok-vec.ensures.items_if_clones_equal (λ y same. same) in
    let times = div_ceil_times c.args.len 64 (omega arith) in
    shows_nothing c.div_ceil.result c.args.len (omega (arith, times.0, c.div_ceil.ensures)) (omega (arith, times.1, c.div_ceil.ensures)) zeros

pub invariant_of-result : goal.invariant_of-result
invariant_of-result c = (shows c).counted

pub returns : goal.returns
returns c = (shows c).seen
