use Rattle.std.proofs.Common.{◌∙◌, ◌+◌, ◌<◌, get_or, set, length, length-set, arith}
use Rattle.gcd_tree.proofs.Ahead.{first_in_range, rest_in_range}
use Rattle.gcd_tree.proofs.Counts.{raise_step}
use Rattle.gcd_tree.proofs.along.raise_along.Goals as goal

pub loop-o-preserved : goal.loop-o-preserved
loop-o-preserved c =
    let o = c.in-Some.o.0 in
    let counts = c.loop-o.counts in
    let ahead = c.loop-o.o-iterator in
    let rest = c.next.new.self in
    let n = length c.args.targets.now in
    let first = c.in-Some.ensures.steps in
    let fits = first_in_range n o ahead rest first c.loop-o.invariant.in_range in
    let here : o < length counts = omega (arith, fits, c.requires.as_many, c.loop-o.auto.counts) in
    record {
      in_range = rest_in_range n o ahead rest first c.loop-o.invariant.in_range;
      counted = λ x h. (let within : x < length (set counts o (get_or counts o 0 + 1)) = h in
          raise_step counts ahead rest o x first here
          ∙ c.loop-o.invariant.counted x (omega (arith, length-set counts o (get_or counts o 0 + 1), within)));
    }
