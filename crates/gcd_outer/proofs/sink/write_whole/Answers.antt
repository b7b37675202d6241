use Rattle.std.proofs.Common.{rules, ◌≡◌, ◌+◌, ◌++◌, List, ℕ, take, drop, arith, append_assoc, refl}
use Rattle.std.proofs.Math.Seq.{take-add}
use Rattle.std.proofs.lemmas.Grind.{common_steps}
use Rattle.gcd_outer.proofs.sink.write_whole.Goals as goal

-- one more piece was taken
one_more : (before now after piece text : List ℕ) (i n : ℕ) → now ≡ before ++ take i text → after ≡ now ++ take n piece
    → take n piece ≡ take n (drop i text) → after ≡ before ++ take (i + n) text
one_more before now after piece text i n here next same =
    rw (next, here, same, take-add i n text, append_assoc) refl

pub loop-done-preserved : goal.loop-done-preserved
loop-done-preserved g c = record {
  within = search rules;
  taken = λ tells. one_more _ _ _ _ _ _ _ (c.loop-done.invariant.taken tells) (c.in_ok-count.ensures.taken tells) (grind (arith, common_steps));
  faults = search rules;
}
