use Rattle.std.proofs.Common.{◌≡◌}
use Rattle.std.specs.List.{flat_map}
use Rattle.gcd_script.specs.BigScript.{ended_line}
use Rattle.gcd_script.proofs.BigText.{with_blocks, with_acts}
use Rattle.gcd_script.proofs.big.big_text.Given as goal

abbrev pub invariant-loop-k : goal.invariant-loop-k
invariant-loop-k l = l.text.items ≡ flat_map ended_line (with_blocks l.k)

abbrev pub invariant-loop-k-2 : goal.invariant-loop-k-2
invariant-loop-k-2 l = l.text.items ≡ flat_map ended_line (with_acts l.n l.k)
