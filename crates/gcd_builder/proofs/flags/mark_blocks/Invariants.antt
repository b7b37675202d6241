use Rattle.gcd_plan.specs.Made.{is_within}
use Rattle.gcd_builder.specs.Agreement.{AreSetToo}
use Rattle.gcd_builder.proofs.flags.mark_blocks.Given as goal

abbrev pub invariant-loop-k : goal.invariant-loop-k
invariant-loop-k l = AreSetToo l.initial.flags.items l.flags.items (λ q. is_within q (record { first = l.first; count = l.k }))
