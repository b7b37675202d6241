use Rattle.std.proofs.Common.{◌≡◌, ◌++◌, map}
use Rattle.std.specs.List.{range_with_len}
use Rattle.gcd_plan.specs.Made.{intake_block}
use Rattle.gcd_plan.specs.PlanView.{blk_view}
use Rattle.gcd_builder.proofs.made.push_intake_blocks.Given as goal

abbrev pub invariant-loop-k : goal.invariant-loop-k
invariant-loop-k l = map blk_view l.blocks.items ≡ map blk_view l.initial.blocks.items ++ map intake_block (range_with_len 1 l.k)
