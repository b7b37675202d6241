use Rattle.std.proofs.Common.{◌≡◌, ◌++◌, map}
use Rattle.std.specs.List.{range_with_len}
use Rattle.gcd_plan.specs.Made.{strip_block}
use Rattle.gcd_plan.specs.PlanView.{blk_view, strip_view}
use Rattle.gcd_builder.proofs.made.push_strip_blocks.Given as goal

abbrev pub invariant-loop-place : goal.invariant-loop-place
invariant-loop-place l = map blk_view l.blocks.items ≡ map blk_view l.initial.blocks.items ++ map (strip_block (strip_view l.strip)) (range_with_len 0 l.place)
