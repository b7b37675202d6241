use Rattle.std.proofs.Common.{◌≡◌, map, take}
use Rattle.gcd_plan.specs.PlanView.{blk_view}
use Rattle.gcd_plan.proofs.copy.copied_blocks.Given as goal

abbrev pub invariant-loop-b : goal.invariant-loop-b
invariant-loop-b l = map blk_view l.v.items ≡ map blk_view (take l.b-index l.blocks)
