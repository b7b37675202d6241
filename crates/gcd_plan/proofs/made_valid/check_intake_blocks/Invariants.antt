use Rattle.std.proofs.Common.{◌≡◌, ℕ, ◌+◌, ◌<◌, Some}
use Rattle.std.specs.List.{slice_get}
use Rattle.gcd_plan.specs.Made.{intake_block}
use Rattle.gcd_plan.specs.PlanView.{view_of}
use Rattle.gcd_plan.proofs.made_valid.check_intake_blocks.Given as goal

abbrev pub invariant-loop-k : goal.invariant-loop-k
invariant-loop-k l = (i : ℕ) → i < l.k → slice_get (view_of l.parts).blocks (l.first + i) ≡ Some (intake_block (i + 1))
