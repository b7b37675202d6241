use Rattle.std.proofs.Common.{◌≡◌, ℕ, ◌+◌, ◌<◌, Some}
use Rattle.std.specs.List.{slice_get}
use Rattle.gcd_plan.specs.Made.{strip_block}
use Rattle.gcd_plan.specs.PlanView.{view_of, strip_view}
use Rattle.gcd_plan.proofs.made_valid.check_strip_blocks.Given as goal

abbrev pub invariant-loop-place : goal.invariant-loop-place
invariant-loop-place l = (i : ℕ) → i < l.place → slice_get (view_of l.parts).blocks (l.s.first + i) ≡ Some (strip_block (strip_view l.s) i)
