use Rattle.std.proofs.Common.{◌≡◌, ℕ, ◌<◌, true}
use Rattle.gcd_plan.specs.Breaks.{Has}
use Rattle.gcd_plan.specs.PlanView.{view_of}
use Rattle.gcd_plan.specs.Validity.{is_block}
use Rattle.gcd_plan.proofs.parts_valid.check_blocks.Given as goal

abbrev pub invariant-loop-b : goal.invariant-loop-b
invariant-loop-b l = (k : ℕ) → k < l.b → Has (view_of l.parts).blocks k (λ v. is_block (view_of l.parts) v ≡ true)
