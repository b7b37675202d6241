use Rattle.std.proofs.Common.{ℕ, ◌<◌, ◌≤◌, ◌==◌}
use Rattle.std.specs.List.{count_by}
use Rattle.gcd_plan.specs.PlanView.{view_of}
use Rattle.gcd_plan.specs.Validity.{submitted_blocks}
use Rattle.gcd_plan.proofs.submitted_once.check_submissions.Given as goal

abbrev pub invariant-loop-b : goal.invariant-loop-b
invariant-loop-b l = (k : ℕ) → k < l.b → count_by (λ c. c.0 == k) (submitted_blocks (view_of l.parts)) ≤ 1
