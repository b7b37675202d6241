use Rattle.std.proofs.Common.{ℕ, ◌<◌, ◌≤◌}
use Rattle.std.specs.List.{count_by}
use Rattle.gcd_plan.specs.Made.{is_within, spans}
use Rattle.gcd_plan.specs.PlanView.{view_of}
use Rattle.gcd_plan.proofs.made_valid.check_apart.Given as goal

abbrev pub invariant-loop-b : goal.invariant-loop-b
invariant-loop-b l = (k : ℕ) → k < l.b → count_by (is_within k) (spans (view_of l.parts)) ≤ 1
