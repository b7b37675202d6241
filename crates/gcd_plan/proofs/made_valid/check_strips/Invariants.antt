use Rattle.std.proofs.Common.{ℕ, ◌<◌}
use Rattle.gcd_plan.specs.Breaks.{Has}
use Rattle.gcd_plan.specs.PlanView.{view_of}
use Rattle.gcd_plan.specs.Validity.{IsStrip}
use Rattle.gcd_plan.proofs.made_valid.check_strips.Given as goal

abbrev pub invariant-loop-a : goal.invariant-loop-a
invariant-loop-a l = (k : ℕ) → k < l.a → Has (view_of l.parts).strips k (IsStrip (view_of l.parts))
