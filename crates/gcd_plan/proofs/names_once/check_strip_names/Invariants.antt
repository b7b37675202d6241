use Rattle.std.proofs.Common.{ℕ, ◌<◌}
use Rattle.gcd_plan.specs.Breaks.{Has, names_before_strip}
use Rattle.gcd_plan.specs.Checked.{IsNewName}
use Rattle.gcd_plan.specs.PlanView.{view_of}
use Rattle.gcd_plan.proofs.names_once.check_strip_names.Given as goal

abbrev pub invariant-loop-a : goal.invariant-loop-a
invariant-loop-a l = (k : ℕ) → k < l.a → Has (view_of l.parts).strips k (λ v. IsNewName (names_before_strip (view_of l.parts) k) v.name)
