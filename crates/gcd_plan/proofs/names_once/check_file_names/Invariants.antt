use Rattle.std.proofs.Common.{ℕ, ◌<◌}
use Rattle.gcd_plan.specs.Breaks.{Has, names_before_file}
use Rattle.gcd_plan.specs.Checked.{IsNewName}
use Rattle.gcd_plan.specs.PlanView.{view_of}
use Rattle.gcd_plan.proofs.names_once.check_file_names.Given as goal

abbrev pub invariant-loop-f : goal.invariant-loop-f
invariant-loop-f l = (k : ℕ) → k < l.f → Has (view_of l.parts).files k (λ v. IsNewName (names_before_file (view_of l.parts) k) v.name)
