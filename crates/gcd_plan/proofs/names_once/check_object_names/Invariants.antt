use Rattle.std.proofs.Common.{ℕ, ◌<◌}
use Rattle.gcd_plan.specs.Breaks.{Has, names_before_object}
use Rattle.gcd_plan.specs.Checked.{IsNewName}
use Rattle.gcd_plan.specs.PlanView.{view_of}
use Rattle.gcd_plan.proofs.names_once.check_object_names.Given as goal

abbrev pub invariant-loop-o : goal.invariant-loop-o
invariant-loop-o l = (k : ℕ) → k < l.o → Has (view_of l.parts).objects k (λ v. IsNewName (names_before_object (view_of l.parts) k) v.name)
