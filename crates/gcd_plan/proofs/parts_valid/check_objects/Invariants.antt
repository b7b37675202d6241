use Rattle.std.proofs.Common.{◌≡◌, ℕ, ◌<◌, true}
use Rattle.gcd_plan.specs.Breaks.{Has}
use Rattle.gcd_plan.specs.PlanView.{view_of}
use Rattle.gcd_plan.specs.Validity.{is_object}
use Rattle.gcd_plan.proofs.parts_valid.check_objects.Given as goal

abbrev pub invariant-loop-o : goal.invariant-loop-o
invariant-loop-o l = (k : ℕ) → k < l.o → Has (view_of l.parts).objects k (λ v. is_object (view_of l.parts) v ≡ true)
