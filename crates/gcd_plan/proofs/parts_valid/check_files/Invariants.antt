use Rattle.std.proofs.Common.{◌≡◌, ℕ, ◌<◌, true}
use Rattle.gcd_plan.specs.Breaks.{Has}
use Rattle.gcd_plan.specs.PlanView.{view_of}
use Rattle.gcd_plan.specs.Validity.{is_file}
use Rattle.gcd_plan.proofs.parts_valid.check_files.Given as goal

abbrev pub invariant-loop-f : goal.invariant-loop-f
invariant-loop-f l = (k : ℕ) → k < l.f → Has (view_of l.parts).files k (λ v. is_file v ≡ true)
