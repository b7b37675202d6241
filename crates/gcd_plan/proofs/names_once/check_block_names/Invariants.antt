use Rattle.std.proofs.Common.{ℕ, ◌<◌}
use Rattle.gcd_plan.specs.Breaks.{Has}
use Rattle.gcd_plan.specs.Checked.{IsNewBlock}
use Rattle.gcd_plan.specs.PlanView.{view_of}
use Rattle.gcd_plan.proofs.names_once.check_block_names.Given as goal

abbrev pub invariant-loop-b : goal.invariant-loop-b
invariant-loop-b l = (k : ℕ) → k < l.b → Has (view_of l.parts).blocks k (λ v. IsNewBlock (view_of l.parts) k v.name)
