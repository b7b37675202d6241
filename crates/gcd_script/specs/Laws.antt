-- What follows from the definitions of the grammar.
use Rattle.std.specs.Prelude.{ℕ, List}
use Rattle.gcd_plan.specs.PlanView.{PlanView}
use Rattle.gcd_plan.specs.Validity.{IsPlan}
use Rattle.gcd_script.specs.Faults.{IsScriptOf}

-- the plan that a script declares is valid
abbrev pub ScriptsDeclareValidPlans : Type 0
ScriptsDeclareValidPlans = (bytes : List ℕ) (plan : PlanView) → IsScriptOf bytes plan → IsPlan plan
