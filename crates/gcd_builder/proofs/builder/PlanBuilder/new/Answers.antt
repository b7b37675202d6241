use Rattle.std.proofs.Common.{sym, subst}
use Rattle.gcd_plan.specs.Validity.{IsPlan}
use Rattle.gcd_builder.proofs.Empty.{empty_valid}
use Rattle.gcd_builder.proofs.builder.PlanBuilder.new.Goals as goal

pub invariant_of-result : goal.invariant_of-result
invariant_of-result c = λ has. record {
  valid = subst IsPlan (sym c.in_ok-new.ensures.view) empty_valid;
  agrees = c.in_ok-new.ensures.agrees;
}
