use Rattle.std.proofs.Common.{sym, subst}
use Rattle.gcd_plan.specs.PlanView.{view_of}
use Rattle.gcd_plan.specs.Validity.{IsPlan}
use Rattle.gcd_builder.proofs.Refused.{by_rule_at, spent_at}
use Rattle.gcd_builder.proofs.Steps.{cancel_stays}
use Rattle.gcd_builder.proofs.builder.PlanBuilder.cancel_block.Goals as goal

pub returns-then-self-clause-refused : goal.returns-then-self-clause-refused
returns-then-self-clause-refused c = spent_at _ _ c.self.view_is c.if-self.true

pub returns-in_err-check_cancel-clause-refused : goal.returns-in_err-check_cancel-clause-refused
returns-in_err-check_cancel-clause-refused c =
    by_rule_at _ _ c.self.view_is c.from_residual.result c.in_err-check_cancel.field-0.0 c.from_residual.ensures.1 c.if-self.false c.in_err-check_cancel.ensures.broken

pub invariant_of-self : goal.invariant_of-self
invariant_of-self c = λ has. record {
  valid = subst IsPlan (sym c.add_cancel.ensures.view)
      (cancel_stays (view_of c.self.inside.draft.parts) (c.self.invariant c.if-self.false).valid c.args.source c.args.block c.in_ok-check_cancel.ensures.fits);
  agrees = c.add_cancel.ensures.agrees;
}
