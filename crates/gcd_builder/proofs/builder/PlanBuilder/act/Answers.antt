use Rattle.std.proofs.Common.{sym, subst}
use Rattle.gcd_plan.specs.PlanView.{view_of}
use Rattle.gcd_plan.specs.Validity.{IsPlan}
use Rattle.gcd_builder.proofs.Refused.{by_rule_at, spent_at}
use Rattle.gcd_builder.proofs.Steps.{act_stays}
use Rattle.gcd_builder.proofs.builder.PlanBuilder.act.Goals as goal

pub returns-then-self-clause-refused : goal.returns-then-self-clause-refused
returns-then-self-clause-refused c = spent_at _ _ c.self.view_is c.if-self.true

pub returns-in_err-check_act-clause-refused : goal.returns-in_err-check_act-clause-refused
returns-in_err-check_act-clause-refused c =
    by_rule_at _ _ c.self.view_is c.from_residual.result c.in_err-check_act.field-0.0 c.from_residual.ensures.1 c.if-self.false c.in_err-check_act.ensures.broken

pub invariant_of-self-2 : goal.invariant_of-self-2
invariant_of-self-2 c = λ has. record {
  valid = subst IsPlan (sym c.in_ok-add_act.ensures.view)
      (act_stays (view_of c.self.inside.draft.parts) (c.self.invariant c.if-self.false).valid c.args.run c.args.act c.in_ok-check_act.ensures.fits);
  agrees = c.in_ok-add_act.ensures.agrees;
}
