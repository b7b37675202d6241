use Rattle.gcd_builder.proofs.Refused.{by_rule_at, spent_at}
use Rattle.gcd_builder.proofs.builder.PlanBuilder.timer.Goals as goal

pub returns-then-self-clause-refused : goal.returns-then-self-clause-refused
returns-then-self-clause-refused c = spent_at _ _ c.self.view_is c.if-self.true

pub returns-in_err-check_timer-clause-refused : goal.returns-in_err-check_timer-clause-refused
returns-in_err-check_timer-clause-refused c =
    by_rule_at _ _ c.self.view_is c.from_residual.result c.in_err-check_timer.field-0.0 c.from_residual.ensures.1 c.if-self.false c.in_err-check_timer.ensures.broken
