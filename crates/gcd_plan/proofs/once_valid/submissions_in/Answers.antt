use Rattle.std.proofs.Common.{◌∙◌, sym}
use Rattle.gcd_plan.specs.PlanView.{view_of}
use Rattle.gcd_plan.proofs.Submits.{acts_counted}
use Rattle.gcd_plan.proofs.once_valid.submissions_in.Goals as goal

pub returns-clause-count : goal.returns-clause-count
returns-clause-count c =
    c.acts_submitting.ensures.count ∙ sym (acts_counted (view_of c.args.parts.now) c.args.b.0 c.args.acts.now)
