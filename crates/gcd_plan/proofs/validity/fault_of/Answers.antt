use Rattle.gcd_plan.specs.PlanView.{view_of}
use Rattle.gcd_plan.proofs.Broken.{fault_told}
use Rattle.gcd_plan.proofs.validity.fault_of.Goals as goal

pub returns-clause-valid : goal.returns-clause-valid
returns-clause-valid c =
    rw c.err.ensures.value
    (fault_told (view_of c.args.parts.now) c.check_parts.result c.check_parts.ensures.fits c.check_parts.ensures.broken)
