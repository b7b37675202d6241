use Rattle.std.proofs.Common.{arith, below_more}
use Rattle.gcd_plan.proofs.submitted_once.check_submissions.Goals as goal

pub loop-b-preserved : goal.loop-b-preserved
loop-b-preserved c = below_more _ _ c.loop-b.invariant (omega (arith, c.submissions.ensures))

pub returns-clause-fits : goal.returns-clause-fits
returns-clause-fits c = λ b h. c.loop-b.invariant b (omega arith)
