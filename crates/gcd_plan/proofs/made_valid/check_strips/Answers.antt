use Rattle.std.proofs.Common.{arith, below_more}
use Rattle.gcd_plan.specs.PlanView.{strip_view}
use Rattle.gcd_plan.proofs.Having.{all_seen}
use Rattle.gcd_plan.proofs.made_valid.check_strips.Goals as goal

pub loop-a-preserved : goal.loop-a-preserved
loop-a-preserved c = below_more _ _ c.loop-a.invariant c.in_ok-check_strip.ensures.fits

pub returns-clause-fits : goal.returns-clause-fits
returns-clause-fits c = all_seen strip_view _ c.args.parts.now.strips.items c.loop-a.a (omega arith) c.loop-a.invariant
