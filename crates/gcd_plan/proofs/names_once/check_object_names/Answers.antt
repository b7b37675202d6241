use Rattle.std.proofs.Common.{arith, below_more}
use Rattle.gcd_plan.specs.PlanView.{obj_view}
use Rattle.gcd_plan.proofs.Having.{all_seen}
use Rattle.gcd_plan.proofs.names_once.check_object_names.Goals as goal

pub loop-o-preserved : goal.loop-o-preserved
loop-o-preserved c = below_more _ _ c.loop-o.invariant c.in_ok-check_object_name.ensures.fits

pub returns-clause-fits : goal.returns-clause-fits
returns-clause-fits c = all_seen obj_view _ c.args.parts.now.objects.items c.loop-o.o (omega arith) c.loop-o.invariant
