use Rattle.std.proofs.Common.{arith, below_more}
use Rattle.gcd_plan.specs.PlanView.{file_view}
use Rattle.gcd_plan.proofs.Having.{all_seen}
use Rattle.gcd_plan.proofs.parts_valid.check_files.Goals as goal

pub loop-f-preserved : goal.loop-f-preserved
loop-f-preserved c = below_more _ _ c.loop-f.invariant c.in_ok-check_file.ensures.fits

pub returns-clause-fits : goal.returns-clause-fits
returns-clause-fits c = all_seen file_view _ c.args.parts.now.files.items c.loop-f.f (omega arith) c.loop-f.invariant
