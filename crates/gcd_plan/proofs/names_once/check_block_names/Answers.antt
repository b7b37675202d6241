use Rattle.std.proofs.Common.{arith, below_more}
use Rattle.gcd_plan.specs.PlanView.{blk_view}
use Rattle.gcd_plan.proofs.Having.{all_seen}
use Rattle.gcd_plan.proofs.names_once.check_block_names.Goals as goal

pub loop-b-preserved : goal.loop-b-preserved
loop-b-preserved c = below_more _ _ c.loop-b.invariant c.in_ok-check_block_name.ensures.fits

pub returns-clause-fits : goal.returns-clause-fits
returns-clause-fits c = all_seen blk_view _ c.args.parts.now.blocks.items c.loop-b.b (omega arith) c.loop-b.invariant
