use Rattle.gcd_history.proofs.Public.BlockLaws.{applied_strips_have_run}
use Rattle.gcd_history.proofs.laws.applied_strips_have_run.Goals as goal

pub returns : goal.returns
returns c = applied_strips_have_run
