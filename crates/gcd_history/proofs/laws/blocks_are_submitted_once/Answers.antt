use Rattle.gcd_history.proofs.Public.Laws.{is_submitted_once}
use Rattle.gcd_history.proofs.laws.blocks_are_submitted_once.Goals as goal

pub returns : goal.returns
returns c = is_submitted_once
