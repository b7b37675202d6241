use Rattle.gcd_history.proofs.Public.Laws.{barriers_exclude}
use Rattle.gcd_history.proofs.laws.barriers_exclude.Goals as goal

pub returns : goal.returns
returns c = barriers_exclude
