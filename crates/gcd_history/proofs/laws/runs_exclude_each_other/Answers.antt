use Rattle.gcd_history.proofs.Public.Laws.{runs_exclude}
use Rattle.gcd_history.proofs.laws.runs_exclude_each_other.Goals as goal

pub returns : goal.returns
returns c = runs_exclude
