use Rattle.gcd_history.proofs.Public.Laws.{delivers_alone}
use Rattle.gcd_history.proofs.laws.deliveries_exclude_each_other.Goals as goal

pub returns : goal.returns
returns c = delivers_alone
