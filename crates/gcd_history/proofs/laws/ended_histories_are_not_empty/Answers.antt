use Rattle.gcd_history.proofs.Permitted.NotEmpty.{ended_is_not_empty}
use Rattle.gcd_history.proofs.laws.ended_histories_are_not_empty.Goals as goal

pub returns : goal.returns
returns c = ended_is_not_empty
