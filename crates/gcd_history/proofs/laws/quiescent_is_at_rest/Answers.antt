use Rattle.gcd_history.proofs.Public.Laws.{rest_is_quiescent, quiescent_is_rest}
use Rattle.gcd_history.proofs.laws.quiescent_is_at_rest.Goals as goal

pub returns : goal.returns
returns c = record { quiescent = rest_is_quiescent; rest = quiescent_is_rest }
