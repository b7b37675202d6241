use Rattle.gcd_history.proofs.Permitted.OneState.{one_state}
use Rattle.gcd_history.proofs.laws.states_are_apart.Goals as goal

pub returns : goal.returns
returns c = one_state
