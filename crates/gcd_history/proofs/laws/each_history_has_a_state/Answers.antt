use Rattle.gcd_history.proofs.Permitted.OneState.{some_state}
use Rattle.gcd_history.proofs.laws.each_history_has_a_state.Goals as goal

pub returns : goal.returns
returns c = some_state
