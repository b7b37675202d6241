use Rattle.gcd_history.proofs.Public.Laws.{halted_stands, quiescent_stands}
use Rattle.gcd_history.proofs.laws.ended_histories_stand.Goals as goal

pub returns : goal.returns
returns c = record { halted = halted_stands; quiescent = quiescent_stands }
