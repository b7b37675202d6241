use Rattle.gcd_pool.proofs.Exits.{ended_going_on}
use Rattle.gcd_pool.proofs.duty.exit_of.Goals as goal

pub returns-in-None : goal.returns-in-None
returns-in-None c = λ most plan h stands ended. ended_going_on most plan h ended (c.in-None.ensures most plan h stands)
