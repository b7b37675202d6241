use Rattle.gcd_loop.proofs.Steps.{run_on}
use Rattle.gcd_loop.proofs.laws.first_run_is_true.Goals as goal

pub returns : goal.returns
returns c = λ b h k f early first ended goes. run_on b h k f early first ended goes
