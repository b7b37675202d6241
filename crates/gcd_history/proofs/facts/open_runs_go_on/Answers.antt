use Rattle.gcd_history.proofs.Public.Facts.{runs_go_on}
use Rattle.gcd_history.proofs.facts.open_runs_go_on.Goals as goal

pub returns : goal.returns
returns c = runs_go_on
