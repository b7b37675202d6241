use Rattle.gcd_history.proofs.Public.Laws.{tree_stands}
use Rattle.gcd_history.proofs.laws.tree_stands_under_open_runs.Goals as goal

pub returns : goal.returns
returns c = tree_stands
