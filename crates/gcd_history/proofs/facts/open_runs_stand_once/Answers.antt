use Rattle.gcd_history.proofs.Public.Facts.{is_open_once}
use Rattle.gcd_history.proofs.facts.open_runs_stand_once.Goals as goal

pub returns : goal.returns
returns c = is_open_once
