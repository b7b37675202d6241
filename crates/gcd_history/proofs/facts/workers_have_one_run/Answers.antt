use Rattle.gcd_history.proofs.Public.Facts.{has_one_run, gives_to_free}
use Rattle.gcd_history.proofs.facts.workers_have_one_run.Goals as goal

pub returns : goal.returns
returns c = record { one = has_one_run; given = gives_to_free }
