use Rattle.gcd_history.proofs.Public.Laws.{begins_free}
use Rattle.gcd_history.proofs.laws.runs_begin_free.Goals as goal

pub returns : goal.returns
returns c = begins_free
