use Rattle.gcd_history.proofs.Public.Facts.{stays_cancelled}
use Rattle.gcd_history.proofs.facts.cancelled_sources_stay_cancelled.Goals as goal

pub returns : goal.returns
returns c = stays_cancelled
