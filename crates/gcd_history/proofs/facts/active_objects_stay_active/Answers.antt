use Rattle.gcd_history.proofs.Public.Facts.{stays_active}
use Rattle.gcd_history.proofs.facts.active_objects_stay_active.Goals as goal

pub returns : goal.returns
returns c = stays_active
