use Rattle.gcd_history.proofs.Public.Facts.{all_fit}
use Rattle.gcd_history.proofs.facts.lawful_events_fit.Goals as goal

pub returns : goal.returns
returns c = all_fit
