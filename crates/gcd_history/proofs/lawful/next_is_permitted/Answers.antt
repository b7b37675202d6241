use Rattle.gcd_history.proofs.Permitted.Lawful.{lawful_next}
use Rattle.gcd_history.proofs.lawful.next_is_permitted.Goals as goal

pub returns : goal.returns
returns c = lawful_next
