use Rattle.gcd_history.proofs.Permitted.Lawful.{lawful_none}
use Rattle.gcd_history.proofs.lawful.lawful_begins.Goals as goal

pub returns : goal.returns
returns c = lawful_none
