use Rattle.gcd_history.proofs.Permitted.Lawful.{lawful_more}
use Rattle.gcd_history.proofs.lawful.lawful_goes_on.Goals as goal

pub returns : goal.returns
returns c = lawful_more
