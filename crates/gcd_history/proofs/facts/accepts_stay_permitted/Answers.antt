use Rattle.gcd_history.proofs.MadeBlocks.AcceptsStay.{accepts_stay_permitted}
use Rattle.gcd_history.proofs.facts.accepts_stay_permitted.Goals as goal

pub returns : goal.returns
returns c = accepts_stay_permitted
