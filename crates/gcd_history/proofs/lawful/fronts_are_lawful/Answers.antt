use Rattle.gcd_history.proofs.Permitted.Lawful.{lawful_front, lawful_take}
use Rattle.gcd_history.proofs.lawful.fronts_are_lawful.Goals as goal

pub returns : goal.returns
returns c = record { front = lawful_front; first = lawful_take }
