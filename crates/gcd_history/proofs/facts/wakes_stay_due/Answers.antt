use Rattle.gcd_history.proofs.Public.Facts.{wakes_due, wakes_permitted}
use Rattle.gcd_history.proofs.facts.wakes_stay_due.Goals as goal

pub returns : goal.returns
returns c = record { due = wakes_due; permitted = wakes_permitted }
