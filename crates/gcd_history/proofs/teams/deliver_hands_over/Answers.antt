use Rattle.gcd_history.proofs.HeldRuns.Cells.{deliver_hands_over}
use Rattle.gcd_history.proofs.Sources.Totals.{totals_fit}
use Rattle.gcd_history.proofs.teams.deliver_hands_over.Goals as goal

pub returns : goal.returns
returns c = record { now = deliver_hands_over; low = totals_fit }
