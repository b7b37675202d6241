use Rattle.gcd_journal.proofs.SomeCause.{faultless_line, event_faultless}
use Rattle.gcd_journal.proofs.laws.faultless_lines_are_events.Goals as goal

pub returns-clause-event : goal.returns-clause-event
returns-clause-event c = λ plan look line valid. faultless_line plan valid look line

pub returns-clause-faultless : goal.returns-clause-faultless
returns-clause-faultless c = λ plan look line e valid. event_faultless plan valid look line e
