use Rattle.gcd_journal.proofs.FirstBarred.{none_barred, one_barred}
use Rattle.gcd_journal.proofs.laws.one_event_is_barred_first.Goals as goal

pub returns-clause-lawful : goal.returns-clause-lawful
returns-clause-lawful c = none_barred

pub returns-clause-one : goal.returns-clause-one
returns-clause-one c = one_barred
