use Rattle.gcd_journal.proofs.OneWay.{journals_agree, journals_stand, faults_agree}
use Rattle.gcd_journal.proofs.laws.journals_are_read_one_way.Goals as goal

pub returns-clause-events : goal.returns-clause-events
returns-clause-events c = λ most plan text h k small valid. journals_agree plan valid most small text h k

pub returns-clause-journal : goal.returns-clause-journal
returns-clause-journal c = λ most plan text h line small valid. journals_stand plan valid most small text h line

pub returns-clause-line : goal.returns-clause-line
returns-clause-line c = λ most plan text a b small valid. faults_agree plan valid most small text a b
