use Rattle.gcd_journal.proofs.OneCause.{one_cause}
use Rattle.gcd_journal.proofs.SomeCause.{some_cause}
use Rattle.gcd_journal.proofs.laws.refused_lines_have_one_cause.Goals as goal

pub returns-clause-some : goal.returns-clause-some
returns-clause-some c = λ most plan text line valid. some_cause plan valid most text line

pub returns-clause-one : goal.returns-clause-one
returns-clause-one c = λ most plan text a b c d small valid. one_cause plan valid most small text a b c d
