use Rattle.std.proofs.Common.{refl}
use Rattle.gcd_journal.proofs.laws.written_journals_are_read.Goals as goal

pub returns : goal.returns
returns c = λ most plan h rest spoken few. record { begins = record { rest = rest; whole = refl }; spoken = spoken; few = few }
