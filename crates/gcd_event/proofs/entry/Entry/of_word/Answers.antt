use Rattle.gcd_event.proofs.EntryLemmas.{spelled_word, spelling_of}
use Rattle.gcd_event.proofs.entry.Entry.of_word.Goals as goal

pub invariant_of-result : goal.invariant_of-result
invariant_of-result c = spelling_of c.args.word c.requires

pub returns : goal.returns
returns c e fits is = spelled_word e c.args.word fits is
