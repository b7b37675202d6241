use Rattle.std.proofs.Common.{sym}
use Rattle.gcd_event.proofs.EntryLemmas.{spelled_word, spelling}
use Rattle.gcd_event.proofs.entry.Entry.of.Goals as goal

pub invariant_of-result : goal.invariant_of-result
invariant_of-result c = spelling c.args.e c.to_word.result c.requires (sym c.to_word.ensures.exact)

pub returns : goal.returns
returns c = spelled_word c.args.e c.to_word.result c.requires (sym c.to_word.ensures.exact)
