use Rattle.std.proofs.Common.{sym}
use Rattle.std.proofs.lemmas.Option.{same_Some}
use Rattle.gcd_event.specs.Words.{word_of}
use Rattle.gcd_row.proofs.RowWords.{event_word}
use Rattle.gcd_row.proofs.steps.event_of.Goals as goal

pub unreachable-requires : goal.unreachable-requires
unreachable-requires c = let r = c.requires in c.in-None.ensures.silent r.0 r.1 (sym (c.bare.ensures c.args.n (word_of r.0) (event_word r.0 r.1) r.2))

pub returns : goal.returns
returns c = λ e fits is. same_Some c.in-Some.e e (c.in-Some.ensures.found e fits (sym (c.bare.ensures c.args.n (word_of e) (event_word e fits) is)))
