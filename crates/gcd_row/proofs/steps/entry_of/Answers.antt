use Rattle.std.proofs.Common.{sym}
use Rattle.gcd_event.specs.Words.{word_of}
use Rattle.gcd_row.proofs.RowWords.{event_word}
use Rattle.gcd_row.proofs.steps.entry_of.Goals as goal

pub of_word-requires : goal.of_word-requires
of_word-requires c = let r = c.requires in
    record { event = r.0; fits = r.1; word = sym (c.bare.ensures c.args.n (word_of r.0) (event_word r.0 r.1) r.2) }

pub returns : goal.returns
returns c = λ e fits is. c.of_word.ensures e fits (sym (c.bare.ensures c.args.n (word_of e) (event_word e fits) is))
