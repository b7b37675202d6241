use Rattle.std.proofs.Common.{sym, ap, ◌∙◌}
use Rattle.gcd_script.specs.Lines.{words_of}
use Rattle.gcd_script.specs.Views.{draft_view}
use Rattle.gcd_script.proofs.Others.{too_many}
use Rattle.gcd_script.proofs.Reading.{no_line}
use Rattle.gcd_script.proofs.parser.line_meant.Goals as goal

pub returns-in_default-words : goal.returns-in_default-words
returns-in_default-words c =
    let d = draft_view c.args.draft.now in
    let first = c.in-Some-first_word.first.now in
    let rest = words_of c.in-Some-first_word.rest.now in
    sym (no_line d c.args.line.now first rest c.in-Some.ensures.0
    (ap words_of (sym c.in-Some.ensures.1) ∙ c.in-Some-first_word.ensures)
    (sym c.is_mark.ensures ∙ c.if-is_mark.false)
    (too_many d first rest c.in_default-words.ensures.many))
