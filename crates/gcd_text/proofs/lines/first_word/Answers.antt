use Rattle.std.proofs.Common.{◌++◌, sym, ap, ◌∙◌}
use Rattle.gcd_text.specs.Lines.{words_of}
use Rattle.gcd_text.proofs.Parts.{first_word, only_word, one_word}
use Rattle.gcd_text.proofs.lines.first_word.Goals as goal

pub returns-then-not-is_empty : goal.returns-then-not-is_empty
returns-then-not-is_empty c =
    sym c.loop-word.invariant.0
    ∙ first_word c.loop-word.rest.now c.in-Some.word.now c.in-Some.more.now c.in-Some.ensures.cut c.in-Some.ensures.first
    ∙ ap (λ ws. ws ++ words_of c.in-Some.more.now) (one_word c.in-Some.word.now (sym c.is_empty.ensures ∙ c.if-not-is_empty.true))

pub returns : goal.returns
returns c =
    sym c.loop-word.invariant.0
    ∙ only_word c.loop-word.rest.now c.in_default.ensures.uncut
    ∙ one_word c.loop-word.rest.now (sym c.is_empty-2.ensures ∙ c.if-is_empty.false)
