use Rattle.std.proofs.Common.{sym, ◌∙◌, arith}
use Rattle.std.proofs.lemmas.Str.{IsCharBoundary-before_ascii, IsCharBoundary-after_ascii}
use Rattle.gcd_text.proofs.Parts.{cut_here, cut_nowhere, from_start, stands_here}
use Rattle.gcd_text.proofs.lines.cut_word.Goals as goal

pub range-requires-clause-end_boundary : goal.range-requires-clause-end_boundary
range-requires-clause-end_boundary c =
    let at = stands_here 32 c.args.line.now c.in-Some.place (sym c.first_space.ensures ∙ c.in-Some.is) in
    IsCharBoundary-before_ascii c.args.line.now c.in-Some.place at.0 (let space = at.1 in omega arith)

pub range_from-requires : goal.range_from-requires
range_from-requires c =
    let at = stands_here 32 c.args.line.now c.in-Some.place (sym c.first_space.ensures ∙ c.in-Some.is) in
    λ _. IsCharBoundary-after_ascii c.args.line.now c.in-Some.place c.utf8.line at.0 (let space = at.1 in omega arith)

pub returns-in-Some-clause-cut : goal.returns-in-Some-clause-cut
returns-in-Some-clause-cut c =
    let cut = cut_here 32 c.args.line.now c.in-Some.place (sym c.first_space.ensures ∙ c.in-Some.is) in
    rw (c.range.ensures.value, from_start c.args.line.now c.in-Some.place, c.range_from.ensures.value) cut.0

pub returns-in-Some-clause-first : goal.returns-in-Some-clause-first
returns-in-Some-clause-first c =
    let cut = cut_here 32 c.args.line.now c.in-Some.place (sym c.first_space.ensures ∙ c.in-Some.is) in
    rw (c.range.ensures.value, from_start c.args.line.now c.in-Some.place) cut.1

pub returns-in-None-clause-uncut : goal.returns-in-None-clause-uncut
returns-in-None-clause-uncut c = cut_nowhere 32 c.args.line.now (sym c.first_space.ensures ∙ c.in-None.is)
