use Rattle.std.proofs.Common.{◌≡◌, [], ◌++◌, List, ℕ, Bor, map, sym, ap, ◌∙◌, rules}
use Rattle.std.proofs.lemmas.List.{append_assoc, append-nil}
use Rattle.gcd_text.proofs.Parts.{first_word, only_word, past_front}
use Rattle.gcd_text.specs.Lines.{words_of, unless_empty}
use Rattle.gcd_text.proofs.lines.words.Goals as goal

-- the words so far, and those that are left after one more
abbrev joined : (so_far : List (List ℕ)) (rest word : List ℕ) (left : List (List ℕ)) → words_of rest ≡ unless_empty word ++ left → so_far ++ unless_empty word ++ left ≡ so_far ++ words_of rest
joined so_far rest word left next = append_assoc so_far (unless_empty word) left ∙ ap (λ ys. so_far ++ ys) (sym next)

pub returns-then-not-push_word-clause-many : goal.returns-then-not-push_word-clause-many
returns-then-not-push_word-clause-many c =
    let so_far = map (λ (w : Bor (List ℕ)). w.now) c.loop-word.words.items in
    let next = first_word c.loop-word.rest.now c.in-Some.word.now c.in-Some.more.now c.in-Some.ensures.cut c.in-Some.ensures.first in
    past_front (so_far ++ unless_empty c.in-Some.word.now) (words_of c.in-Some.more.now) (words_of c.args.line.now) 6
    (c.push_word.ensures.full c.if-not-push_word.true)
    (joined so_far c.loop-word.rest.now c.in-Some.word.now (words_of c.in-Some.more.now) next ∙ c.loop-word.invariant.0)

pub loop-word-preserved : goal.loop-word-preserved
loop-word-preserved c =
    let so_far = map (λ (w : Bor (List ℕ)). w.now) c.loop-word.words.items in
    let next = first_word c.loop-word.rest.now c.in-Some.word.now c.in-Some.more.now c.in-Some.ensures.cut c.in-Some.ensures.first in (
      ap (λ ws. ws ++ words_of c.in-Some.more.now) (c.push_word.ensures.pushed c.if-not-push_word.false)
          ∙ joined so_far c.loop-word.rest.now c.in-Some.word.now (words_of c.in-Some.more.now) next ∙ c.loop-word.invariant.0,
      search rules,
    )

pub returns-then-not-push_word-2-clause-many : goal.returns-then-not-push_word-2-clause-many
returns-then-not-push_word-2-clause-many c =
    let so_far = map (λ (w : Bor (List ℕ)). w.now) c.loop-word.words.items in
    past_front (so_far ++ unless_empty c.loop-word.rest.now) [] (words_of c.args.line.now) 6
    (c.push_word-2.ensures.full c.if-not-push_word-2.true)
    (append-nil (so_far ++ unless_empty c.loop-word.rest.now) ∙ ap (λ ys. so_far ++ ys) (sym (only_word c.loop-word.rest.now c.in_default.ensures.uncut)) ∙ c.loop-word.invariant.0)

pub returns-clause-all : goal.returns-clause-all
returns-clause-all c =
    let so_far = map (λ (w : Bor (List ℕ)). w.now) c.loop-word.words.items in
    c.push_word-2.ensures.pushed c.if-not-push_word-2.false
    ∙ ap (λ ys. so_far ++ ys) (sym (only_word c.loop-word.rest.now c.in_default.ensures.uncut)) ∙ c.loop-word.invariant.0
