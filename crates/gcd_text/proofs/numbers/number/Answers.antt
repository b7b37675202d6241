use Rattle.std.proofs.Common.{◌<◌, length, sym, ◌∙◌, arith, rules}
use Rattle.std.proofs.lemmas.Bool.{eqb-true}
use Rattle.gcd_text.proofs.Decimals.{not_empty, not_long, not_padded, zero_alone, written_if, low_if, unwritten_if}
use Rattle.gcd_text.proofs.numbers.number.Goals as goal

pub returns-then-is_empty-clause-unwritten : goal.returns-then-is_empty-clause-unwritten
returns-then-is_empty-clause-unwritten c = not_empty c.args.word.now (eqb-true (length c.args.word.now) 0 (sym c.is_empty.ensures ∙ c.if-is_empty.true))

pub returns-then-word-gt-MAX_DIGITS-clause-unwritten : goal.returns-then-word-gt-MAX_DIGITS-clause-unwritten
returns-then-word-gt-MAX_DIGITS-clause-unwritten c = not_long c.args.word.now (omega arith)

pub returns-then-word-eq1-clause-written : goal.returns-then-word-eq1-clause-written
returns-then-word-eq1-clause-written c = zero_alone c.args.word.now (search rules) (search rules)

pub returns-else-word-eq1-clause-unwritten : goal.returns-else-word-eq1-clause-unwritten
returns-else-word-eq1-clause-unwritten c = not_padded c.args.word.now (search rules) (search rules)

pub returns-clause-written : goal.returns-clause-written
returns-clause-written c =
    let some : 0 < length c.args.word.now = search rules in
    written_if c.args.word.now c.value_of.result some (search rules) (omega arith) c.value_of.ensures.digits c.value_of.ensures.value

pub returns-clause-low : goal.returns-clause-low
returns-clause-low c =
    let some : 0 < length c.args.word.now = search rules in
    low_if c.args.word.now c.value_of.result some (search rules) (omega arith) c.value_of.ensures.digits c.value_of.ensures.value

pub returns-clause-unwritten : goal.returns-clause-unwritten
returns-clause-unwritten c =
    let some : 0 < length c.args.word.now = search rules in
    unwritten_if c.args.word.now c.value_of.result some (search rules) (omega arith) c.value_of.ensures.other
