use Rattle.std.proofs.Common.{◌<◌, get_or, arith, rules}
use Rattle.std.specs.Int.{IsInRange}
use Rattle.std.specs.Char.{digit_value}
use Rattle.std.proofs.lemmas.Int.Digits.{digits_more}
use Rattle.std.proofs.lemmas.Str.Parse.{digit_at}
use Rattle.gcd_text.proofs.Decimals.{value_in, next_value}
use Rattle.gcd_text.proofs.numbers.value_of.Goals as goal

pub returns-then-not-is_ascii_digit-clause-other : goal.returns-then-not-is_ascii_digit-clause-other
returns-then-not-is_ascii_digit-clause-other c =
    λ all. let digit = digit_at c.args.digits.now c.loop-digit.digit-index all c.loop-digit-test.true in search rules

pub overflow_mul-value : goal.overflow_mul-value
overflow_mul-value c =
    let low = value_in c.args.digits.now c.loop-digit.digit-index c.requires (omega arith) c.loop-digit.invariant.digits in
    omega (arith, c.loop-digit.invariant.value)

pub overflow_add-value : goal.overflow_add-value
overflow_add-value c =
    let low = value_in c.args.digits.now c.loop-digit.digit-index c.requires (omega arith) c.loop-digit.invariant.digits in
    omega (arith, c.loop-digit.invariant.value)

pub loop-digit-preserved : goal.loop-digit-preserved
loop-digit-preserved c =
    let ds = c.args.digits.now in
    let i = c.loop-digit.digit-index in
    let digit : IsInRange 48 57 (get_or ds i 0) = search rules in
    let bound : digit_value (get_or ds i 0) < 10 = search rules in
    let more = next_value ds i c.loop-digit.value c.loop-digit-test.true digit c.loop-digit.invariant.value in
    record {
      digits = digits_more 10 ds i c.loop-digit-test.true c.loop-digit.invariant.digits bound;
      value = omega arith;
    }
