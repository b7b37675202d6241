-- Which words are numbers in decimal.
use Rattle.std.proofs.Common.{ℕ, ◌+◌, ◌-◌, ◌*◌, ◌≡◌, ◌≢◌, ◌<◌, ◌≤◌, ◌^◌, List, [], ◌∷◌, ⊎_elim, take, inl, inr, ◌⊎◌, suc, zero, length, get_or, decimal, Option, Some, None, IfSome, IfNone, sym, ap, subst, ◌∙◌, arith, refl}
use Rattle.std.specs.Str.Parse.{AllDigits, digits_value}
use Rattle.std.proofs.lemmas.Fmt.{decimal-digits_value, digits_decimal, decimal_nonempty, length-decimal-le, first_decimal, decimal_digit}
use Rattle.std.specs.Int.{IsInRange}
use Rattle.std.proofs.lemmas.Int.Digits.{digits_value_more}
use Rattle.std.proofs.lemmas.Str.{digit_value_digit}
use Rattle.std.proofs.lemmas.List.{length-take-le}
use Rattle.std.proofs.lemmas.Str.Parse.{IsNumeralModel, numerals_by_value, tells_digits, digits_value_short}
use Rattle.gcd_text.specs.Numbers.{number_end}

-- digits are the bytes 48 to 57
own : IsNumeralModel (AllDigits 10) (digits_value 10)
own = numerals_by_value (AllDigits 10) tells_digits

-- digits with no leading zero are what is written of their value
pub written : (word : List ℕ) → AllDigits 10 word → 0 < length word → get_or word 0 0 ≢ 48 → length word ≤ 10 → word ≡ decimal (digits_value 10 word)
written word digits some first few =
    let low = digits_value_short own word 10 digits few in
    sym (decimal-digits_value own word digits some (λ zero. absurd (first zero)) (omega arith))

-- and their value is below 10^10
pub low : (word : List ℕ) → AllDigits 10 word → length word ≤ 10 → digits_value 10 word < number_end
low word digits few = digits_value_short own word 10 digits few

-- what is written is not empty
pub not_empty : (word : List ℕ) → length word ≡ 0 → (n : ℕ) → n < number_end → word ≢ decimal n
not_empty word none n small same = let some = decimal_nonempty n (omega arith) in let length_is = ap length same in omega arith

-- nor longer than ten digits
pub not_long : (word : List ℕ) → 10 < length word → (n : ℕ) → n < number_end → word ≢ decimal n
not_long word long n small same = let short = length-decimal-le 10 n (omega arith) small (omega arith) in let length_is = ap length same in omega arith

zero_or_more : (n : ℕ) → (n ≡ 0) ⊎ (0 < n)
zero_or_more zero = inl refl
zero_or_more (suc n) = inr (omega arith)

-- nor begins with 0, but for the number 0
pub not_padded : (word : List ℕ) → get_or word 0 0 ≡ 48 → length word ≢ 1 → (n : ℕ) → n < number_end → word ≢ decimal n
not_padded word padded other n small same =
    let first : get_or (decimal n) 0 0 ≡ 48 = subst (λ w. get_or w 0 0 ≡ 48) same padded in
    ⊎_elim
    (λ (none : n ≡ 0). other (ap length same ∙ ap (λ m. length (decimal m)) none ∙ ap length (decimal_digit 0 (omega arith))))
    (λ (some : 0 < n). let above = first_decimal n some (omega arith) in omega arith)
    (zero_or_more n)

-- nor has another byte than digits
pub not_digits : (word : List ℕ) → (AllDigits 10 word → ⊥) → (n : ℕ) → n < number_end → word ≢ decimal n
not_digits word other n small same = other (subst (AllDigits 10) (sym same) (digits_decimal own n (omega arith)))

-- the value of some of ten digits
pub value_in : (ds : List ℕ) (i : ℕ) → length ds ≤ 10 → i ≤ length ds → AllDigits 10 (take i ds) → digits_value 10 (take i ds) < 10 ^ 10
value_in ds i few inside digits =
    let short = length-take-le i ds inside in
    digits_value_short own (take i ds) 10 digits (omega arith)

-- the digit 0 alone is the number 0
pub zero_alone : (word : List ℕ) → get_or word 0 0 ≡ 48 → length word ≡ 1 → word ≡ decimal 0
zero_alone [] first one = absurd (omega arith)
zero_alone (c ∷ []) first one = ap (λ d. d ∷ []) first ∙ sym (decimal_digit 0 (omega arith))
zero_alone (c ∷ d ∷ cs) first one = absurd (omega arith)

-- one digit more
pub next_value : (ds : List ℕ) (i value : ℕ) → i < length ds → IsInRange 48 57 (get_or ds i 0) → value ≡ digits_value 10 (take i ds) → digits_value 10 (take (i + 1) ds) ≡ value * 10 + (get_or ds i 0 - 48)
next_value ds i value inside digit same =
    let worth = digit_value_digit (get_or ds i 0) digit in
    let more = digits_value_more 10 ds i inside in
    omega arith

-- what a reading of digits says of the word
module _ (word : List ℕ) (read : Option ℕ) (some : 0 < length word) (first : get_or word 0 0 ≢ 48) (few : length word ≤ 10) where
  pub written_if : IfSome read (λ n. AllDigits 10 word) → IfSome read (λ n. n ≡ digits_value 10 word) → IfSome read (λ n. word ≡ decimal n)
  written_if digits value =
      elim read as (λ r. IfSome r (λ n. AllDigits 10 word) → IfSome r (λ n. n ≡ digits_value 10 word) → IfSome r (λ n. word ≡ decimal n)) [
        | None ↦ λ d v. tt
        | Some n ↦ λ d v. written word d some first few ∙ ap decimal (sym v)
      ] digits value

  pub low_if : IfSome read (λ n. AllDigits 10 word) → IfSome read (λ n. n ≡ digits_value 10 word) → IfSome read (λ n. n < number_end)
  low_if digits value =
      elim read as (λ r. IfSome r (λ n. AllDigits 10 word) → IfSome r (λ n. n ≡ digits_value 10 word) → IfSome r (λ n. n < number_end)) [
        | None ↦ λ d v. tt
        | Some n ↦ λ d v. let below = low word d few in omega arith
      ] digits value

  pub unwritten_if : IfNone read (AllDigits 10 word → ⊥) → IfNone read ((n : ℕ) → n < number_end → word ≢ decimal n)
  unwritten_if other =
      elim read as (λ r. IfNone r (AllDigits 10 word → ⊥) → IfNone r ((n : ℕ) → n < number_end → word ≢ decimal n)) [
        | None ↦ λ o. not_digits word o
        | Some n ↦ λ o. tt
      ] other
