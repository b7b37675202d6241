-- Which words are numbers of a range.
use Rattle.std.proofs.Common.{ℕ, ◌≡◌, ◌<◌, ◌≤◌, true, ◌&&◌, cond, leb, List, Ok, Err, decimal, sym, ap, ◌∙◌, subst, arith}
use Rattle.std.specs.Str.{bytes_eq}
use Rattle.std.specs.Str.Parse.{digits_value}
use Rattle.std.proofs.lemmas.Bool.{and_parts, and_from, le-leb, leb-true, false_from_ne_true}
use Rattle.std.proofs.lemmas.Fmt.{decimal_is_IsNumeral}
use Rattle.gcd_text.specs.Numbers.{number_end}
use Rattle.gcd_script.specs.declared.refusal.Refusal.TheVariants.{BadNumber}
use Rattle.gcd_script.specs.Words.{number, is_number}
use Rattle.gcd_builder.proofs.Places.{same_bytes, bytes_same}

-- the value of what is written
value_is : (word : List ℕ) (n : ℕ) → word ≡ decimal n → n < number_end → digits_value 10 word ≡ n
value_is word n written low = ap (digits_value 10) written ∙ (decimal_is_IsNumeral n (omega arith)).1

pub number_in : (low high : ℕ) (word : List ℕ) (n : ℕ) → word ≡ decimal n → n < number_end → low ≤ n → n ≤ high → number low high word ≡ Ok n
number_in low high word n written small above below =
    let v = digits_value 10 word in
    let same : v ≡ n = value_is word n written small in
    let test : is_number low high word ≡ true =
    and_from (bytes_eq word (decimal v)) (leb low v && leb v high)
    (subst (λ w. bytes_eq word w ≡ true) (written ∙ ap decimal (sym same)) (bytes_same word))
    (and_from (leb low v) (leb v high) (le-leb low v (omega arith)) (le-leb v high (omega arith)))
    in
    ap (λ t. cond t (Ok v) (Err BadNumber)) test ∙ ap Ok same

not_number : (low high : ℕ) (word : List ℕ) → (is_number low high word ≡ true → ⊥) → number low high word ≡ Err BadNumber
not_number low high word none = ap (λ t. cond t (Ok (digits_value 10 word)) (Err BadNumber)) (false_from_ne_true (is_number low high word) none)

-- a number in its range, from the test
record IsInRange (low high : ℕ) (word : List ℕ) : Type 0 where
  written : word ≡ decimal (digits_value 10 word)
  above : low ≤ digits_value 10 word
  below : digits_value 10 word ≤ high

ranged : (low high : ℕ) (word : List ℕ) → is_number low high word ≡ true → IsInRange low high word
ranged low high word h =
    let v = digits_value 10 word in
    let parts = and_parts (bytes_eq word (decimal v)) (leb low v && leb v high) h in
    let range = and_parts (leb low v) (leb v high) parts.1 in
    record { written = same_bytes word (decimal v) parts.0; above = leb-true low v range.0; below = leb-true v high range.1 }

pub number_low : (low high : ℕ) (word : List ℕ) (n : ℕ) → word ≡ decimal n → n < number_end → n < low → number low high word ≡ Err BadNumber
number_low low high word n written small under =
    not_number low high word (λ h. let is = ranged low high word h in let same = value_is word n written small in omega (arith, is.above))

pub number_high : (low high : ℕ) (word : List ℕ) (n : ℕ) → word ≡ decimal n → n < number_end → high < n → number low high word ≡ Err BadNumber
number_high low high word n written small over =
    not_number low high word (λ h. let is = ranged low high word h in let same = value_is word n written small in omega (arith, is.below))
