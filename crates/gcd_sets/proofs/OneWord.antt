-- The bits of one word.
use Rattle.std.proofs.Common.{◌≡◌, ℕ, ◌-◌, ◌*◌, ◌^◌, ◌%◌, ◌<◌, ◌≤◌, inl, inr, Some, None, bit_and, w64, ap, sym, ◌∙◌, arith}
use Rattle.std.specs.List.{find, range_with_len}
use Rattle.std.specs.Int.{bit_at, trailing_zeros}
use Rattle.std.proofs.lemmas.Bool.{cases_lt, eq-eqb, ne_eqb}
use Rattle.std.proofs.lemmas.Nat.{and_le_l}
use Rattle.std.proofs.lemmas.Nat.Bits.{bit_at_and, bit_at_mask_inside, bit_at_mask_below, bit_at-lt, bit_at-zero, bit_at-trailing_zeros, ones_shl}
use Rattle.gcd_sets.specs.Words.{is_set}
use Rattle.gcd_sets.proofs.Ranges.{find_none, find_first}

-- the word without its bits below from
rest_of : ℕ → ℕ → ℕ
rest_of word from = bit_and word ((2 ^ 64 - 1) * 2 ^ from % 2 ^ 64)

rest_inside : (word from k : ℕ) → from ≤ k → k < 64 → bit_at (rest_of word from) k ≡ bit_at word k
unfolding rest_of
rest_inside word from k low high =
    let mask = ap (λ m. bit_at (bit_and word m) k) (ones_shl 64 from (omega arith)) in
    let one = bit_at_mask_inside from 64 k low high in
    let both = bit_at_and word (2 ^ 64 - 2 ^ from) k in
    let short = bit_at-lt word k in
    omega (arith, mask, one, both, short)

rest_below : (word from k : ℕ) → from ≤ 64 → k < from → bit_at (rest_of word from) k ≡ 0
unfolding rest_of
rest_below word from k within low =
    let mask = ap (λ m. bit_at (bit_and word m) k) (ones_shl 64 from within) in
    let none = bit_at_mask_below from 64 k low in
    let both = bit_at_and word (2 ^ 64 - 2 ^ from) k in
    omega (arith, mask, none, both)

-- no bit is left
pub lowest_none : (word from rest : ℕ) → from < 64 → rest ≡ bit_and word ((2 ^ 64 - 1) * 2 ^ from % 2 ^ 64) → rest ≡ 0
    → None ≡ find (is_set word) (range_with_len from (64 - from))
unfolding rest_of
lowest_none word from rest lt is none =
    sym (find_none (is_set word) from (64 - from)
    (λ k low high.
    let here = rest_inside word from k low (omega arith) in
    let zero = ap (λ n. bit_at n k) (sym is ∙ none) ∙ bit_at-zero k in
    ne_eqb (bit_at word k) 1 (λ (one : bit_at word k ≡ 1). omega (arith, here, zero, one))))

-- the lowest bit that is left
pub lowest_some : (word from rest : ℕ) → from < 64 → word < 2 ^ 64 → rest ≡ bit_and word ((2 ^ 64 - 1) * 2 ^ from % 2 ^ 64) → 0 < rest
    → Some (trailing_zeros w64 rest) ≡ find (is_set word) (range_with_len from (64 - from))
unfolding rest_of
lowest_some word from rest lt fits is some =
    let small : rest < 2 ^ 64 = (let less = and_le_l word ((2 ^ 64 - 1) * 2 ^ from % 2 ^ 64) in omega (arith, less, is, fits)) in
    let found = bit_at-trailing_zeros w64 rest some small in
    let x = trailing_zeros w64 rest in
    let same : (k : ℕ) → bit_at rest k ≡ bit_at (rest_of word from) k = λ k. ap (λ n. bit_at n k) is in
    let low : from ≤ x = elim (cases_lt x from) [
      | inl below ↦ let none = rest_below word from x (omega arith) below in let e = same x in absurd (omega (arith, none, e, found.1))
      | inr from' ↦ from'
    ] in
    sym (find_first (is_set word) from (64 - from) x low (omega (arith, found.0, lt))
    (let here = rest_inside word from x low found.0 in let e = same x in eq-eqb (bit_at word x) 1 (omega (arith, here, e, found.1)))
    (λ k at before.
    let here = rest_inside word from k at (omega (arith, found.0, before)) in
    let e = same k in
    let zero = found.2 k before in
    ne_eqb (bit_at word k) 1 (λ (one : bit_at word k ≡ 1). omega (arith, here, e, zero, one))))
