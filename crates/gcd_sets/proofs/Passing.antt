-- The first number that passes a test, by words that say which numbers pass.
use Rattle.std.proofs.Common.{◌≡◌, ℕ, zero, suc, ◌+◌, ◌-◌, ◌*◌, ◌<◌, ◌≤◌, Bool, true, false, cond, inl, inr, Some, None, Option, refl, ap, sym, ◌∙◌, arith}
use Rattle.std.specs.List.{find, range_with_len}
use Rattle.std.proofs.lemmas.Bool.{cases_lt}
use Rattle.gcd_sets.specs.Words.{is_set}
use Rattle.gcd_sets.proofs.Ranges.{find_none, find_first, found_first, found_none}

-- no number from the given one up to a place of a word passes
abbrev pub NonePasses : (ℕ → Bool) → (from at start : ℕ) → Type 0
NonePasses test from at start = (k : ℕ) → from ≤ k → k < 64 * at + start → test k ≡ false

-- the word says which of its 64 numbers pass
abbrev pub SaysWhich : (ℕ → Bool) → (at w : ℕ) → Type 0
SaysWhich test at w = (j : ℕ) → j < 64 → is_set w j ≡ test (64 * at + j)

-- two tests that agree on a range find the same number
pub find_alike : (p q : ℕ → Bool) (a n : ℕ) → ((k : ℕ) → a ≤ k → k < a + n → p k ≡ q k) → find p (range_with_len a n) ≡ find q (range_with_len a n)
find_alike p q a zero same = refl
find_alike p q a (suc n) same =
    ap (λ b. cond b (Some a) (find p (range_with_len (a + 1) n))) (same a (omega arith) (omega arith))
    ∙ ap (λ r. cond (q a) (Some a) r) (find_alike p q (a + 1) n (λ k low high. same k (omega arith) (omega arith)))

module _ (test : ℕ → Bool) (at w : ℕ) (says : SaysWhich test at w) where
  -- a number of the word
  of_word : (k : ℕ) → 64 * at ≤ k → k < 64 * at + 64 → test k ≡ is_set w (k - 64 * at)
  of_word k low high =
      let here : k ≡ 64 * at + (k - 64 * at) = omega arith in
      ap test here ∙ sym (says (k - 64 * at) (omega arith))

  -- the word is passed
  pub none_in_word : (from start : ℕ) → find (is_set w) (range_with_len start (64 - start)) ≡ None → NonePasses test from at start
      → NonePasses test from (at + 1) 0
  none_in_word from start none before k low high =
      elim (cases_lt k (64 * at + start)) [
        | inl early ↦ before k low early
        | inr late ↦ of_word k (omega arith) (omega arith) ∙ found_none (is_set w) start (64 - start) none (k - 64 * at) (omega arith) (omega arith)
      ]

  -- the first in the word is the first of all, if it is below the length
  pub first_in_word : (len from start x : ℕ) (next : Option ℕ) → from ≤ 64 * at + start → start < 64
      → find (is_set w) (range_with_len start (64 - start)) ≡ Some x → NonePasses test from at start
      → (64 * at + x < len → next ≡ Some (64 * at + x)) → (len ≤ 64 * at + x → next ≡ None)
      → next ≡ find test (range_with_len from (len - from))
  first_in_word len from start x next low short found before within past =
      let first = found_first (is_set w) start (64 - start) x found in
      let least = first.from in
      let most : x < 64 = omega (arith, first.to) in
      let there : test (64 * at + x) ≡ true = sym (says x most) ∙ first.passes in
      let earlier : (k : ℕ) → from ≤ k → k < 64 * at + x → test k ≡ false = λ k low' high. elim (cases_lt k (64 * at + start)) [
        | inl early ↦ before k low' early
        | inr late ↦ of_word k (omega arith) (omega arith) ∙ first.before (k - 64 * at) (omega arith) (omega arith)
      ] in
      elim (cases_lt (64 * at + x) len) [
        | inl inside ↦ within inside ∙ sym (find_first test from (len - from) (64 * at + x) (omega arith) (omega arith) there earlier)
        | inr outside ↦ past outside ∙ sym (find_none test from (len - from) (λ k low' high. earlier k low' (omega arith)))
      ]

-- all words are passed
pub none_at_all : (test : ℕ → Bool) (len from at start : ℕ) → len ≤ 64 * at → NonePasses test from at start
    → None ≡ find test (range_with_len from (len - from))
none_at_all test len from at start end before = sym (find_none test from (len - from) (λ k low high. before k low (omega arith)))
