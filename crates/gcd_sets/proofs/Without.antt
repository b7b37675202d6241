-- The numbers of a set that are not in another of the same length.
use Rattle.std.proofs.Common.{◌≡◌, ℕ, ◌+◌, ◌-◌, ◌*◌, ◌/◌, ◌%◌, ◌^◌, ◌<◌, ◌==◌, Bool, true, false, not, ◌&&◌, List, length, get_or, bit_and, w64, None, ap, sym, ◌∙◌, refl, inl, inr, arith}
use Rattle.std.specs.List.{find, range_with_len}
use Rattle.std.specs.Int.{bit_at, bit_not}
use Rattle.std.proofs.lemmas.Bool.{cases_eq, eq-eqb, ne_eqb}
use Rattle.std.proofs.lemmas.List.{get_or_read}
use Rattle.std.proofs.lemmas.Nat.{div-add-mod', mod_below}
use Rattle.std.proofs.lemmas.Nat.Bits.{bit_at_and, bit_at_not, bit_at-lt}
use Rattle.gcd_sets.specs.Words.{is_set, is_in_words}
use Rattle.gcd_sets.proofs.Ranges.{find_none}
use Rattle.gcd_sets.proofs.Numbers.{all_out}
use Rattle.gcd_sets.proofs.Passing.{SaysWhich, find_alike}
use Rattle.gcd_sets.proofs.Shown.{Shows, long, total_is, bit_read}

-- number k is in the words, and not in the others
abbrev pub is_in_without : (words others : List ℕ) → ℕ → Bool
is_in_without words others k = is_in_words words k && not (is_in_words others k)

-- a bit of a word without those of another
pub is_set-without : (w v j : ℕ) → v < 2 ^ 64 → j < 64 → is_set (bit_and w (bit_not w64 v)) j ≡ (is_set w j && not (is_set v j))
is_set-without w v j fits lt =
    let both = bit_at_and w (bit_not w64 v) j in
    let other = bit_at_not w64 v j fits lt in
    let small = bit_at-lt v j in
    elim (cases_eq (bit_at v j) 1) [
      | inl one ↦
          let zero : bit_at (bit_and w (bit_not w64 v)) j ≡ 0 = omega (arith, both, other, one) in
          ne_eqb _ 1 (λ (e : bit_at (bit_and w (bit_not w64 v)) j ≡ 1). omega (arith, e, zero))
          ∙ sym (ap (λ b. is_set w j && not b) (eq-eqb _ 1 one) ∙ and_false (is_set w j))
      | inr none ↦
          let least = bit_at-lt w j in
          let same : bit_at (bit_and w (bit_not w64 v)) j ≡ bit_at w j = omega (arith, both, other, none, small, least) in
          ap (λ n. n == 1) same ∙ sym (ap (λ b. is_set w j && not b) (ne_eqb _ 1 none) ∙ and_true (is_set w j))
    ]
  where
    and_false : (b : Bool) → (b && false) ≡ false
    and_false true = refl
    and_false false = refl

    and_true : (b : Bool) → (b && true) ≡ b
    and_true true = refl
    and_true false = refl

-- where the set is empty
pub without_of_none : {words : List ℕ} {len total : ℕ} {bits : List Bool} → Shows words len total bits → (bits' : List Bool) (from : ℕ) → total ≡ 0
    → None ≡ find (λ i. get_or bits i false && not (get_or bits' i false)) (range_with_len from (length bits - from))
without_of_none {bits = bits} s bits' from none =
    sym (find_none (λ i. get_or bits i false && not (get_or bits' i false)) from (length bits - from)
    (λ k low high. ap (λ b. b && not (get_or bits' k false)) (all_out bits k (sym (total_is s) ∙ none))))

module _ {words others : List ℕ} {len total len' total' : ℕ} {bits bits' : List Bool} (s : Shows words len total bits) (t : Shows others len' total' bits')
    (same : length bits' ≡ length bits) where
  -- each word of the set has one of the other
  pub other_within : (at : ℕ) → at < length words → at < length others
  other_within at lt =
      let no_more = s.counted.no_more in
      let enough = t.counted.enough in
      omega (arith, long s, long t)

  -- a word without the other's bits says which of its numbers are in the set and not in the other
  pub says_which : (at w v : ℕ) → at < length words → w ≡ get_or words at w → v ≡ get_or others at v → v < 2 ^ 64
      → SaysWhich (is_in_without words others) at (bit_and w (bit_not w64 v))
  says_which at w v lt read read' fits j low =
      let parts = div-add-mod' (64 * at + j) 64 in
      let rest = mod_below (64 * at + j) 64 (omega arith) in
      let word : (64 * at + j) / 64 ≡ at = omega (arith, parts, rest) in
      let bit : (64 * at + j) % 64 ≡ j = omega (arith, parts, word) in
      let here : is_set w j ≡ is_in_words words (64 * at + j) =
      ap (λ x. is_set x j) (get_or_read words at w lt read 0) ∙ sym (ap (λ n. is_set (get_or words n 0) ((64 * at + j) % 64)) word ∙ ap (is_set (get_or words at 0)) bit) in
      let there : is_set v j ≡ is_in_words others (64 * at + j) =
      ap (λ x. is_set x j) (get_or_read others at v (other_within at lt) read' 0) ∙ sym (ap (λ n. is_set (get_or others n 0) ((64 * at + j) % 64)) word ∙ ap (is_set (get_or others at 0)) bit) in
      is_set-without w v j fits low ∙ ap (λ b. b && not (is_set v j)) here ∙ ap (λ b. is_in_words words (64 * at + j) && not b) there

  -- what the words find is what the sets find
  pub found_in_sets : (from : ℕ) → find (is_in_without words others) (range_with_len from (len - from))
      ≡ find (λ i. get_or bits i false && not (get_or bits' i false)) (range_with_len from (length bits - from))
  found_in_sets from =
      ap (λ n. find (is_in_without words others) (range_with_len from (n - from))) (sym (long s))
      ∙ find_alike (is_in_without words others) (λ i. get_or bits i false && not (get_or bits' i false)) from (length bits - from)
      (λ k low high.
      let here = bit_read s k (omega arith) in
      let there = bit_read t k (omega (arith, same)) in
      ap (λ b. b && not (is_in_words others k)) here ∙ ap (λ b. get_or bits k false && not b) there)
