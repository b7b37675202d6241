-- The numbers in the words.
use Rattle.std.proofs.Common.{◌≡◌, ◌≢◌, ℕ, ◌+◌, ◌*◌, ◌/◌, ◌%◌, ◌^◌, ◌<◌, ◌≤◌, ◌==◌, Bool, true, false, cond, List, length, get_or, set, replicate, bit_and, bit_or, w64, inl, inr, ap, sym, ◌∙◌, arith, length-set, get_or-set_other, get_or-set_same}
use Rattle.std.specs.List.{count_by}
use Rattle.std.specs.Int.{bit_at, bit_not}
use Rattle.std.proofs.lemmas.Bool.{cases_eq, cases_lt, cases_Bool, ne_eqb, eq-eqb}
use Rattle.std.proofs.lemmas.List.{ext_get_or, get_or-replicate, length-replicate, get_or_past, set-get_or}
use Rattle.std.proofs.lemmas.List.FromFn.{get_or-map-range_with_len, length-map-range_with_len}
use Rattle.std.proofs.lemmas.List.Sums.{sum_by-set, count_by-le-length}
use Rattle.std.proofs.lemmas.Nat.{div-add-mod', mod_below}
use Rattle.std.proofs.lemmas.Nat.Bits.{bit_at-zero, bit_at_set_same, bit_at_set_other, bit_at_clear_same, bit_at_clear_other}
use Rattle.gcd_sets.specs.Words.{is_set, is_in_words, bits_of}

pub length_bits : (words : List ℕ) (len : ℕ) → length (bits_of words len) ≡ len
length_bits words len = length-map-range_with_len (is_in_words words) 0 len

pub at_number : (words : List ℕ) (len i : ℕ) → i < len → get_or (bits_of words len) i false ≡ is_in_words words i
at_number words len i lt = get_or-map-range_with_len (is_in_words words) 0 len i i false lt (omega arith)

-- a number has a word
pub word_within : (words : List ℕ) (n i : ℕ) → length words ≡ n → i < 64 * n → i / 64 < length words
word_within words n i long lt = let parts = div-add-mod' i 64 in omega (arith, parts)

-- words of zeros hold nothing
pub in_words-zeros : (n i : ℕ) → is_in_words (replicate n 0) i ≡ false
in_words-zeros n i =
    elim (cases_lt (i / 64) n) [
      | inl lt ↦ ap (λ w. is_set w (i % 64)) (get_or-replicate n (i / 64) 0 0 lt) ∙ none (i % 64)
      | inr past ↦ ap (λ w. is_set w (i % 64)) (get_or_past (replicate n 0) (i / 64) 0 (rw length-replicate past)) ∙ none (i % 64)
    ]
  where
    none : (k : ℕ) → is_set 0 k ≡ false
    none k = let e = bit_at-zero k in ne_eqb (bit_at 0 k) 1 (λ (one : bit_at 0 k ≡ 1). omega (arith, e, one))

pub bits_of-zeros : (n len : ℕ) → bits_of (replicate n 0) len ≡ replicate len false
bits_of-zeros n len =
    ext_get_or false _ _ (length_bits (replicate n 0) len ∙ sym (length-replicate len false))
    (λ i lt.
    let within : i < len = omega (arith, lt, length_bits (replicate n 0) len) in
    at_number (replicate n 0) len i within ∙ in_words-zeros n i ∙ sym (get_or-replicate len i false false within))

-- ---- another word in place of one, which differs at the bit of number i alone

in_words-here : (words : List ℕ) (i word : ℕ) (b : Bool) → i / 64 < length words → is_set word (i % 64) ≡ b
    → is_in_words (set words (i / 64) word) i ≡ b
in_words-here words i word b lt here = ap (λ w. is_set w (i % 64)) (get_or-set_same words (i / 64) word 0 lt) ∙ here

in_words-other : (words : List ℕ) (i word j : ℕ) → i / 64 < length words
    → ((k : ℕ) → k < 64 → k ≢ i % 64 → is_set word k ≡ is_set (get_or words (i / 64) 0) k)
    → j ≢ i → is_in_words (set words (i / 64) word) j ≡ is_in_words words j
in_words-other words i word j lt others ne =
    elim (cases_eq (j / 64) (i / 64)) [
      | inl e ↦
          let new = ap (λ n. get_or (set words (i / 64) word) n 0) e ∙ get_or-set_same words (i / 64) word 0 lt in
          let apart : j % 64 ≢ i % 64 = λ e'. ne (let one = div-add-mod' j 64 in let two = div-add-mod' i 64 in omega (arith, one, two, e, e')) in
          ap (λ w. is_set w (j % 64)) new
          ∙ others (j % 64) (mod_below j 64 (omega arith)) apart
          ∙ ap (λ n. is_set (get_or words n 0) (j % 64)) (sym e)
      | inr ne' ↦ ap (λ w. is_set w (j % 64)) (get_or-set_other words (i / 64) (j / 64) word 0 ne')
    ]

bit_is : (n m : ℕ) → n ≡ m → (n == 1) ≡ (m == 1)
bit_is n m e = ap (λ k. k == 1) e

-- the word with the bit of number i set, and with it cleared
abbrev pub word_with : ℕ → ℕ → ℕ
word_with word i = bit_or word (1 * 2 ^ (i % 64) % 2 ^ 64)

abbrev pub word_without : ℕ → ℕ → ℕ
word_without word i = bit_and word (bit_not w64 (1 * 2 ^ (i % 64) % 2 ^ 64))

module _ (words : List ℕ) (i : ℕ) (lt : i / 64 < length words) where
  place : i % 64 < 64
  place = mod_below i 64 (omega arith)

  pub with_here : is_in_words (set words (i / 64) (word_with (get_or words (i / 64) 0) i)) i ≡ true
  with_here = in_words-here words i _ true lt (eq-eqb _ 1 (bit_at_set_same w64 (get_or words (i / 64) 0) (i % 64) place))

  pub with_other : (j : ℕ) → j ≢ i → is_in_words (set words (i / 64) (word_with (get_or words (i / 64) 0) i)) j ≡ is_in_words words j
  with_other j ne =
      in_words-other words i _ j lt (λ k lt' ne'. bit_is _ _ (bit_at_set_other w64 (get_or words (i / 64) 0) (i % 64) place k ne')) ne

  pub without_here : is_in_words (set words (i / 64) (word_without (get_or words (i / 64) 0) i)) i ≡ false
  without_here =
      let zero = bit_at_clear_same w64 (get_or words (i / 64) 0) (i % 64) place in
      in_words-here words i _ false lt
      (ne_eqb _ 1 (λ (one : bit_at (word_without (get_or words (i / 64) 0) i) (i % 64) ≡ 1). omega (arith, zero, one)))

  pub without_other : (j : ℕ) → j ≢ i → is_in_words (set words (i / 64) (word_without (get_or words (i / 64) 0) i)) j ≡ is_in_words words j
  without_other j ne =
      in_words-other words i _ j lt
      (λ k lt' ne'. bit_is _ _ (bit_at_clear_other w64 (get_or words (i / 64) 0) (i % 64) place k lt' ne')) ne

-- what is so at number i, and elsewhere as before, is the list with another element
bits_changed : (words words' : List ℕ) (len i : ℕ) (b : Bool) → i < len → is_in_words words' i ≡ b
    → ((j : ℕ) → j ≢ i → is_in_words words' j ≡ is_in_words words j) → bits_of words' len ≡ set (bits_of words len) i b
bits_changed words words' len i b lt here others =
    ext_get_or false _ _
    (length_bits words' len ∙ sym (length-set (bits_of words len) i b ∙ length_bits words len))
    (λ k lt'.
    let within : k < len = omega (arith, lt', length_bits words' len) in
    at_number words' len k within ∙ same k within)
  where
    long : i < length (bits_of words len)
    long = omega (arith, lt, length_bits words len)

    same : (k : ℕ) → k < len → is_in_words words' k ≡ get_or (set (bits_of words len) i b) k false
    same k within =
        elim (cases_eq k i) [
          | inl e ↦
              ap (is_in_words words') e ∙ here
              ∙ sym (ap (λ j. get_or (set (bits_of words len) i b) j false) e ∙ get_or-set_same (bits_of words len) i b false long)
          | inr ne ↦ others k ne ∙ sym (get_or-set_other (bits_of words len) i k b false ne ∙ at_number words len k within)
        ]

pub bits_of-with : (words : List ℕ) (len i : ℕ) → i < len → i / 64 < length words
    → bits_of (set words (i / 64) (word_with (get_or words (i / 64) 0) i)) len ≡ set (bits_of words len) i true
bits_of-with words len i lt word = bits_changed words _ len i true lt (with_here words i word) (with_other words i word)

pub bits_of-without : (words : List ℕ) (len i : ℕ) → i < len → i / 64 < length words
    → bits_of (set words (i / 64) (word_without (get_or words (i / 64) 0) i)) len ≡ set (bits_of words len) i false
bits_of-without words len i lt word = bits_changed words _ len i false lt (without_here words i word) (without_other words i word)

-- ---- how many there are

-- a number that comes is one more, and there is room for it
pub one_more : (bits : List Bool) (i : ℕ) → i < length bits → get_or bits i false ≡ false
    → (count_by (λ b. b) (set bits i true) ≡ count_by (λ b. b) bits + 1) × (count_by (λ b. b) bits + 1 ≤ length bits)
one_more bits i lt none =
    let value : Bool → ℕ = λ b. cond b 1 0 in
    let more = sum_by-set value bits i true false lt in
    let old : value (get_or bits i false) ≡ 0 = ap value none in
    let most = count_by-le-length (λ b. b) (set bits i true) in
    let long = length-set bits i true in
    let new : count_by (λ b. b) (set bits i true) ≡ count_by (λ b. b) bits + 1 = omega (arith, more, old) in
    (new, omega (arith, new, most, long))

-- a number that goes is one less
pub one_less : (bits : List Bool) (i : ℕ) → i < length bits → get_or bits i false ≡ true
    → count_by (λ b. b) (set bits i false) + 1 ≡ count_by (λ b. b) bits
one_less bits i lt there =
    let value : Bool → ℕ = λ b. cond b 1 0 in
    let less = sum_by-set value bits i false false lt in
    let old : value (get_or bits i false) ≡ 1 = ap value there in
    omega (arith, less, old)

-- what is so already is set to no effect
pub set_again : (bits : List Bool) (i : ℕ) (b : Bool) → get_or bits i false ≡ b → set bits i b ≡ bits
set_again bits i b is = ap (set bits i) (sym is) ∙ set-get_or bits i false

-- where there are none, none is found
pub all_out : (bits : List Bool) (k : ℕ) → count_by (λ b. b) bits ≡ 0 → get_or bits k false ≡ false
all_out bits k none =
    elim (cases_lt k (length bits)) [
      | inl lt ↦ elim (cases_Bool (get_or bits k false)) [
        | inl there ↦ let one = one_less bits k lt there in absurd (omega (arith, one, none))
        | inr out ↦ out
      ]
      | inr past ↦ get_or_past bits k false past
    ]
