-- The words and the view of them: what each call reads and leaves.
use Rattle.std.proofs.Common.{◌≡◌, ℕ, ◌+◌, ◌-◌, ◌*◌, ◌/◌, ◌%◌, ◌^◌, ◌<◌, ◌≤◌, Bool, true, false, cond, List, length, get_or, set, replicate, bit_and, bit_or, w64, inl, inr, Some, None, Option, ap, sym, ◌∙◌, arith, length-set}
use Rattle.std.specs.List.{count_by, find, range_with_len}
use Rattle.std.specs.Int.{bit_not}
use Rattle.std.proofs.lemmas.Bool.{cases_lt}
use Rattle.std.proofs.lemmas.List.{get_or_read, length-replicate}
use Rattle.std.proofs.lemmas.List.Folds.{sum_by-replicate}
use Rattle.std.proofs.lemmas.Nat.{div-add-mod', mod_below}
use Rattle.gcd_sets.specs.Words.{is_set, is_in_words, bits_of, AreCounted}
use Rattle.gcd_sets.proofs.Ranges.{find_none, find_first, found_first, found_none}
use Rattle.gcd_sets.proofs.Numbers.{length_bits, at_number, bits_of-zeros, bits_of-with, bits_of-without, one_more, one_less, all_out}

-- words that hold the numbers of a view
pub record Shows (words : List ℕ) (len total : ℕ) (bits : List Bool) : Type 0 where
  pub counted : AreCounted words len total
  pub seen : bits_of words len ≡ bits

pub shown : {words : List ℕ} {len total : ℕ} {bits : List Bool} → AreCounted words len total → bits_of words len ≡ bits → Shows words len total bits
shown counted seen = record { counted = counted; seen = seen }

-- words of zeros show that nothing is in the set
pub shows_nothing : {words : List ℕ} (n len : ℕ) → len ≤ 64 * n → 64 * n < len + 64 → words ≡ replicate n 0 → Shows words len 0 (replicate len false)
shows_nothing n len room short is = rw is (record {
  counted = record {
    enough = rw length-replicate room;
    no_more = rw length-replicate short;
    counted = sym (ap (count_by (λ b. b)) (bits_of-zeros n len) ∙ none);
  };
  seen = bits_of-zeros n len;
})
  where
    none : count_by (λ b. b) (replicate len false) ≡ 0
    none = let e = sum_by-replicate (λ b. cond {A = ℕ} b 1 0) len false in omega (arith, e)

-- no number from the given one up to a place of a word is in the words
abbrev pub Passed : List ℕ → (from at start : ℕ) → Type 0
Passed words from at start = (k : ℕ) → from ≤ k → k < 64 * at + start → is_in_words words k ≡ false

module _ {words : List ℕ} {len total : ℕ} {bits : List Bool} (s : Shows words len total bits) where
  pub long : length bits ≡ len
  long = ap length (sym s.seen) ∙ length_bits words len

  pub total_is : total ≡ count_by (λ b. b) bits
  total_is = s.counted.counted ∙ ap (count_by (λ b. b)) s.seen

  -- a number has a word
  pub word_within : (i : ℕ) → i < length bits → i / 64 < length words
  word_within i lt = let parts = div-add-mod' i 64 in let enough = s.counted.enough in omega (arith, parts, lt, enough, long)

  -- whether a number is in the set, by its word
  pub bit_read : (i : ℕ) → i < length bits → is_in_words words i ≡ get_or bits i false
  bit_read i lt = sym (at_number words len i (omega (arith, lt, long))) ∙ ap (λ xs. get_or xs i false) s.seen

  pub word_read : (i w : ℕ) → i < length bits → w ≡ get_or words (i / 64) w → is_set w (i % 64) ≡ get_or bits i false
  word_read i w lt read = ap (λ v. is_set v (i % 64)) (get_or_read words (i / 64) w (word_within i lt) read 0) ∙ bit_read i lt

  -- a number comes
  pub shows_with : (i w : ℕ) → i < length bits → get_or bits i false ≡ false → w ≡ get_or words (i / 64) w
      → Shows (set words (i / 64) (bit_or w (1 * 2 ^ (i % 64) % 2 ^ 64))) len (total + 1) (set bits i true)
  shows_with i w lt out read =
      let old = get_or_read words (i / 64) w (word_within i lt) read 0 in
      let within : i < len = omega (arith, lt, long) in
      let same = ap (λ v. bits_of (set words (i / 64) (bit_or v (1 * 2 ^ (i % 64) % 2 ^ 64))) len) old
      ∙ bits_of-with words len i within (word_within i lt) ∙ ap (λ xs. set xs i true) s.seen in
      let more = (one_more bits i lt out).0 in
      record {
        counted = record {
          enough = rw length-set s.counted.enough;
          no_more = rw length-set s.counted.no_more;
          counted = ap (λ n. n + 1) total_is ∙ sym more ∙ ap (count_by (λ b. b)) (sym same);
        };
        seen = same;
      }

  pub room_for_one : (i : ℕ) → i < length bits → get_or bits i false ≡ false → total + 1 ≤ len
  room_for_one i lt out = let more = (one_more bits i lt out).1 in omega (arith, more, total_is, long)

  -- a number goes
  pub shows_without : (i w : ℕ) → i < length bits → get_or bits i false ≡ true → w ≡ get_or words (i / 64) w
      → Shows (set words (i / 64) (bit_and w (bit_not w64 (1 * 2 ^ (i % 64) % 2 ^ 64)))) len (total - 1) (set bits i false)
  shows_without i w lt there read =
      let old = get_or_read words (i / 64) w (word_within i lt) read 0 in
      let within : i < len = omega (arith, lt, long) in
      let same = ap (λ v. bits_of (set words (i / 64) (bit_and v (bit_not w64 (1 * 2 ^ (i % 64) % 2 ^ 64)))) len) old
      ∙ bits_of-without words len i within (word_within i lt) ∙ ap (λ xs. set xs i false) s.seen in
      let less = one_less bits i lt there in
      let left : total - 1 ≡ count_by (λ b. b) (set bits i false) = omega (arith, less, total_is) in
      record {
        counted = record {
          enough = rw length-set s.counted.enough;
          no_more = rw length-set s.counted.no_more;
          counted = left ∙ ap (count_by (λ b. b)) (sym same);
        };
        seen = same;
      }

  -- ---- the next number

  -- where the set is empty
  pub next_of_none : (from : ℕ) → total ≡ 0 → None ≡ find (λ i. get_or bits i false) (range_with_len from (length bits - from))
  next_of_none from none =
      sym (find_none (λ i. get_or bits i false) from (length bits - from) (λ k low high. all_out bits k (sym total_is ∙ none)))

  -- a number of a word, by its bit
  word_bit : (at w k : ℕ) → at < length words → w ≡ get_or words at w → 64 * at ≤ k → k < 64 * at + 64
      → is_in_words words k ≡ is_set w (k - 64 * at)
  word_bit at w k lt read low high =
      let parts = div-add-mod' k 64 in
      let rest = mod_below k 64 (omega arith) in
      let word : k / 64 ≡ at = omega (arith, parts, rest) in
      let bit : k % 64 ≡ k - 64 * at = omega (arith, parts, word) in
      ap (λ n. is_set (get_or words n 0) (k % 64)) word
      ∙ ap (λ v. is_set v (k % 64)) (sym (get_or_read words at w lt read 0))
      ∙ ap (is_set w) bit

  -- a word is passed
  pub passed_more : (from at start w : ℕ) → at < length words → w ≡ get_or words at w
      → find (is_set w) (range_with_len start (64 - start)) ≡ None → Passed words from at start → Passed words from (at + 1) 0
  passed_more from at start w lt read none passed k low high =
      elim (cases_lt k (64 * at + start)) [
        | inl before ↦ passed k low before
        | inr after ↦
            word_bit at w k lt read (omega arith) (omega arith)
            ∙ found_none (is_set w) start (64 - start) none (k - 64 * at) (omega arith) (omega arith)
      ]

  -- where number i is the next
  next_is : (from i : ℕ) → from ≤ i → is_in_words words i ≡ true → ((k : ℕ) → from ≤ k → k < i → is_in_words words k ≡ false) → (next : Option ℕ)
      → (i < len → next ≡ Some i) → (len ≤ i → next ≡ None)
      → next ≡ find (λ k. get_or bits k false) (range_with_len from (length bits - from))
  next_is from i low there before next within past =
      elim (cases_lt i len) [
        | inl inside ↦
            within inside
            ∙ sym (find_first (λ k. get_or bits k false) from (length bits - from) i low (omega (arith, long))
            (sym (bit_read i (omega (arith, long))) ∙ there)
            (λ k low' high. sym (bit_read k (omega (arith, long))) ∙ before k low' high))
        | inr outside ↦
            past outside
            ∙ sym (find_none (λ k. get_or bits k false) from (length bits - from)
            (λ k low' high. sym (bit_read k (omega (arith, long))) ∙ before k low' (omega (arith, long))))
      ]

  -- the first in a word is the next of all
  pub next_of_word : (from at start w x : ℕ) (next : Option ℕ) → from ≤ 64 * at + start → start < 64 → at < length words → w ≡ get_or words at w
      → find (is_set w) (range_with_len start (64 - start)) ≡ Some x → Passed words from at start
      → (64 * at + x < len → next ≡ Some (64 * at + x)) → (len ≤ 64 * at + x → next ≡ None)
      → next ≡ find (λ k. get_or bits k false) (range_with_len from (length bits - from))
  next_of_word from at start w x next low short lt read found passed within past =
      let first = found_first (is_set w) start (64 - start) x found in
      let least = first.from in
      let most : x < 64 = omega (arith, first.to) in
      let there : is_in_words words (64 * at + x) ≡ true =
      word_bit at w (64 * at + x) lt read (omega arith) (omega arith)
      ∙ ap (is_set w) (let e : 64 * at + x - 64 * at ≡ x = omega arith in e)
      ∙ first.passes in
      next_is from (64 * at + x) (omega arith) there
      (λ k low' high. elim (cases_lt k (64 * at + start)) [
        | inl early ↦ passed k low' early
        | inr late ↦
            word_bit at w k lt read (omega arith) (omega arith)
            ∙ first.before (k - 64 * at) (omega arith) (omega arith)
      ])
      next within past

  -- all words are passed
  pub next_past : (from at start : ℕ) → length words ≤ at → Passed words from at start
      → None ≡ find (λ k. get_or bits k false) (range_with_len from (length bits - from))
  next_past from at start end passed =
      let enough = s.counted.enough in
      sym (find_none (λ k. get_or bits k false) from (length bits - from)
      (λ k low high. sym (bit_read k (omega (arith, long))) ∙ passed k low (omega (arith, long, enough))))
