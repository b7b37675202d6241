-- A set of small numbers in words of 64 bits: number i is bit i % 64 of word i / 64.
use Rattle.std.specs.Prelude.{◌≡◌, ℕ, ◌+◌, ◌*◌, ◌/◌, ◌%◌, ◌≤◌, ◌<◌, ◌==◌, Bool, List, length, map, slice_index}
use Rattle.std.specs.List.{count_by, range_with_len}
use Rattle.std.specs.Int.{bit_at}

-- bit i of the word is set
abbrev pub is_set : ℕ → ℕ → Bool
is_set word i = bit_at word i == 1

-- number i is in the words
abbrev pub is_in_words : List ℕ → ℕ → Bool
is_in_words words i = is_set (slice_index words (i / 64)) (i % 64)

-- for each number below len, whether it is in the words
abbrev pub bits_of : List ℕ → ℕ → List Bool
bits_of words len = map (is_in_words words) (range_with_len 0 len)

-- the words are as many as len numbers need, and total is how many of these are in them
pub record AreCounted (words : List ℕ) (len total : ℕ) : Type 0 where
  pub enough : len ≤ 64 * length words
  pub no_more : 64 * length words < len + 64
  pub counted : total ≡ count_by (λ b. b) (bits_of words len)
