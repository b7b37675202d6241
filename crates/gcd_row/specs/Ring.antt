-- The words of a ring: 4,096 cells in which events stand, and the passed words of 64 workers behind them.
use Rattle.std.specs.Prelude.{◌≡◌, ◌≢◌, ◌==◌, ℕ, suc, ◌+◌, ◌-◌, ◌*◌, ◌/◌, ◌%◌, ◌<◌, ◌≤◌, Bool, false, cond, nat_lt, List, length, slice_index}

-- how many events it has cells for
abbrev pub ring : ℕ
ring = 4096

-- where its passed words begin: behind word 0 and the cells
abbrev pub passed_words : ℕ
passed_words = 4097

-- how many words it has in all
abbrev pub ring_words : ℕ
ring_words = 4161

-- the lap bit of event n
abbrev pub lap : ℕ → ℕ
lap n = n / ring % 2 * 9223372036854775808

-- the passed word of a worker that has none, or whose pass was joined
abbrev pub gone : ℕ
gone = 18446744073709551615

-- the number in the passed word of worker k
abbrev pub passed_word : List ℕ → ℕ → ℕ
passed_word words k = slice_index words (passed_words + k)

-- a word that may be an event's
abbrev pub IsWord : ℕ → Type 0
IsWord e = (0 < e) × (e < 9223372036854775808)

-- whether a word found in the cell of event n is that event's, and not the one that lay there before
abbrev pub is_news : ℕ → ℕ → Bool
is_news n x = cond (x == 0) false (x / 9223372036854775808 == n / ring % 2)

-- what lies in the cell of the next event while the history is no longer than this: 0, or the word of the event a lap ago
abbrev pub under : List ℕ → ℕ
under h = cond (nat_lt (length h) ring) 0 (slice_index h (length h - ring) + lap (length h - ring))

-- word 0 is 0, and the cells hold the words of the last 4,096 events, each with its lap bit, and 0 where there was none
pub record IsRing (most : ℕ) (words h : List ℕ) : Type 0 where
  pub first : slice_index words 0 ≡ 0
  pub size : length words ≡ ring_words
  pub room : length h ≤ most
  pub held : (n : ℕ) → n < length h → length h ≤ n + ring → slice_index words (suc (n % ring)) ≡ slice_index h n + lap n
  pub blank : (n : ℕ) → length h ≤ n → n < ring → slice_index words (suc n) ≡ 0

-- the words of a ring that begins with these events: each worker has passed them all
pub record AreFirstWords (most workers : ℕ) (words h : List ℕ) : Type 0 where
  pub ring : IsRing most words h
  pub passed : (k : ℕ) → k < workers → passed_word words k ≡ length h
  pub beyond : (k : ℕ) → workers ≤ k → k < 64 → passed_word words k ≡ gone

-- the word at a place of a ring without events, where each worker has passed so many
abbrev pub blank_word : (workers passed place : ℕ) → ℕ
blank_word workers passed i = cond (nat_lt i passed_words) 0 (cond (nat_lt i (passed_words + workers)) passed gone)

pub record AreBlank (workers passed : ℕ) (words : List ℕ) : Type 0 where
  pub size : length words ≡ ring_words
  pub words_at : (i : ℕ) → i < ring_words → slice_index words i ≡ blank_word workers passed i

-- the cells of the events from `first` up to n have their words, and all other places are blank
pub record HasLap (workers passed : ℕ) (words h : List ℕ) (first n : ℕ) : Type 0 where
  pub size : length words ≡ ring_words
  pub held : (i : ℕ) → first ≤ i → i < n → slice_index words (suc (i % ring)) ≡ slice_index h i + lap i
  pub others : (place : ℕ) → place < ring_words → ((i : ℕ) → first ≤ i → i < n → place ≢ suc (i % ring)) → slice_index words place ≡ blank_word workers passed place
