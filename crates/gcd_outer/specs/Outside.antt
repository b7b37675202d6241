-- What calls on the outside tell: bytes, counts, the states of a shelf, a sink and a clock, and what calls saw of them.
use Rattle.std.specs.Prelude.{◌≡◌, ◌≤◌, ◌<◌, ◌+◌, ◌++◌, ◌⊎◌, ℕ, Bool, true, List, Option, Some, None, length, min, take}

-- bytes, each a number below 256
abbrev pub Bytes : Type 0
Bytes = List ℕ

-- one more; a count stops at 2 ^ 64 - 1
abbrev pub next_count : ℕ → ℕ
next_count n = min (n + 1) 18446744073709551615

-- a count has gone up, or it stands at its last number
abbrev pub Rises : ℕ → ℕ → Type 0
Rises before after = next_count before ≤ after

-- What a shelf holds under each name, and the counts of its loads and of its faults; each count stops at 2 ^ 64 - 1.
pub record ShelfState : Type 0 where
  -- the bytes under a name
  pub content : Bytes → Option Bytes
  -- the number of loads, those with a fault among them
  pub loads : ℕ
  -- how often it has failed; it never falls
  pub faults : ℕ

-- What a sink took, and how often it has failed.
pub record SinkState : Type 0 where
  -- all that it took, in order
  pub taken : Bytes
  -- how often it has failed; it never falls, and stops at 2 ^ 64 - 1
  pub faults : ℕ

-- The present of a clock, which never falls and which no answer so far exceeds, and the greatest moment that was waited
-- for, 0 before the first wait; in milliseconds.
pub record ClockState : Type 0 where
  pub present : ℕ
  pub waited : ℕ

-- what calls saw of something: whether it tells, and its state before and after them
pub record Seen (State : Type 0) : Type 0 where
  pub tells : Bool
  pub before : State
  pub after : State

-- what calls saw of something that has a state, from whether it tells and its state before and after them
abbrev pub seen : {T State : Type 0} → Bool → (T → State) → (old new : T) → Seen State
seen tells state old new = record { tells = tells; before = state old; after = state new }

-- these bytes stand under the name, if the shelf tells
abbrev pub Holds : Seen ShelfState → Bytes → Bytes → Type 0
Holds shelf name bytes = shelf.tells ≡ true → shelf.before.content name ≡ Some bytes

-- the shelf tells, and has nothing under the name
pub record Lacks (shelf : Seen ShelfState) (name : Bytes) : Type 0 where
  pub tells : shelf.tells ≡ true
  pub nothing : shelf.before.content name ≡ None

-- the shelf failed in the call
abbrev pub ShelfFailed : Seen ShelfState → Type 0
ShelfFailed shelf = Rises shelf.before.faults shelf.after.faults

-- the name can't be read: the shelf failed in the call, or it tells and has no such name
abbrev pub IsUnread : Seen ShelfState → Bytes → Type 0
IsUnread shelf name = ShelfFailed shelf ⊎ Lacks shelf name

-- what stands under the name has more than so many bytes, if the shelf tells
abbrev pub IsLonger : Seen ShelfState → Bytes → ℕ → Type 0
IsLonger shelf name most = shelf.tells ≡ true → (bytes : Bytes) × (shelf.before.content name ≡ Some bytes) × (most < length bytes)

-- the sink failed in the call
abbrev pub SinkFailed : Seen SinkState → Type 0
SinkFailed sink = Rises sink.before.faults sink.after.faults

-- the sink took these bytes in the call and no others, if it tells
abbrev pub Took : Seen SinkState → Bytes → Type 0
Took sink bytes = sink.tells ≡ true → sink.after.taken ≡ sink.before.taken ++ bytes

-- the sink took a proper front of the text and nothing else, if it tells
abbrev pub TookFront : Seen SinkState → Bytes → Type 0
TookFront sink text = sink.tells ≡ true → (n : ℕ) × (n < length text) × (sink.after.taken ≡ sink.before.taken ++ take n text)
