-- How the arrays of `Semas` hold the waits. No contract of a public call cites this: it is for the proofs of this crate alone.
use Rattle.std.specs.Prelude.{◌≡◌, ℕ, ◌+◌, ◌-◌, ◌<◌, ◌≤◌, ◌^◌, Bool, true, false, not, List, length, map, take, slice_index, slice_index_or, slice_range, count_by}
use Rattle.std.specs.List.{range_with_len}
use Rattle.gcd_sema.specs.SemasView.{SemasView}
use Rattle.gcd_sema.specs.declared.semas.Semas.TheInside.{Inside}

-- of each wait on semaphore s, in order, whether it has expired: as many cells as waits have begun, from its first cell on
abbrev pub waits_in : (expired : List Bool) → (bases given : List ℕ) → ℕ → List Bool
waits_in expired bases given s = slice_range expired (slice_index bases s) (slice_index bases s + slice_index given s)

-- as many cells does semaphore s have
abbrev pub room_in : (bases : List ℕ) → ℕ → ℕ
room_in bases s = slice_index bases (s + 1) - slice_index bases s

abbrev pub view_of : Inside → SemasView
view_of k = record {
  firsts = k.firsts.items;
  signals = k.signals.items;
  waits = map (waits_in k.expired.items k.bases.items k.given.items) (range_with_len 0 (length k.firsts.items));
  rooms = map (room_in k.bases.items) (range_with_len 0 (length k.firsts.items));
}

-- from this wait on, `to` is the first that has not expired, or the end
pub record IsNext (waits : List Bool) (from to : ℕ) : Type 0 where
  pub low : from ≤ to
  pub high : to ≤ length waits
  pub same : count_by not (take to waits) ≡ count_by not (take from waits)
  pub stops : to < length waits → slice_index_or waits to true ≡ false

-- what is kept of one semaphore, of which so many waits can pass: how many have begun, and how many of them have not expired;
-- and as many have passed or expired, from the first on. The next one, where there is one, has not expired, and as many have
-- passed as can.
pub record IsKept (passes given left reached : ℕ) (waits : List Bool) : Type 0 where
  pub long : length waits ≡ given
  pub alive : left ≡ count_by not waits
  pub low : reached ≤ given
  pub fits : count_by not (take reached waits) ≤ passes
  pub next : reached < given → slice_index_or waits reached true ≡ false
  pub whole : reached < given → count_by not (take reached waits) ≡ passes

-- what is kept of each semaphore; their cells are apart
pub record AreCells (firsts signals given left reached bases : List ℕ) (expired : List Bool) : Type 0 where
  pub signals_long : length signals ≡ length firsts
  pub given_long : length given ≡ length firsts
  pub left_long : length left ≡ length firsts
  pub reached_long : length reached ≡ length firsts
  pub bases_long : length bases ≡ length firsts + 1
  pub apart : (s t : ℕ) → s ≤ t → t ≤ length firsts → slice_index bases s ≤ slice_index bases t
  pub whole : slice_index bases (length firsts) ≤ length expired
  pub few : length expired < 2 ^ 32
  pub room : (s : ℕ) → s < length firsts → slice_index bases s + slice_index given s ≤ slice_index bases (s + 1)
  pub kept : (s : ℕ) → s < length firsts
      → IsKept (slice_index firsts s + slice_index signals s) (slice_index given s) (slice_index left s) (slice_index reached s) (waits_in expired bases given s)

abbrev pub InsideAgrees : Inside → Type 0
InsideAgrees k = AreCells k.firsts.items k.signals.items k.given.items k.left.items k.reached.items k.bases.items k.expired.items
