-- What a poller tells of its feeds.
use Rattle.std.specs.Prelude.{◌≡◌, ◌≤◌, ◌++◌, ◌∷◌, [], ◌==◌, ◌||◌, ◌&&◌, ℕ, Bool, true, false, List, if◌then◌else◌, nat_le}
use Rattle.std.specs.List.{list_all, list_any, flat_map}
use Rattle.gcd_outer.specs.declared.limits.TheConstants.{MAX_TELL_BYTES}
use Rattle.gcd_outer.specs.declared.tell.Tell.{Tell}

-- no tell of the answer has bytes or an end
abbrev pub is_empty_answer : List Tell → Bool
is_empty_answer = list_all (λ t. t.bytes == 0 && (if t.ended then false else true))

-- the feeds that have ended, after one more tell
abbrev pub ended_after : (ℕ → Bool) → Tell → ℕ → Bool
ended_after ended t feed = ended feed || (t.ended && t.feed == feed)

-- the feeds that have ended, after an answer
abbrev pub ended_by : (ℕ → Bool) → List Tell → ℕ → Bool
ended_by ended [] = ended
ended_by ended (t ∷ ts) = ended_by (ended_after ended t) ts

-- Each tell is of a watched feed that has not ended, neither before nor by an earlier tell of the list,
-- and has at most `MAX_TELL_BYTES` bytes.
abbrev pub AreTells : (ℕ → Bool) → (ℕ → Bool) → List Tell → Type 0
AreTells watched ended [] = Unit {0}
AreTells watched ended (t ∷ ts) =
    (watched t.feed ≡ true) × (ended t.feed ≡ false) × (t.bytes ≤ MAX_TELL_BYTES) × AreTells watched (ended_after ended t) ts

-- The answers so far, after one more to a wait of so many milliseconds: an empty answer to a wait of 0
-- is not kept.
abbrev pub answers_after : List (List Tell) → ℕ → List Tell → List (List Tell)
answers_after answers wait answer = if wait == 0 && is_empty_answer answer then answers else answers ++ answer ∷ []

-- the bytes of a tell, if there are any
abbrev pub tell_bytes : Tell → List ℕ
tell_bytes t = if t.bytes == 0 then [] else t.bytes ∷ []

-- the numbers above 0 in the tells on a feed, up to and with the first that has its end
abbrev pub told_in : ℕ → List Tell → List ℕ
told_in feed [] = []
told_in feed (t ∷ ts) =
    if t.feed == feed then tell_bytes t ++ (if t.ended then [] else told_in feed ts) else told_in feed ts

-- what the answers told of a feed: the numbers above 0 in the tells on it, up to and with the first that has its end
abbrev pub told_of : ℕ → List (List Tell) → List ℕ
told_of feed answers = told_in feed (flat_map (λ answer. answer) answers)

-- whether a tell of the list is of a feed
abbrev pub is_named : ℕ → List Tell → Bool
is_named feed = list_any (λ t. t.feed == feed)

-- whether a tell of the list has the end of a feed
abbrev pub has_end : ℕ → List Tell → Bool
has_end feed = list_any (λ t. t.feed == feed && t.ended)

-- whether a tell of the answers has the end of a feed
abbrev pub is_end_told : ℕ → List (List Tell) → Bool
is_end_told feed = list_any (has_end feed)

-- What a poller has told so far, what it watches, and how often it has failed.
pub record PollerState : Type 0 where
  -- the answers, in order; an empty answer to a wait of 0 is not among them
  pub answers : List (List Tell)
  -- for a watched feed, the number of answers that there were at its watch
  pub watched_at : ℕ → ℕ
  -- the feed and the path of each watch that succeeded, in order
  pub watches : List (ℕ × List ℕ)
  -- the number of listens, those that failed among them; it stops at 2^64 - 1
  pub listens : ℕ
  -- the address of each listen that succeeded, in order
  pub addresses : List (List ℕ)
  -- whether a feed is watched
  pub watched : ℕ → Bool
  -- whether a feed has ended: a tell since its watch said so
  pub ended : ℕ → Bool
  -- how often it has failed; it never falls, and stops at 2^64 - 1
  pub faults : ℕ

-- whether a tell may be given: it is of a watched feed that has not ended, and has at most `MAX_TELL_BYTES` bytes
abbrev pub is_allowed : (ℕ → Bool) → (ℕ → Bool) → Tell → Bool
is_allowed watched ended t = watched t.feed && (if ended t.feed then false else nat_le t.bytes MAX_TELL_BYTES)

-- the tell, if it may be given
abbrev pub given_of : (ℕ → Bool) → (ℕ → Bool) → Tell → List Tell
given_of watched ended t = if is_allowed watched ended t then t ∷ [] else []

-- the tells of a list that may be given, one after another
abbrev pub allowed_of : (ℕ → Bool) → (ℕ → Bool) → List Tell → List Tell
allowed_of watched ended [] = []
allowed_of watched ended (t ∷ ts) = given_of watched ended t ++ allowed_of watched (ended_by ended (given_of watched ended t)) ts
