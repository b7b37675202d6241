-- The answers of a poller in memory.
use Rattle.std.specs.Prelude.{◌≡◌, ◌≤◌, ◌<◌, ◌-◌, ◌++◌, ℕ, List, [], ◌∷◌, take, drop, replicate}
use Rattle.gcd_outer.specs.declared.tell.Tell.{Tell}

-- the answers that are still to be given, and those that were given
pub record Answers : Type 0 where
  pub left : List (List Tell)
  pub given : List (List Tell)

-- the next answer to be given: an empty one after the last
abbrev pub first_of : List (List Tell) → List Tell
first_of [] = []
first_of (answer ∷ answers) = answer

-- the answers from a place on
abbrev pub answers_left : List (List Tell) → ℕ → List (List Tell)
answers_left answers next = drop next answers

-- the first answers up to a place, and then empty ones up to a number in all
abbrev pub answers_given : List (List Tell) → ℕ → ℕ → List (List Tell)
answers_given answers kept given = take kept answers ++ replicate (given - kept) []

-- the kept answers lie before the next one, and empty ones come only after the last
pub record IsInOrder (len next kept given : ℕ) : Type 0 where
  pub within : next ≤ len
  pub before : kept ≤ next
  pub all : kept ≤ given
  pub no_empties : next < len → given ≡ kept
