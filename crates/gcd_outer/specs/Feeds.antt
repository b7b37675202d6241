-- The feeds of a poller in memory, by number.
use Rattle.std.specs.Prelude.{ℕ, Bool, false, List}
use Rattle.std.specs.List.{slice_get}
use Rattle.std.specs.Option.{option_map_or}
use Rattle.gcd_outer.specs.declared.feed.Feed.{Feed}

-- whether the feed of this number is watched
abbrev pub watched_in : List Feed → ℕ → Bool
watched_in feeds feed = option_map_or (λ f. f.watched) (slice_get feeds feed) false

-- whether the feed of this number has ended
abbrev pub ended_in : List Feed → ℕ → Bool
ended_in feeds feed = option_map_or (λ f. f.ended) (slice_get feeds feed) false

-- how many answers there were at the watch of the feed of this number
abbrev pub watched_at_in : List Feed → ℕ → ℕ
watched_at_in feeds feed = option_map_or (λ f. f.watched_at) (slice_get feeds feed) 0
