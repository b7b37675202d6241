-- The least of many times.
use Rattle.std.specs.Prelude.{ℕ, min, nat_lt, if◌then◌else◌, List, [], ◌∷◌, Option, Some, None}

-- the earlier of two times, where there are two
abbrev pub earlier : Option ℕ → Option ℕ → Option ℕ
earlier None b = b
earlier (Some x) None = Some x
earlier (Some x) (Some y) = Some (min x y)

-- the least time of a list, where it has one
abbrev pub least : List (Option ℕ) → Option ℕ
least [] = None
least (t ∷ ts) = earlier t (least ts)

-- the number that stands for no time: the greatest of four bytes
abbrev pub no_time : ℕ
no_time = 4294967295

-- the time that a number stands for
abbrev pub time_at : ℕ → Option ℕ
time_at n = if nat_lt n no_time then Some n else None
