-- The value of a block, by its number.
use Rattle.std.specs.Prelude.{ℕ, List, Option, None, slice_get, unwrap_or}

-- the value that the list has for block b, and none past its end
abbrev pub value_at : List (Option ℕ) → ℕ → Option ℕ
value_at values b = unwrap_or (slice_get values b) None
