-- How many words and fields a line of this project's texts has at most. src/limits.rt has the same numbers for the code.
use Rattle.std.specs.Prelude.{ℕ}

-- words after the first in a line of a script
abbrev pub max_words : ℕ
max_words = 6

-- fields in a line of a journal
abbrev pub max_fields : ℕ
max_fields = 5
