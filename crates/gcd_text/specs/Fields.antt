-- How a text is cut at a byte, and a journal's line into fields.
use Rattle.std.specs.Prelude.{◌≢◌, ◌<◌, ◌==◌, ℕ, List, length, slice_index}
use Rattle.std.specs.List.{slice_split}

-- no byte of the text is this one
abbrev pub IsWithout : (byte : ℕ) → List ℕ → Type 0
IsWithout byte text = (i : ℕ) → i < length text → slice_index text i ≢ byte

-- the fields of a line: exactly one space separates them, so that two spaces have an empty field between them
abbrev pub fields_of : List ℕ → List (List ℕ)
fields_of line = slice_split (λ c. c == 32) line
