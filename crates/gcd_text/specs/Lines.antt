-- How a script is cut into lines, and a line into words.
use Rattle.std.specs.Prelude.{ℕ, ◌==◌, nat_le, not, ◌&&◌, Bool, List, [], ◌∷◌, length, filter}
use Rattle.std.specs.List.{slice_split, list_all}

-- the parts of a text, without a last part that is empty
abbrev pub but_empty_last : List (List ℕ) → List (List ℕ)
but_empty_last [] = []
but_empty_last ([] ∷ []) = []
but_empty_last (part ∷ parts) = part ∷ but_empty_last parts

-- the lines of a text: each ends with the byte 10, which a last line may lack
abbrev pub lines_of : List ℕ → List (List ℕ)
lines_of bytes = but_empty_last (slice_split (λ c. c == 10) bytes)

-- a byte that a line may have: a space or what prints
abbrev pub is_line_byte : ℕ → Bool
is_line_byte c = nat_le 32 c && nat_le c 126

-- a line may have no other byte
abbrev pub is_printable : List ℕ → Bool
is_printable line = list_all is_line_byte line

-- the word alone, and nothing where it is empty
abbrev pub unless_empty : List ℕ → List (List ℕ)
unless_empty word = filter (λ w. not (length w == 0)) (word ∷ [])

-- the words of a line: one or more spaces separate them, and spaces may stand at both ends
abbrev pub words_of : List ℕ → List (List ℕ)
words_of line = filter (λ word. not (length word == 0)) (slice_split (λ c. c == 32) line)
