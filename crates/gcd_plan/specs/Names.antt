-- What a name and a path may be.
use Rattle.std.specs.Prelude.{ℕ, ◌==◌, ◌&&◌, ◌||◌, nat_le, Bool, false, List, [], ◌∷◌, length}
use Rattle.std.specs.List.{list_all}
use Rattle.gcd_plan.specs.Limits.{max_name_bytes, max_path_bytes}

-- a small letter: `a` to `z`
abbrev pub is_letter : ℕ → Bool
is_letter c = nat_le 97 c && nat_le c 122

-- a small letter, a digit or `_`
abbrev pub is_name_byte : ℕ → Bool
is_name_byte c = is_letter c || ((nat_le 48 c && nat_le c 57) || c == 95)

abbrev pub begins_with_letter : List ℕ → Bool
begins_with_letter [] = false
begins_with_letter (c ∷ rest) = is_letter c

-- a name: 1 to 32 small letters, digits and `_`, the first a letter
abbrev pub is_name : List ℕ → Bool
is_name name = begins_with_letter name && (nat_le (length name) max_name_bytes && list_all is_name_byte name)

-- a byte of a word: no space and no control
abbrev pub is_word_byte : ℕ → Bool
is_word_byte c = nat_le 33 c && nat_le c 126

-- a path: a word of 1 to 255 bytes
abbrev pub is_path : List ℕ → Bool
is_path path = nat_le 1 (length path) && (nat_le (length path) max_path_bytes && list_all is_word_byte path)
