-- Numbered texts, one after another, in one buffer of bytes, and the room for them.
use Rattle.std.specs.Prelude.{◌≡◌, ℕ, ◌+◌, ◌≤◌, List, [], ◌∷◌, length, take, drop}
use Rattle.gcd_outer.specs.declared.text_log.Note.{Note}

-- the texts of these numbers and lengths, cut off the front of the bytes one by one
abbrev pub texts_of : List Note → List ℕ → List (ℕ × List ℕ)
texts_of [] bytes = []
texts_of (n ∷ ns) bytes = (n.number, take n.len bytes) ∷ texts_of ns (drop n.len bytes)

-- the lengths together
abbrev pub lengths_of : List Note → ℕ
lengths_of [] = 0
lengths_of (n ∷ ns) = n.len + lengths_of ns

-- the bytes of numbered texts together
abbrev pub bytes_of : List (ℕ × List ℕ) → ℕ
bytes_of [] = 0
bytes_of (t ∷ ts) = length t.1 + bytes_of ts

-- the texts, and for how many texts and bytes there is room in all
pub record TextsView : Type 0 where
  pub texts : List (ℕ × List ℕ)
  pub text_room : ℕ
  pub byte_room : ℕ

-- the lengths are those of the bytes, and the room is there
pub record AreTexts (notes : List Note) (bytes : List ℕ) (text_room byte_room note_capacity byte_capacity : ℕ) : Type 0 where
  pub whole : lengths_of notes ≡ length bytes
  pub note_space : text_room ≤ note_capacity
  pub byte_space : byte_room ≤ byte_capacity
