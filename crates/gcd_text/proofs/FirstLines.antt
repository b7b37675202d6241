-- How a text's first line comes off.
use Rattle.std.proofs.Common.{ℕ, zero, suc, ◌≡◌, ◌==◌, ◌<◌, ◌≤◌, ◌+◌, Bool, true, false, cond, ltb, leb, eqb, List, [], ◌∷◌, length, take, drop, Some, None, lit<, position, refl, sym, ap, ◌∙◌, arith}
use Rattle.std.specs.List.{slice_split, onto_first, position_or_len, before_first, after_first}
use Rattle.std.proofs.lemmas.List.Splits.{slice_split_first, slice_split_none}
use Rattle.std.proofs.lemmas.List.Sums.{fails_before_first}
use Rattle.std.proofs.lemmas.Bool.{ltb-true, ltb-false, leb-true, eqb-false, and_parts}
use Rattle.std.proofs.lemmas.Option.{cond_some}
use Rattle.std.specs.Str.{IsAscii}
use Rattle.gcd_text.specs.Lines.{lines_of, but_empty_last, is_line_byte, is_printable}

cond_none : (b : Bool) (n : ℕ) → cond b (Some n) None ≡ None → b ≡ false
cond_none true n h = cc
cond_none false n h = refl

-- whether a byte ends a line
abbrev pub ends_line : ℕ → Bool
ends_line c = c == 10

-- a split has a first part
split_nonempty : {X : Type 0} (p : X → Bool) (xs : List X) → (part : List X) × (parts : List (List X)) × (slice_split p xs ≡ part ∷ parts)
split_nonempty p [] = ([], [], refl)
split_nonempty p (x ∷ xs) =
    elim (p x) as (λ v. (part : _) × (parts : _) × (cond v ([] ∷ slice_split p xs) (onto_first x (slice_split p xs)) ≡ part ∷ parts)) [
      | true ↦ ([], slice_split p xs, refl)
      | false ↦ let t = split_nonempty p xs in (x ∷ t.0, t.1, ap (onto_first x) t.2)
    ]

-- where more follows, the first part is a line
kept_part : (part next : List ℕ) (parts : List (List ℕ)) → but_empty_last (part ∷ next ∷ parts) ≡ part ∷ but_empty_last (next ∷ parts)
kept_part [] next parts = refl
kept_part (c ∷ cs) next parts = refl

pub more_follows : (part : List ℕ) (rest : List ℕ) → but_empty_last (part ∷ slice_split ends_line rest) ≡ part ∷ lines_of rest
more_follows part rest =
    let t = split_nonempty ends_line rest in
    ap (λ parts. but_empty_last (part ∷ parts)) t.2 ∙ kept_part part t.0 t.1 ∙ ap (λ parts. part ∷ but_empty_last parts) (sym t.2)

-- the first line ends at the first byte 10
pub first_line : (text : List ℕ) (end : ℕ) → position ends_line text ≡ Some end → (lines_of text ≡ take end text ∷ lines_of (drop (end + 1) text)) × (end < length text)
first_line text end found =
    let at = cond_some (ltb (position_or_len ends_line text) (length text)) (position_or_len ends_line text) end found in
    let within = ltb-true (position_or_len ends_line text) (length text) at.0 in
    let split = slice_split_first ends_line text 0 within in
    let same : position_or_len ends_line text ≡ end = at.1 in (
      ap but_empty_last split ∙ more_follows (before_first ends_line text) (after_first ends_line text)
          ∙ ap (λ n. take n text ∷ lines_of (drop (n + 1) text)) same,
      omega arith,
    )

-- a text with no byte 10 is one line
pub absent : {X : Type 0} (p : X → Bool) (xs : List X) → position p xs ≡ None → length xs ≤ position_or_len p xs
absent p xs none = ltb-false (position_or_len p xs) (length xs) (cond_none (ltb (position_or_len p xs) (length xs)) (position_or_len p xs) none)

pub only_line : (text : List ℕ) → position ends_line text ≡ None → 0 < length text → lines_of text ≡ text ∷ []
only_line [] none some = absurd (omega arith)
only_line (c ∷ cs) none some =
    ap but_empty_last (slice_split_none ends_line (c ∷ cs) (λ k d low. fails_before_first ends_line (c ∷ cs) k d (omega (arith, absent ends_line (c ∷ cs) none))))

-- a line of bytes from 32 to 126 is text
pub ascii_line : (line : List ℕ) → is_printable line ≡ true → IsAscii line
ascii_line [] h i = lit< tt
ascii_line (c ∷ cs) h zero = omega (arith, leb-true c 126 (and_parts (leb 32 c) (leb c 126) (and_parts (is_line_byte c) (is_printable cs) h).0).1)
ascii_line (c ∷ cs) h (suc i) = ascii_line cs (and_parts (is_line_byte c) (is_printable cs) h).1 i

pub has_length : (text : List ℕ) → eqb (length text) 0 ≡ false → 0 < length text
has_length text h = let other = eqb-false (length text) 0 h in omega arith
