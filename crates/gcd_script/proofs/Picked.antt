-- A table that is read row by row.
use Rattle.std.proofs.Common.{ℕ, ◌≡◌, ◌<◌, ◌+◌, Bool, List, ◌∷◌, Bor, Option, Some, if◌then◌else◌, map, length, get_or, drop, sym, ap, ◌∙◌}
use Rattle.std.specs.Str.{bytes_eq}
use Rattle.std.proofs.lemmas.List.{at_drop_more}
use Rattle.gcd_script.specs.Keywords.{pick}

-- what the rows have beside the word
abbrev pub picked : {T : Type 0} → List (Bor (List ℕ) × T) → List ℕ → Option T
picked rows word = pick (map (λ row. (row.0.now, row.1)) rows) word

-- what the rows from a place on have, by the row at that place
pub from_row : {T : Type 0} (rows : List (Bor (List ℕ) × T)) (word : List ℕ) (i : ℕ) (row : Bor (List ℕ) × T) (same : Bool)
    → i < length rows → row ≡ get_or rows i row → bytes_eq word row.0.now ≡ same
    → picked (drop i rows) word ≡ (if same then Some row.1 else picked (drop (i + 1) rows) word)
from_row rows word i row same within is test =
    at_drop_more (λ rest. picked rest word) rows i row within
    ∙ ap (λ first. picked (first ∷ drop (i + 1) rows) word) (sym is)
    ∙ ap (λ b. if b then Some row.1 else picked (drop (i + 1) rows) word) test
