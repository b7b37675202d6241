-- What a loop over a chain has ahead: the first of the objects that are left, and the rest.
use Rattle.std.proofs.Common.{◌≡◌, ℕ, suc, ◌<◌, Bool, false, ◌||◌, List, ◌∷◌, length, get_or, ap, ◌∙◌, arith}
use Rattle.std.specs.List.{All, list_any}

-- the first is in range where all are
pub first_in_range : (n o : ℕ) (ahead rest : List ℕ) → ahead ≡ o ∷ rest → All (λ x. x < n) ahead → o < n
first_in_range n o ahead rest e all =
    let some : length ahead ≡ suc (length rest) = ap length e in
    let at : get_or ahead 0 0 ≡ o = ap (λ xs. get_or xs 0 0) e in
    let fits = all 0 0 (omega (arith, some)) in
    omega (arith, at, fits)

-- the rest is in range where all are
pub rest_in_range : (n o : ℕ) (ahead rest : List ℕ) → ahead ≡ o ∷ rest → All (λ x. x < n) ahead → All (λ x. x < n) rest
rest_in_range n o ahead rest e all k d h =
    let longer : length ahead ≡ suc (length rest) = ap length e in
    let at : get_or ahead (suc k) d ≡ get_or rest k d = ap (λ xs. get_or xs (suc k) d) e in
    let fits = all (suc k) d (omega (arith, longer, h)) in
    omega (arith, at, fits)

-- where the first does not pass, one of all passes as one of the rest does
pub none_first : (p : ℕ → Bool) (o : ℕ) (ahead rest : List ℕ) → ahead ≡ o ∷ rest → p o ≡ false → list_any p ahead ≡ list_any p rest
none_first p o ahead rest e fails = ap (list_any p) e ∙ ap (λ b. b || list_any p rest) fails
