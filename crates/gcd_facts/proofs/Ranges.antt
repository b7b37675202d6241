-- Lists of consecutive numbers.
use Rattle.std.proofs.Common.{◌≡◌, ℕ, zero, suc, ◌+◌, List, [], ◌∷◌, ◌++◌, append-nil, ap, sym, ◌∙◌, add-zero, zero-add, arith}
use Rattle.std.specs.List.{flat_map, range_with_len}
use Rattle.std.proofs.lemmas.List.Concat.{flat_map-append}

-- a range with one number more
pub range_push : (a n : ℕ) → range_with_len a (suc n) ≡ range_with_len a n ++ (a + n) ∷ []
range_push a zero = ap (λ k. k ∷ []) (sym (add-zero a))
range_push a (suc n) =
    let e : (a + 1) + n ≡ a + suc n = omega arith in
    ap (λ xs. a ∷ xs) (range_push (a + 1) n ∙ ap (λ k. range_with_len (a + 1) n ++ k ∷ []) e)

-- the same for the sum that a loop counts with
pub range_more : (a n : ℕ) → range_with_len a (n + 1) ≡ range_with_len a n ++ (a + n) ∷ []
range_more a n = let e : n + 1 ≡ suc n = omega arith in ap (range_with_len a) e ∙ range_push a n

-- the lists that a function gives for the numbers of a range, joined end to end
pub flat_range_more : {A : Type 0} (f : ℕ → List A) (n : ℕ) → flat_map f (range_with_len 0 (n + 1)) ≡ flat_map f (range_with_len 0 n) ++ f n
flat_range_more f n =
    ap (flat_map f) (range_more 0 n)
    ∙ flat_map-append f (range_with_len 0 n) ((0 + n) ∷ [])
    ∙ ap (λ l. flat_map f (range_with_len 0 n) ++ l) (append-nil (f (0 + n)))
    ∙ ap (λ k. flat_map f (range_with_len 0 n) ++ f k) (zero-add n)
