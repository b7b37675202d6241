-- Places in lists.
use Rattle.std.proofs.Common.{◌≡◌, ◌≢◌, ◌<◌, ◌≤◌, ◌∙◌, ◌⊎◌, ℕ, List, [], ◌∷◌, ◌++◌, length, Some, ap, sym, arith, ⊎_elim, inl, inr}
use Rattle.std.specs.Prelude.{slice_get, slice_set}
use Rattle.std.proofs.lemmas.Bool.{cases_lt}
use Rattle.std.proofs.lemmas.List.{length-set, get_or-set_other, length_push}
use Rattle.std.proofs.lemmas.Option.{same_Some, slice_get-get_or, slice_get_within}
use Rattle.gcd_plan.proofs.Places.{slice_get-append_left, slice_get-append_seam}

-- an element of a list with one more is one of the list, or the last
pub at_push : {A : Type 0} (xs : List A) (x : A) (i : ℕ) (y : A) → slice_get (xs ++ x ∷ []) i ≡ Some y
    → (slice_get xs i ≡ Some y) ⊎ ((i ≡ length xs) × (x ≡ y))
at_push xs x i y at =
    let within : i < length (xs ++ x ∷ []) = slice_get_within (xs ++ x ∷ []) i y at in
    let long = length_push xs x in
    ⊎_elim
    (λ (early : i < length xs). inl (sym (slice_get-append_left xs (x ∷ []) i early) ∙ at))
    (λ (late : length xs ≤ i).
    let same : length xs ≡ i = omega (arith, long, within, late) in
    inr (sym same, same_Some x y (sym (slice_get-append_seam xs x []) ∙ ap (slice_get (xs ++ x ∷ [])) same ∙ at)))
    (cases_lt i (length xs))

-- every place but the one that was written is as it was
pub set_other : {A : Type 0} (xs : List A) (i k : ℕ) (v y : A) → k ≢ i → slice_get xs k ≡ Some y → slice_get (slice_set xs i v) k ≡ Some y
set_other xs i k v y differ at =
    let h : k < length xs = slice_get_within xs k y at in
    slice_get-get_or (slice_set xs i v) k v (omega (arith, length-set xs i v))
    ∙ ap Some (get_or-set_other xs i k v v differ)
    ∙ sym (slice_get-get_or xs k v h)
    ∙ at
