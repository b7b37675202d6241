-- Lists, and tests of their first elements.
use Rattle.std.proofs.Common.{◌≡◌, ℕ, zero, suc, ◌+◌, ◌<◌, Bool, true, false, ◌||◌, List, [], ◌∷◌, length, take, Some, refl, ap, ◌∙◌, ⊎_elim, arith}
use Rattle.std.specs.Prelude.{slice_get, slice_set}
use Rattle.std.specs.List.{list_any}
use Rattle.std.specs.Option.{option_map_or}
use Rattle.std.proofs.lemmas.Bool.{or_cases, or_left, or_right}
use Rattle.std.proofs.lemmas.List.{length-set, get_or-set_same}
use Rattle.std.proofs.lemmas.Option.{slice_get-get_or}

-- ## Elements

-- an element of a list that has some
pub one_of : {A : Type 0} (l : List A) → 0 < length l → A
one_of [] some_in = absurd (omega arith)
one_of (x ∷ l) some_in = x

-- a place has what was written to it
pub slice_get-set_same : {A : Type 0} (xs : List A) (i : ℕ) (v : A) → i < length xs → slice_get (slice_set xs i v) i ≡ Some v
slice_get-set_same xs i v h =
    slice_get-get_or (slice_set xs i v) i v (omega (arith, length-set xs i v)) ∙ ap Some (get_or-set_same xs i v v h)

-- ## Does one of the first elements pass a test?

-- with one element more
pub any_more : {X : Type 0} (p : X → Bool) (xs : List X) (i : ℕ) → i < length xs → list_any p (take (i + 1) xs) ≡ (list_any p (take i xs) || option_map_or p (slice_get xs i) false)
any_more p [] i lt = absurd (omega (arith, lt))
any_more p (x ∷ xs) zero lt = swap (p x)
  where
    swap : (v : Bool) → (v || false) ≡ (false || v)
    swap true = refl
    swap false = refl
any_more p (x ∷ xs) (suc i) lt =
    let e : suc i + 1 ≡ suc (i + 1) = omega arith in
    ap (λ n. list_any p (take n (x ∷ xs))) e ∙ (ap (λ v. p x || v) (any_more p xs i (omega (arith, lt))) ∙ regroup (p x) (list_any p (take i xs)) (option_map_or p (slice_get xs i) false))
  where
    regroup : (u v w : Bool) → (u || (v || w)) ≡ ((u || v) || w)
    regroup true v w = refl
    regroup false v w = refl

-- if one of the first elements passes, one of all does
pub any_taken : {X : Type 0} (p : X → Bool) (n : ℕ) (xs : List X) → list_any p (take n xs) ≡ true → list_any p xs ≡ true
any_taken p zero [] h = h
any_taken p (suc n) [] h = h
any_taken p zero (x ∷ xs) h = cc
any_taken p (suc n) (x ∷ xs) h =
    ⊎_elim (λ here. or_left (p x) (list_any p xs) here) (λ more. or_right (p x) (list_any p xs) (any_taken p n xs more)) (or_cases (p x) (list_any p (take n xs)) h)
