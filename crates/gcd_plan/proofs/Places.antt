-- Elements of lists by place: what std lacks.
use Rattle.std.proofs.Common.{◌≡◌, ℕ, zero, suc, ◌<◌, ◌≤◌, Bool, true, false, cond, List, [], ◌∷◌, ◌++◌, length, get_or, replicate, Some, None, refl, ap, arith}
use Rattle.std.specs.List.{count_by, slice_get}
use Rattle.gcd_plan.proofs.Sums.{count_by-cons}

-- what stands within the first list of two stands within both
pub slice_get-append_left : {A : Type 0} (xs ys : List A) (i : ℕ) → i < length xs → slice_get (xs ++ ys) i ≡ slice_get xs i
slice_get-append_left [] ys i h = absurd (omega arith)
slice_get-append_left (x ∷ xs) ys zero h = refl
slice_get-append_left (x ∷ xs) ys (suc i) h = let l : i < length xs = omega arith in slice_get-append_left xs ys i l

pub slice_get_kept : {A : Type 0} (xs ys : List A) (i : ℕ) (x : A) → slice_get xs i ≡ Some x → slice_get (xs ++ ys) i ≡ Some x
slice_get_kept [] ys i x h = cc
slice_get_kept (z ∷ zs) ys zero x h = h
slice_get_kept (z ∷ zs) ys (suc i) x h = slice_get_kept zs ys i x h

-- the first element of the second list of two
pub slice_get-append_seam : {A : Type 0} (xs : List A) (y : A) (ys : List A) → slice_get (xs ++ y ∷ ys) (length xs) ≡ Some y
slice_get-append_seam [] y ys = refl
slice_get-append_seam (x ∷ xs) y ys = slice_get-append_seam xs y ys

-- an element stands at each place within a list, and none past its end
pub slice_get_some : {A : Type 0} (xs : List A) (i : ℕ) → i < length xs → (x : A) × (slice_get xs i ≡ Some x)
slice_get_some [] i h = absurd (omega arith)
slice_get_some (x ∷ xs) zero h = (x, refl)
slice_get_some (x ∷ xs) (suc i) h = slice_get_some xs i (omega arith)

pub past_from_slice_get : {A : Type 0} (xs : List A) (i : ℕ) → slice_get xs i ≡ None → length xs ≤ i
past_from_slice_get [] i h = omega arith
past_from_slice_get (x ∷ xs) zero h = cc
past_from_slice_get (x ∷ xs) (suc i) h = let rest = past_from_slice_get xs i h in omega arith

-- a list of equal elements, also past its end
pub get_or-replicate_same : {A : Type 0} (n i : ℕ) (x : A) → get_or (replicate n x) i x ≡ x
get_or-replicate_same zero i x = refl
get_or-replicate_same (suc n) zero x = refl
get_or-replicate_same (suc n) (suc i) x = get_or-replicate_same n i x

-- an element passes somewhere
abbrev pub Found : {A : Type 0} → (A → Bool) → List A → Type 0
Found {A} p xs = (i : ℕ) × (i < length xs) × ((d : A) → p (get_or xs i d) ≡ true)

found_later : {A : Type 0} (p : A → Bool) (x : A) (xs : List A) → Found p xs → Found p (x ∷ xs)
found_later p x xs rest = (suc rest.0, omega (arith, rest.1), λ d. rest.2 d)

found_here : {A : Type 0} (p : A → Bool) (x : A) (xs : List A) (b : Bool) → p x ≡ b → 0 < count_by p (x ∷ xs)
    → (0 < count_by p xs → Found p xs) → Found p (x ∷ xs)
found_here p x xs true e h later = (0, omega arith, λ d. e)
found_here p x xs false e h later =
    let more = count_by-cons p x xs in
    let none : ◌≡◌ {A = ℕ} (cond (p x) 1 0) 0 = ap (λ v. cond v 1 0) e in
    found_later p x xs (later (omega (arith, more, none, h)))

-- what is counted above 0 is found somewhere
pub find_counted : {A : Type 0} (p : A → Bool) (xs : List A) → 0 < count_by p xs → Found p xs
find_counted p [] h = absurd (omega arith)
find_counted p (x ∷ xs) h = found_here p x xs (p x) refl h (λ h'. find_counted p xs h')
