-- Sums and counts of lists: what std lacks.
use Rattle.std.proofs.Common.{◌≡◌, ℕ, ◌+◌, ◌≤◌, Bool, true, false, cond, ◌||◌, List, [], ◌∷◌, ◌++◌, length, map, Some, refl, ap, sym, ◌∙◌, arith, zero, suc}
use Rattle.std.specs.List.{count_by, sum_by, flat_map, list_any, slice_get}
use Rattle.std.proofs.lemmas.Bool.{or_parts}
use Rattle.std.proofs.lemmas.List.Sums.{sum_by-append, sum_by-cons, sum_by_push}
use Rattle.std.proofs.lemmas.Map.Keys.{any_passes_from_place}
use Rattle.std.proofs.lemmas.Option.{same_Some}

-- ## Sums

-- a sum over a mapped list
pub sum_by-map : {A B : Type 0} (f : B → ℕ) (h : A → B) (xs : List A) → sum_by f (map h xs) ≡ sum_by (λ x. f (h x)) xs
sum_by-map f h [] = refl
sum_by-map f h (x ∷ xs) =
    sum_by-cons f (h x) (map h xs) ∙ ap (λ n. f (h x) + n) (sum_by-map f h xs) ∙ sym (sum_by-cons (λ y. f (h y)) x xs)

-- a sum over lists joined end to end
pub sum_by-flat_map : {A B : Type 0} (g : B → ℕ) (f : A → List B) (xs : List A)
    → sum_by g (flat_map f xs) ≡ sum_by (λ x. sum_by g (f x)) xs
sum_by-flat_map g f [] = refl
sum_by-flat_map g f (x ∷ xs) =
    sum_by-append g (f x) (flat_map f xs) ∙ ap (λ n. sum_by g (f x) + n) (sum_by-flat_map g f xs)
    ∙ sym (sum_by-cons (λ y. sum_by g (f y)) x xs)

-- a sum of terms that agree at each element
pub sum_by_agree : {A : Type 0} (f g : A → ℕ) (xs : List A) → ((x : A) → f x ≡ g x) → sum_by f xs ≡ sum_by g xs
sum_by_agree f g [] same = refl
sum_by_agree f g (x ∷ xs) same = omega (arith, sum_by-cons f x xs, sum_by-cons g x xs, same x, sum_by_agree f g xs same)

-- a sum of terms that are one more each
pub sum_by_one_more : {A : Type 0} (f : A → ℕ) (xs : List A) → sum_by (λ x. f x + 1) xs ≡ sum_by f xs + length xs
sum_by_one_more f [] = refl
sum_by_one_more f (x ∷ xs) =
    sum_by-cons (λ y. f y + 1) x xs
    ∙ ap (λ n. (f x + 1) + n) (sum_by_one_more f xs)
    ∙ (let e = sum_by-cons f x xs in omega arith)

-- ## Counts

-- one element counts at most once
pub cond-le-one : (b : Bool) → cond b 1 0 ≤ 1
cond-le-one true = omega arith
cond-le-one false = omega arith

pub count_by-cons : {A : Type 0} (p : A → Bool) (x : A) (xs : List A) → count_by p (x ∷ xs) ≡ cond (p x) 1 0 + count_by p xs
count_by-cons p x xs = sum_by-cons (λ y. cond (p y) 1 0) x xs

pub count_by-append : {A : Type 0} (p : A → Bool) (xs ys : List A) → count_by p (xs ++ ys) ≡ count_by p xs + count_by p ys
count_by-append p xs ys = sum_by-append (λ y. cond (p y) 1 0) xs ys

pub count_by_push : {A : Type 0} (p : A → Bool) (xs : List A) (y : A) → count_by p (xs ++ y ∷ []) ≡ count_by p xs + cond (p y) 1 0
count_by_push p xs y = sum_by_push (λ x. cond (p x) 1 0) xs y

-- a count over a mapped list
pub count_by-map : {A B : Type 0} (p : B → Bool) (h : A → B) (xs : List A) → count_by p (map h xs) ≡ count_by (λ x. p (h x)) xs
count_by-map p h xs = sum_by-map (λ y. cond (p y) 1 0) h xs

-- a count over lists joined end to end
pub count_by-flat_map : {A B : Type 0} (p : B → Bool) (f : A → List B) (xs : List A)
    → count_by p (flat_map f xs) ≡ sum_by (λ x. count_by p (f x)) xs
count_by-flat_map p f xs = sum_by-flat_map (λ y. cond (p y) 1 0) f xs

-- where none passes, none is counted
pub count_by_none : {A : Type 0} (p : A → Bool) (xs : List A) → list_any p xs ≡ false → count_by p xs ≡ 0
count_by_none p [] none = refl
count_by_none p (x ∷ xs) none =
    let parts = or_parts (p x) (list_any p xs) none in
    let step : count_by p (x ∷ xs) ≡ 0 + count_by p xs = count_by-cons p x xs ∙ ap (λ v. cond v 1 0 + count_by p xs) parts.0 in
    let rest : count_by p xs ≡ 0 = count_by_none p xs parts.1 in
    omega arith

-- where one passes, one is counted
pub count_by_some : {A : Type 0} (p : A → Bool) (xs : List A) → list_any p xs ≡ true → 1 ≤ count_by p xs
count_by_some p [] some = cc
count_by_some p (x ∷ xs) some =
    let step = count_by-cons p x xs in
    elim (p x) as (λ v. count_by p (x ∷ xs) ≡ cond v 1 0 + count_by p xs → (v || list_any p xs) ≡ true → 1 ≤ count_by p (x ∷ xs)) [
      | true ↦ λ e k. omega arith
      | false ↦ λ e k. let more : 1 ≤ count_by p xs = count_by_some p xs k in omega arith
    ] step some

pub count_by_at : {A : Type 0} (p : A → Bool) (xs : List A) (i : ℕ) (x : A) → slice_get xs i ≡ Some x → p x ≡ true → 1 ≤ count_by p xs
count_by_at p xs i x at h = count_by_some p xs (any_passes_from_place p xs i x at h)

-- if at most one element passes, two that pass have one place
pub one_place : {A : Type 0} (p : A → Bool) (xs : List A) (i j : ℕ) (x y : A) → slice_get xs i ≡ Some x → slice_get xs j ≡ Some y → p x ≡ true → p y ≡ true → count_by p xs ≤ 1 → i ≡ j
one_place p [] i j x y at there h k few = cc
one_place p (z ∷ xs) zero zero x y at there h k few = refl
one_place p (z ∷ xs) zero (suc j) x y at there h k few =
    let step = count_by-cons p z xs in
    let own : ◌≡◌ {A = ℕ} (cond (p z) 1 0) 1 = ap (λ v. cond v 1 0) (ap p (same_Some z x at) ∙ h) in
    let rest = count_by_at p xs j y there k in
    absurd (omega (arith, step, own, rest, few))
one_place p (z ∷ xs) (suc i) zero x y at there h k few =
    let step = count_by-cons p z xs in
    let own : ◌≡◌ {A = ℕ} (cond (p z) 1 0) 1 = ap (λ v. cond v 1 0) (ap p (same_Some z y there) ∙ k) in
    let rest = count_by_at p xs i x at h in
    absurd (omega (arith, step, own, rest, few))
one_place p (z ∷ xs) (suc i) (suc j) x y at there h k few =
    let step = count_by-cons p z xs in
    let fewer : count_by p xs ≤ 1 = omega (arith, step, few) in
    ap suc (one_place p xs i j x y at there h k fewer)

-- if one is counted, one passes
pub list_any-from_count_by : {A : Type 0} (p : A → Bool) (xs : List A) → 1 ≤ count_by p xs → list_any p xs ≡ true
list_any-from_count_by p [] h = absurd (omega arith)
list_any-from_count_by p (x ∷ xs) h =
    let split = count_by-cons p x xs in
    elim (p x) as (λ v. p x ≡ v → (v || list_any p xs) ≡ true) [
      | true ↦ λ e. refl
      | false ↦ λ e.
          let none : ◌≡◌ {A = ℕ} (cond (p x) 1 0) 0 = ap (λ v. cond v 1 0) e in
          list_any-from_count_by p xs (omega (arith, split, none, h))
    ] refl
