-- Tests of the elements of a list: what std lacks.
use Rattle.std.proofs.Common.{◌≡◌, ℕ, zero, suc, ◌+◌, ◌<◌, ◌≤◌, Bool, true, ◌&&◌, ◌||◌, List, [], ◌∷◌, ◌++◌, get_or, Some, refl, ap, sym, ◌∙◌, ⊎_elim, arith}
use Rattle.std.specs.List.{list_all, list_any, range_with_len, slice_get}
use Rattle.std.proofs.lemmas.Bool.{and_parts, and_from, or_left, or_right, cases_eq}
use Rattle.std.proofs.lemmas.Option.{same_Some}
use Rattle.std.proofs.lemmas.List.Folds.{list_all-append, list_any_at}
use Rattle.std.proofs.lemmas.List.FromFn.{length-range_with_len, get_or-range_with_len}

-- ## Tests of all

-- what all pass, each passes
pub list_all_get : {A : Type 0} (p : A → Bool) (xs : List A) (i : ℕ) (x : A) → list_all p xs ≡ true → slice_get xs i ≡ Some x → p x ≡ true
list_all_get p [] i x all at = cc
list_all_get p (y ∷ xs) zero x all at = ap p (sym (same_Some y x at)) ∙ (and_parts (p y) (list_all p xs) all).0
list_all_get p (y ∷ xs) (suc i) x all at = list_all_get p xs i x (and_parts (p y) (list_all p xs) all).1 at

-- one more that passes
pub list_all_push : {A : Type 0} (p : A → Bool) (xs : List A) (x : A) → list_all p xs ≡ true → p x ≡ true → list_all p (xs ++ x ∷ []) ≡ true
list_all_push p xs x all h = list_all-append p xs (x ∷ []) ∙ and_from (list_all p xs) (p x && true) all (and_from (p x) true h refl)

-- ## Tests of some

-- tests that agree at each element
pub list_any_agree : {A : Type 0} (p q : A → Bool) (xs : List A) → ((x : A) → p x ≡ q x) → list_any p xs ≡ list_any q xs
list_any_agree p q [] same = refl
list_any_agree p q (x ∷ xs) same = ap (λ v. v || list_any p xs) (same x) ∙ ap (λ v. q x || v) (list_any_agree p q xs same)

-- a number of the range that passes
pub list_any_in_range : (p : ℕ → Bool) (n k : ℕ) → k < n → p k ≡ true → list_any p (range_with_len 0 n) ≡ true
list_any_in_range p n k within h =
    let at : get_or (range_with_len 0 n) k 0 ≡ k = get_or-range_with_len 0 n k 0 within ∙ omega arith in
    list_any_at p (range_with_len 0 n) k 0 (omega (arith, within, length-range_with_len 0 n)) (ap p at ∙ h)

pub list_any_in_range_from : (p : ℕ → Bool) (a n k : ℕ) → a ≤ k → k < a + n → p k ≡ true → list_any p (range_with_len a n) ≡ true
list_any_in_range_from p a zero k above below h = absurd (omega arith)
list_any_in_range_from p a (suc n) k above below h =
    ⊎_elim
    (λ here. or_left (p a) (list_any p (range_with_len (a + 1) n)) (ap p here ∙ h))
    (λ other.
    let next : a + 1 ≤ k = grind arith in
    or_right (p a) (list_any p (range_with_len (a + 1) n)) (list_any_in_range_from p (a + 1) n k next (omega arith) h))
    (cases_eq a k)
