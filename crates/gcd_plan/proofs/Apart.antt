-- Lists in which nothing stands twice.
use Rattle.std.proofs.Common.{◌≡◌, ◌<◌, ◌≤◌, ◌==◌, Bool, true, List, [], ◌∷◌, length, get_or, ap, ◌∙◌, arith, eqb-true, ⊎_elim}
use Rattle.std.specs.List.{count_by, list_all}
use Rattle.std.proofs.lemmas.Bool.{cases_lt}
use Rattle.std.proofs.lemmas.List.Sums.{AllPass-from_list_all}
use Rattle.gcd_plan.proofs.Places.{Found, find_counted}

-- each element stands once by its key, as a test
abbrev pub stand_once : {K A : Type 0} → (K → A → Bool) → (A → K) → List A → Bool
stand_once same key xs = list_all (λ x. count_by (same (key x)) xs == 1) xs

module _ {K A : Type 0} (same : K → A → Bool) (key : A → K) (xs : List A)
    (keys : (k : K) (x : A) → same k x ≡ true → k ≡ key x) (own : (x : A) → same (key x) x ≡ true) where
  -- two elements of one key can't stand there
  at_most_once : (all : stand_once same key xs ≡ true) (k : K) (d : A) → Found (same k) xs → count_by (same k) xs ≡ 1
  at_most_once all k d found =
      let x : A = get_or xs found.0 d in
      let one : count_by (same (key x)) xs ≡ 1 =
      eqb-true _ _ (AllPass-from_list_all (λ y. count_by (same (key y)) xs == 1) xs all found.0 d found.1) in
      ap (λ j. count_by (same j) xs) (keys k x (found.2 d)) ∙ one

  -- an element of a list that has one
  first_of_list : (ys : List A) → 0 < length ys → A
  first_of_list [] h = absurd (omega arith)
  first_of_list (y ∷ ys) h = y

  -- no key stands twice
  pub apart_from_once : stand_once same key xs ≡ true → (k : K) → count_by (same k) xs ≤ 1
  apart_from_once all k = ⊎_elim
      (λ more.
      let found : Found (same k) xs = find_counted (same k) xs (omega arith) in
      let some : 0 < length xs = omega (arith, found.1) in
      let one = at_most_once all k (first_of_list xs some) found in
      omega (arith, one))
      (λ few. few)
      (cases_lt 1 (count_by (same k) xs))
