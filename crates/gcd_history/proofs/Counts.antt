-- What is counted, kept and found in lists: what the lemmas of std and of the crates below lack.
use Rattle.std.proofs.Common.{◌≡◌, ℕ, zero, suc, ◌+◌, ◌<◌, ◌≤◌, Bool, true, false, cond, List, [], ◌∷◌, length, get_or, filter, Some, None, find, refl, ap, ◌∙◌, arith, ⊎_elim}
use Rattle.std.specs.List.{slice_get, sum_by, count_by}
use Rattle.std.proofs.lemmas.Bool.{cases_lt, cases_eq, both_ways, false_from_ne_true}
use Rattle.std.proofs.lemmas.Option.{same_Some}
use Rattle.std.proofs.lemmas.List.Sums.{sum_by-cons, get_or-le-sum_by}

-- ## Sums and counts

-- two terms at different places are within the sum
pub two_terms : {X : Type 0} (f : X → ℕ) (xs : List X) (i j : ℕ) (d : X) → i < j → j < length xs
    → f (get_or xs i d) + f (get_or xs j d) ≤ sum_by f xs
two_terms f [] i j d l m = absurd (omega arith)
two_terms f (x ∷ xs) i zero d l m = absurd (omega arith)
two_terms f (x ∷ xs) zero (suc j) d l m =
    let k : j < length xs = omega arith in
    omega (arith, sum_by-cons f x xs, get_or-le-sum_by f xs j d k)
two_terms f (x ∷ xs) (suc i) (suc j) d l m =
    let k : j < length xs = omega arith in
    let n : i < j = omega arith in
    omega (arith, sum_by-cons f x xs, two_terms f xs i j d n k)

-- where nothing is counted twice, two places that are counted are one
pub one_place : {X : Type 0} (p : X → Bool) (xs : List X) (i j : ℕ) (d : X) → count_by p xs ≤ 1 → i < length xs → j < length xs
    → p (get_or xs i d) ≡ true → p (get_or xs j d) ≡ true → i ≡ j
one_place p xs i j d few within_i within_j pi pj =
    let a : ◌≡◌ {A = ℕ} (cond (p (get_or xs i d)) 1 0) 1 = ap (λ b. cond b 1 0) pi in
    let b : ◌≡◌ {A = ℕ} (cond (p (get_or xs j d)) 1 0) 1 = ap (λ b. cond b 1 0) pj in
    ⊎_elim
    (λ e. e)
    (λ other. ⊎_elim
    (λ l. let two = two_terms (λ x. cond (p x) 1 0) xs i j d l within_j in absurd (omega (arith, a, b, two)))
    (λ l. let m : j < i = omega arith in let two = two_terms (λ x. cond (p x) 1 0) xs j i d m within_i in absurd (omega (arith, a, b, two)))
    (cases_lt i j))
    (cases_eq i j)

-- ## Filters

-- the first that passes is the first of those that pass
pub find_first : {X : Type 0} (p : X → Bool) (xs : List X) → find p xs ≡ slice_get (filter p xs) 0
find_first p [] = refl
find_first p (x ∷ xs) =
    elim (p x) as (λ v. cond v (Some x) (find p xs) ≡ slice_get (cond v (x ∷ filter p xs) (filter p xs)) 0) [
      | true ↦ refl
      | false ↦ find_first p xs
    ]

-- where nothing is found, nothing is counted
pub count_unfound : {X : Type 0} (p : X → Bool) (xs : List X) → find p xs ≡ None → count_by p xs ≡ 0
count_unfound p [] none = refl
count_unfound p (x ∷ xs) none =
    let split = sum_by-cons (λ y. cond (p y) 1 0) x xs in
    elim (p x) as (λ v. p x ≡ v → cond v (Some x) (find p xs) ≡ None → count_by p (x ∷ xs) ≡ 0) [
      | true ↦ λ e n. cc
      | false ↦ λ e n.
          let here : ◌≡◌ {A = ℕ} (cond (p x) 1 0) 0 = ap (λ b. cond b 1 0) e in
          omega (arith, split, here, count_unfound p xs n)
    ] refl none

-- a filter that keeps what is counted
pub count_kept : {X : Type 0} (p q : X → Bool) (xs : List X) → ((x : X) → p x ≡ true → q x ≡ true) → count_by p (filter q xs) ≡ count_by p xs
count_kept p q [] keeps = refl
count_kept p q (x ∷ xs) keeps =
    let split = sum_by-cons (λ y. cond (p y) 1 0) x xs in
    let rest = count_kept p q xs keeps in
    elim (q x) as (λ v. q x ≡ v → count_by p (cond v (x ∷ filter q xs) (filter q xs)) ≡ count_by p (x ∷ xs)) [
      | true ↦ λ e. let more = sum_by-cons (λ y. cond (p y) 1 0) x (filter q xs) in omega (arith, split, rest, more)
      | false ↦ λ e.
          let here : p x ≡ false = false_from_ne_true (p x) (λ passes. both_ways (q x) e (keeps x passes)) in
          let none : ◌≡◌ {A = ℕ} (cond (p x) 1 0) 0 = ap (λ b. cond b 1 0) here in
          omega (arith, split, rest, none)
    ] refl

-- what is found and passes another test is counted by that
pub counted_found : {X : Type 0} (p q : X → Bool) (xs : List X) (x : X) → find p xs ≡ Some x → q x ≡ true → 1 ≤ count_by q xs
counted_found p q [] x found passes = cc
counted_found p q (y ∷ ys) x found passes =
    let split = sum_by-cons (λ z. cond (q z) 1 0) y ys in
    elim (p y) as (λ v. cond v (Some y) (find p ys) ≡ Some x → 1 ≤ count_by q (y ∷ ys)) [
      | true ↦ λ f.
          let one : ◌≡◌ {A = ℕ} (cond (q y) 1 0) 1 = ap (λ z. cond (q z) 1 0) (same_Some y x f) ∙ ap (λ b. cond b 1 0) passes in
          omega (arith, split, one)
      | false ↦ λ f. let rest = counted_found p q ys x f passes in omega (arith, split, rest)
    ] found

-- where one element at most passes q, one that passes it and is the first of p is the first of q
pub found_alone : {X : Type 0} (p q : X → Bool) (xs : List X) (x : X) → count_by q xs ≤ 1 → find p xs ≡ Some x → q x ≡ true → find q xs ≡ Some x
found_alone p q [] x few found passes = cc
found_alone p q (y ∷ ys) x few found passes =
    let split = sum_by-cons (λ z. cond (q z) 1 0) y ys in
    elim (p y) as (λ v. cond v (Some y) (find p ys) ≡ Some x → find q (y ∷ ys) ≡ Some x) [
      | true ↦ λ f.
          let same = same_Some y x f in
          ap (λ v. cond v (Some y) (find q ys)) (ap q same ∙ passes) ∙ ap Some same
      | false ↦ λ f. elim (q y) as (λ v. q y ≡ v → cond v (Some y) (find q ys) ≡ Some x) [
        | true ↦ λ e.
            let here : ◌≡◌ {A = ℕ} (cond (q y) 1 0) 1 = ap (λ b. cond b 1 0) e in
            let rest = counted_found p q ys x f passes in
            absurd (omega (arith, split, few, here, rest))
        | false ↦ λ e. let low : count_by q ys ≤ 1 = omega (arith, split, few) in found_alone p q ys x low f passes
      ] refl
    ] found
