-- What is said of the elements of a list one by one, and tests of all of them.
use Rattle.std.proofs.Common.{◌≡◌, ℕ, suc, ◌+◌, ◌<◌, ◌≤◌, Bool, true, false, not, ◌&&◌, List, [], ◌∷◌, length, map, Some, None, refl, ap, sym, ◌∙◌, cond, arith}
use Rattle.std.specs.List.{list_all, position, position_from}
use Rattle.std.proofs.lemmas.Bool.{and_from, and_parts, both_ways, not-true}
use Rattle.std.proofs.lemmas.Iterator.Adapters.{position_from-zero}
use Rattle.std.proofs.lemmas.List.{length-map}
use Rattle.std.proofs.lemmas.List.Quantifiers.{position-Some}
use Rattle.std.proofs.lemmas.Option.{get_or_from_slice_get, same_Some}
use Rattle.gcd_plan.specs.Breaks.{Has}
use Rattle.gcd_plan.specs.Checked.{AllHave}
use Rattle.gcd_plan.proofs.Places.{slice_get_some}
use Rattle.gcd_plan.proofs.Quantifiers.{list_all_get}

-- ## One element

-- what all pass, none fails
pub none_fails : {A : Type 0} (p : A → Bool) (xs : List A) (i : ℕ) → list_all p xs ≡ true → Has xs i (λ x. p x ≡ false) → ⊥
none_fails p xs i all one = both_ways (p one.element) one.holds (list_all_get p xs i one.element all one.stands)

-- the first element that fails is there
pub first_fails : {A : Type 0} (p : A → Bool) (xs : List A) (i : ℕ) → position (λ x. not (p x)) xs ≡ Some i → Has xs i (λ x. p x ≡ false)
first_fails p [] i found = cc
first_fails p (x ∷ xs) i found =
    let at = position-Some (λ y. not (p y)) (x ∷ xs) i x found in
    let one = slice_get_some (x ∷ xs) i at.0 in
    let is = get_or_from_slice_get (x ∷ xs) i one.0 x one.1 in
    record { element = one.0; stands = one.1; holds = not-true (p one.0) (ap (λ y. not (p y)) (sym is) ∙ at.1) }

-- ## All elements

none_from : {A : Type 0} (p : A → Bool) (i : ℕ) (xs : List A) → position_from (λ x. not (p x)) i xs ≡ None → list_all p xs ≡ true
none_from p i [] none = refl
none_from p i (x ∷ xs) none =
    elim (p x) as (λ v. cond (not v) (Some i) (position_from (λ y. not (p y)) (i + 1) xs) ≡ None → (v && list_all p xs) ≡ true) [
      | true ↦ λ e. none_from p (i + 1) xs e
      | false ↦ λ e. cc
    ] none

-- where no element fails, all pass
pub all_pass : {A : Type 0} (p : A → Bool) (xs : List A) → position (λ x. not (p x)) xs ≡ None → list_all p xs ≡ true
all_pass p xs none = none_from p 0 xs (sym (position_from-zero (λ x. not (p x)) xs) ∙ none)

-- what passes two tests passes both at once
pub all_pass_both : {A : Type 0} (p q : A → Bool) (xs : List A) → list_all p xs ≡ true → list_all q xs ≡ true → list_all (λ x. p x && q x) xs ≡ true
all_pass_both p q [] a b = refl
all_pass_both p q (x ∷ xs) a b =
    let here = and_parts (p x) (list_all p xs) a in
    let there = and_parts (q x) (list_all q xs) b in
    and_from (p x && q x) _ (and_from (p x) (q x) here.0 there.0) (all_pass_both p q xs here.1 there.1)

-- what is so of each element is a test of all
pub list_all-from_have : {A : Type 0} (p : A → Bool) (xs : List A) → AllHave xs (λ _ x. p x ≡ true) → list_all p xs ≡ true
list_all-from_have p [] have = refl
list_all-from_have p (x ∷ xs) have =
    let first = have 0 (omega arith) in
    let here : p x ≡ true = ap p (same_Some x first.element first.stands) ∙ first.holds in
    and_from (p x) (list_all p xs) here (list_all-from_have p xs (λ i h. rest have i h))
  where
    rest : AllHave (x ∷ xs) (λ _ y. p y ≡ true) → AllHave xs (λ _ y. p y ≡ true)
    rest all i h =
        let one = all (suc i) (omega arith) in
        record { element = one.element; stands = one.stands; holds = one.holds }

-- what is so below the number of parts is so of all that are seen of them
pub all_seen : {A B : Type 0} (f : A → B) (P : ℕ → B → Type 0) (xs : List A) (n : ℕ) → length xs ≤ n
    → ((i : ℕ) → i < n → Has (map f xs) i (P i)) → AllHave (map f xs) P
all_seen f P xs n most below i h = below i (omega (arith, length-map xs f))
