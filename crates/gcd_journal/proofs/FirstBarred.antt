-- The first event that is not permitted is one.
use Rattle.std.proofs.Common.{◌≡◌, ℕ, zero, suc, ◌<◌, List, [], ◌∷◌, take, Some, None, is_some, refl, ap, sym, ◌∙◌, arith, inl, inr}
use Rattle.std.specs.List.{slice_get}
use Rattle.std.proofs.lemmas.Bool.{both_ways, cases_order}
use Rattle.gcd_plan.specs.PlanView.{PlanView}
use Rattle.gcd_event.specs.declared.event.Event.{Event}
use Rattle.gcd_history.specs.History.{why, IsLawful}
use Rattle.gcd_journal.specs.Judged.{IsFirstBarred}

pub none_barred : (plan : PlanView) (h : List Event) (i : ℕ) → IsLawful plan h → IsFirstBarred plan h i → ⊥
unfolding IsLawful
none_barred plan h i lawful barred =
    let none : why plan (take i h) barred.event ≡ None = lawful i barred.event barred.there in
    both_ways (is_some (why plan (take i h) barred.event)) (ap is_some none) barred.barred

-- an event of a longer front
get_in_front : {A : Type 0} (xs : List A) (i j : ℕ) (x : A) → i < j → slice_get xs i ≡ Some x → slice_get (take j xs) i ≡ Some x
get_in_front [] i j x before at = cc
get_in_front (y ∷ xs) i zero x before at = absurd (omega arith)
get_in_front (y ∷ xs) zero (suc j) x before at = at
get_in_front (y ∷ xs) (suc i) (suc j) x before at = get_in_front xs i j x (omega arith) at

take_none : (A : Type 0) (n : ℕ) → ◌≡◌ {A = List A} (take n []) []
take_none A zero = refl
take_none A (suc n) = refl

-- a front of a front
front_of_front : {A : Type 0} (xs : List A) (i j : ℕ) → i < j → take i (take j xs) ≡ take i xs
front_of_front {A} [] i j before = ap (take i) (take_none A j)
front_of_front {A} (x ∷ xs) i zero before = absurd (omega arith)
front_of_front {A} (x ∷ xs) zero (suc j) before = refl
front_of_front {A} (x ∷ xs) (suc i) (suc j) before = ap (λ l. x ∷ l) (front_of_front xs i j (omega arith))

earlier : (plan : PlanView) (h : List Event) (i j : ℕ) → IsFirstBarred plan h i → IsFirstBarred plan h j → i < j → ⊥
unfolding IsLawful
earlier plan h i j first second before =
    let none : why plan (take i (take j h)) first.event ≡ None = second.front i first.event (get_in_front h i j first.event before first.there) in
    let front : why plan (take i h) first.event ≡ None = ap (λ l. why plan l first.event) (sym (front_of_front h i j before)) ∙ none in
    both_ways (is_some (why plan (take i h) first.event)) (ap is_some front) first.barred

pub one_barred : (plan : PlanView) (h : List Event) (i j : ℕ) → IsFirstBarred plan h i → IsFirstBarred plan h j → i ≡ j
one_barred plan h i j first second =
    elim (cases_order i j) [
      | inl same ↦ same
      | inr other ↦ elim other [
        | inl before ↦ absurd (earlier plan h i j first second before)
        | inr after ↦ absurd (earlier plan h j i second first after)
      ]
    ]
