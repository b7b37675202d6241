-- The numbers of a range that pass a test: the first of them, and how many there are.
use Rattle.std.proofs.Common.{◌≡◌, ℕ, zero, suc, ◌+◌, ◌≤◌, min, Bool, true, false, cond, ◌||◌, ◌⊎◌, inl, inr, Option, Some, None, refl, ap, sym, ◌∙◌, arith}
use Rattle.std.specs.List.{count_by, find, range_with_len}
use Rattle.std.proofs.lemmas.Bool.{cases_Bool, cond-true, cond-false}
use Rattle.std.proofs.lemmas.List.Sums.{sum_by-cons}
use Rattle.gcd_sets.specs.Least.{earlier}

-- what is found is in the range
found_from : (p : ℕ → Bool) (a n : ℕ) → (find p (range_with_len a n) ≡ None) ⊎ ((x : ℕ) × (a ≤ x) × (find p (range_with_len a n) ≡ Some x))
found_from p a zero = inl refl
found_from p a (suc n) =
    elim (cases_Bool (p a)) [
      | inl passes ↦ inr (a, omega arith, cond-true (p a) _ _ passes)
      | inr fails ↦
          let skip : find p (range_with_len a (suc n)) ≡ find p (range_with_len (a + 1) n) = cond-false (p a) _ _ fails in
          elim (found_from p (a + 1) n) [
            | inl none ↦ inl (skip ∙ none)
            | inr some ↦ inr (some.0, omega (arith, some.1), skip ∙ some.2)
          ]
    ]

earlier_first : (a : ℕ) (o : Option ℕ) → (o ≡ None) ⊎ ((x : ℕ) × (a + 1 ≤ x) × (o ≡ Some x)) → (Some a ≡ earlier (Some a) o) × (Some a ≡ earlier o (Some a))
earlier_first a o found =
    elim found [
      | inl none ↦ (ap (earlier (Some a)) (sym none), ap (λ r. earlier r (Some a)) (sym none))
      | inr some ↦
          let left : a ≡ min a some.0 = omega (arith, some.1) in
          let right : a ≡ min some.0 a = omega (arith, some.1) in
          (ap Some left ∙ ap (earlier (Some a)) (sym some.2), ap Some right ∙ ap (λ r. earlier r (Some a)) (sym some.2))
    ]

-- the first that passes one of two tests
pub find_either : (p q : ℕ → Bool) (a n : ℕ)
    → find (λ t. p t || q t) (range_with_len a n) ≡ earlier (find p (range_with_len a n)) (find q (range_with_len a n))
find_either p q a zero = refl
find_either p q a (suc n) = by_first (p a) (q a) _ _ _ (find_either p q (a + 1) n) (found_from p (a + 1) n) (found_from q (a + 1) n)
  where
    by_first : (b c : Bool) (x y z : Option ℕ) → z ≡ earlier x y → (x ≡ None) ⊎ ((u : ℕ) × (a + 1 ≤ u) × (x ≡ Some u))
        → (y ≡ None) ⊎ ((u : ℕ) × (a + 1 ≤ u) × (y ≡ Some u))
        → cond (b || c) (Some a) z ≡ earlier (cond b (Some a) x) (cond c (Some a) y)
    by_first true true x y z e one other = ap Some (omega arith)
    by_first true false x y z e one other = (earlier_first a y other).0
    by_first false true x y z e one other = (earlier_first a x one).1
    by_first false false x y z e one other = e

-- how many pass, by a count that goes up at each
pub counted : (p : ℕ → Bool) (g : ℕ → ℕ) → ((t : ℕ) → g (t + 1) ≡ g t + cond (p (t + 1)) 1 0) → (a n : ℕ)
    → count_by p (range_with_len (a + 1) n) + g a ≡ g (a + n)
counted p g step a zero = let e : a ≡ a + 0 = omega arith in let same = ap g e in omega (arith, same)
counted p g step a (suc n) =
    let all = sum_by-cons (λ t. cond {A = ℕ} (p t) 1 0) (a + 1) (range_with_len (a + 1 + 1) n) in
    let rest = counted p g step (a + 1) n in
    let here = step a in
    let e : a + 1 + n ≡ a + suc n = omega arith in
    let same = ap g e in
    omega (arith, all, rest, here, same)
