-- Sums and tests over the first numbers, as over the objects of a plan.
use Rattle.std.proofs.Common.{◌≡◌, ◌≢◌, ℕ, zero, suc, ◌+◌, ◌<◌, ◌≤◌, Bool, false, inl, inr, List, length, map, get_or, refl, ap, sym, ◌∙◌, subst, arith}
use Rattle.std.specs.List.{sum_by, sum, range_with_len, list_any}
use Rattle.std.proofs.lemmas.Bool.{cases_eq, or_from}
use Rattle.std.proofs.lemmas.List.Sums.{sum_by-cons}
use Rattle.std.proofs.lemmas.List.FromFn.{fill_by_all}
use Rattle.gcd_plan.proofs.Sums.{sum_by-map}

-- equal terms give equal sums
pub sum_by-same : (f g : ℕ → ℕ) (a n : ℕ) → ((k : ℕ) → a ≤ k → k < a + n → g k ≡ f k)
    → sum_by g (range_with_len a n) ≡ sum_by f (range_with_len a n)
sum_by-same f g a zero h = refl
sum_by-same f g a (suc n) h =
    let rest = sum_by-same f g (a + 1) n (λ k low high. h k (omega arith) (omega arith)) in
    let first = h a (omega arith) (omega arith) in
    let left = sum_by-cons g a (range_with_len (a + 1) n) in
    let right = sum_by-cons f a (range_with_len (a + 1) n) in
    omega (arith, left, right, rest, first)

-- a sum changes as its one term does that changes
pub sum_by-changed : (f g : ℕ → ℕ) (a n p c d : ℕ) → a ≤ p → p < a + n → g p + c ≡ f p + d
    → ((k : ℕ) → k < a + n → k ≢ p → g k ≡ f k)
    → sum_by g (range_with_len a n) + c ≡ sum_by f (range_with_len a n) + d
sum_by-changed f g a zero p c d low high change same = absurd (omega arith)
sum_by-changed f g a (suc n) p c d low high change same =
    let left = sum_by-cons g a (range_with_len (a + 1) n) in
    let right = sum_by-cons f a (range_with_len (a + 1) n) in
    elim (cases_eq a p) [
      | inl here ↦
          let rest = sum_by-same f g (a + 1) n (λ k low' high'. same k (omega arith) (omega arith)) in
          let first = subst (λ q. g q + c ≡ f q + d) (sym here) change in
          omega (arith, left, right, rest, first)
      | inr later ↦
          let rest = sum_by-changed f g (a + 1) n p c d (omega arith) (omega arith) change (λ k high' ne. same k (omega arith) ne) in
          let first = same a (omega arith) later in
          omega (arith, left, right, rest, first)
    ]

-- a term is no more than the sum
pub term-le-sum_by : (f : ℕ → ℕ) (a n k : ℕ) → a ≤ k → k < a + n → f k ≤ sum_by f (range_with_len a n)
term-le-sum_by f a zero k low high = absurd (omega arith)
term-le-sum_by f a (suc n) k low high =
    let all = sum_by-cons f a (range_with_len (a + 1) n) in
    elim (cases_eq a k) [
      | inl here ↦ let e = ap f here in omega (arith, all, e)
      | inr later ↦ let rest = term-le-sum_by f (a + 1) n k (omega arith) (omega arith) in omega (arith, all, rest)
    ]

-- the elements of a list, by place, sum to its sum
pub sum-by_place : (xs : List ℕ) → sum_by (λ k. get_or xs k 0) (range_with_len 0 (length xs)) ≡ sum xs
sum-by_place xs =
    let e : xs ≡ map (λ k. get_or xs k 0) (range_with_len 0 (length xs)) = fill_by_all _ xs (length xs) 0 refl (λ k h. refl) in
    sym (sum_by-map (λ x. x) (λ k. get_or xs k 0) (range_with_len 0 (length xs))) ∙ sym (ap sum e)

none_from : (p : ℕ → Bool) (a n : ℕ) → ((k : ℕ) → k < a + n → p k ≡ false) → list_any p (range_with_len a n) ≡ false
none_from p a zero h = refl
none_from p a (suc n) h = or_from (p a) _ (h a (omega arith)) (none_from p (a + 1) n (λ k lt. h k (omega arith)))

-- where none passes, none is found
pub none_below : (p : ℕ → Bool) (n : ℕ) → ((k : ℕ) → k < n → p k ≡ false) → list_any p (range_with_len 0 n) ≡ false
none_below p n h = none_from p 0 n (λ k lt. h k (omega arith))
