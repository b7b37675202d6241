-- What the least of a list of times is.
use Rattle.std.proofs.Common.{◌≡◌, ℕ, zero, suc, ◌+◌, ◌<◌, ◌≤◌, min, map, Some, None, refl, ap, sym, ◌∙◌, inl, inr, arith}
use Rattle.std.specs.List.{range_with_len}
use Rattle.std.proofs.lemmas.Bool.{cases_lt, cases_eq, lt-ltb, le-ltb, cond-true, cond-false}
use Rattle.gcd_sets.specs.Least.{earlier, least, no_time, time_at}

pub time_some : (n : ℕ) → n < no_time → time_at n ≡ Some n
time_some n lt = cond-true _ (Some n) None (lt-ltb n no_time lt)

pub time_none : (n : ℕ) → no_time ≤ n → time_at n ≡ None
time_none n past = cond-false _ (Some n) None (le-ltb n no_time past)

-- the earlier of two is the time of the lesser number
earlier_at : (x y : ℕ) → earlier (time_at x) (time_at y) ≡ time_at (min x y)
earlier_at x y =
    elim (cases_lt x no_time) [
      | inl here ↦ elim (cases_lt y no_time) [
        | inl there ↦ rw (time_some x here, time_some y there, time_some (min x y) (omega (arith, here, there))) refl
        | inr past ↦ let low : min x y ≡ x = omega (arith, here, past) in rw (time_some x here, time_none y past, low, time_some x here) refl
      ]
      | inr past ↦ elim (cases_lt y no_time) [
        | inl there ↦ let low : min x y ≡ y = omega (arith, there, past) in rw (time_none x past, low) refl
        | inr past' ↦ rw (time_none x past, time_none y past', time_none (min x y) (omega (arith, past, past'))) refl
      ]
    ]

-- the least of some numbers
abbrev low : (ℕ → ℕ) → (a n : ℕ) → ℕ
low f a zero = no_time
low f a (suc n) = min (f a) (low f (a + 1) n)

least_low : (f : ℕ → ℕ) (a n : ℕ) → least (map (λ i. time_at (f i)) (range_with_len a n)) ≡ time_at (low f a n)
least_low f a zero = sym (time_none no_time (omega arith))
least_low f a (suc n) = ap (earlier (time_at (f a))) (least_low f (a + 1) n) ∙ earlier_at (f a) (low f (a + 1) n)

low_most : (f : ℕ → ℕ) (a n x : ℕ) → a ≤ x → x < a + n → low f a n ≤ f x
low_most f a zero x from to = absurd (omega arith)
low_most f a (suc n) x from to =
    elim (cases_eq a x) [
      | inl here ↦ let is = ap f here in omega (arith, is)
      | inr later ↦ let rest = low_most f (a + 1) n x (omega arith) (omega arith) in omega (arith, rest)
    ]

low_least : (f : ℕ → ℕ) (a n m : ℕ) → ((i : ℕ) → a ≤ i → i < a + n → m ≤ f i) → min m no_time ≤ low f a n
low_least f a zero m all = omega arith
low_least f a (suc n) m all =
    let rest = low_least f (a + 1) n m (λ i from to. all i (omega arith) (omega arith)) in
    let here = all a (omega arith) (omega arith) in
    omega (arith, rest, here)

low_short : (f : ℕ → ℕ) (a n : ℕ) → low f a n ≤ no_time
low_short f a zero = omega arith
low_short f a (suc n) = let rest = low_short f (a + 1) n in omega (arith, rest)

-- numbers past all times stand for none
time_short : (m : ℕ) → time_at (min m no_time) ≡ time_at m
time_short m =
    elim (cases_lt m no_time) [
      | inl lt ↦ let same : min m no_time ≡ m = omega (arith, lt) in ap time_at same
      | inr past ↦ time_none (min m no_time) (omega (arith, past)) ∙ sym (time_none m past)
    ]

-- the least of the times of some numbers is that of a number at one place which none is below
pub least_is : (f : ℕ → ℕ) (a n m x : ℕ) → ((i : ℕ) → a ≤ i → i < a + n → m ≤ f i) → a ≤ x → x < a + n → f x ≡ m
    → least (map (λ i. time_at (f i)) (range_with_len a n)) ≡ time_at m
least_is f a n m x all from to is =
    let most = low_most f a n x from to in
    let few = low_least f a n m all in
    let same : low f a n ≡ min m no_time = omega (arith, most, few, is, low_short f a n) in
    least_low f a n ∙ ap time_at same ∙ time_short m
