-- Sums over numbers, over lists and over what each element of a list gives.
use Rattle.std.proofs.Common.{◌≡◌, ℕ, zero, suc, ◌+◌, ◌<◌, ◌≤◌, List, [], ◌∷◌, length, take, Some, refl, sym, subst, arith, ⊎_elim, Bool, false, cond, ap}
use Rattle.std.specs.List.{sum_by, slice_get, range_with_len, count_by}
use Rattle.std.proofs.lemmas.List.{take-take}
use Rattle.std.proofs.lemmas.List.Sums.{sum_by-cons, sum_by-take-le}
use Rattle.std.proofs.lemmas.Bool.{cases_eq}
use Rattle.gcd_plan.proofs.Sums.{count_by-cons}

-- each term is at most as large
pub sum_range_le : (f g : ℕ → ℕ) (a n : ℕ) → ((k : ℕ) → f k ≤ g k) → sum_by f (range_with_len a n) ≤ sum_by g (range_with_len a n)
sum_range_le f g a zero low = omega arith
sum_range_le f g a (suc n) low =
    let rest = sum_range_le f g (a + 1) n low in
    let left = sum_by-cons f a (range_with_len (a + 1) n) in
    let right = sum_by-cons g a (range_with_len (a + 1) n) in
    let here = low a in
    omega arith

-- and the one at c is smaller by d
pub sum_range_less : (f g : ℕ → ℕ) (a n c d : ℕ) → ((k : ℕ) → f k ≤ g k) → f c + d ≤ g c → a ≤ c → c < a + n → sum_by f (range_with_len a n) + d ≤ sum_by g (range_with_len a n)
sum_range_less f g a zero c d low less above below = absurd (omega arith)
sum_range_less f g a (suc n) c d low less above below =
    let left = sum_by-cons f a (range_with_len (a + 1) n) in
    let right = sum_by-cons g a (range_with_len (a + 1) n) in
    ⊎_elim
    (λ same.
    let here : f a + d ≤ g a = subst (λ k. f k + d ≤ g k) (sym same) less in
    let rest = sum_range_le f g (a + 1) n low in
    omega arith)
    (λ other.
    let here = low a in
    let next : a + 1 ≤ c = grind arith in
    let rest : sum_by f (range_with_len (a + 1) n) + d ≤ sum_by g (range_with_len (a + 1) n) = sum_range_less f g (a + 1) n c d low less next (omega arith) in
    omega arith)
    (cases_eq a c)

-- a sum of sums
pub sum_range-add : (f g : ℕ → ℕ) (a n : ℕ) → sum_by (λ k. f k + g k) (range_with_len a n) ≡ sum_by f (range_with_len a n) + sum_by g (range_with_len a n)
sum_range-add f g a zero = refl
sum_range-add f g a (suc n) =
    let rest = sum_range-add f g (a + 1) n in
    let both = sum_by-cons (λ k. f k + g k) a (range_with_len (a + 1) n) in
    let left = sum_by-cons f a (range_with_len (a + 1) n) in
    let right = sum_by-cons g a (range_with_len (a + 1) n) in
    omega arith

later : (f : ℕ → ℕ) (a n c : ℕ) → ((k : ℕ) → (k ≡ c → ⊥) → f k ≡ 0) → c < a → sum_by f (range_with_len a n) ≤ 0
later f a zero c none below = omega arith
later f a (suc n) c none below =
    let step = sum_by-cons f a (range_with_len (a + 1) n) in
    let here : f a ≡ 0 = none a (λ same. omega arith) in
    let rest : sum_by f (range_with_len (a + 1) n) ≤ 0 = later f (a + 1) n c none (omega arith) in
    omega arith

-- at most one number adds anything, and that is at most d
pub sum_range_one : (f : ℕ → ℕ) (a n c d : ℕ) → ((k : ℕ) → (k ≡ c → ⊥) → f k ≡ 0) → f c ≤ d → sum_by f (range_with_len a n) ≤ d
sum_range_one f a zero c d none low = omega arith
sum_range_one f a (suc n) c d none low =
    let step = sum_by-cons f a (range_with_len (a + 1) n) in
    ⊎_elim
    (λ same.
    let here : f a ≤ d = subst (λ k. f k ≤ d) (sym same) low in
    let rest : sum_by f (range_with_len (a + 1) n) ≤ 0 = later f (a + 1) n c none (omega arith) in
    omega arith)
    (λ other.
    let here : f a ≡ 0 = none a other in
    let rest = sum_range_one f (a + 1) n c d none low in
    omega arith)
    (cases_eq a c)

-- what each number of a list's places gives, against its elements
pub sum_places_le : {X : Type 0} → (f : ℕ → ℕ) (g : X → ℕ) (xs : List X) (a : ℕ) → ((k : ℕ) (x : X) → slice_get xs k ≡ Some x → f (a + k) ≤ g x) → sum_by f (range_with_len a (length xs)) ≤ sum_by g xs
sum_places_le f g [] a low = omega arith
sum_places_le f g (x ∷ xs) a low =
    let left = sum_by-cons f a (range_with_len (a + 1) (length xs)) in
    let right = sum_by-cons g x xs in
    let here : f a ≤ g x = subst (λ k. f k ≤ g x) (omega arith) (low 0 x refl) in
    let rest : sum_by f (range_with_len (a + 1) (length xs)) ≤ sum_by g xs =
    sum_places_le f g xs (a + 1) (λ k y at. subst (λ j. f j ≤ g y) (omega arith) (low (suc k) y at)) in
    omega arith

pub sum_all_places_le : {X : Type 0} → (f : ℕ → ℕ) (g : X → ℕ) (xs : List X) → ((k : ℕ) (x : X) → slice_get xs k ≡ Some x → f k ≤ g x) → sum_by f (range_with_len 0 (length xs)) ≤ sum_by g xs
sum_all_places_le f g xs low = sum_places_le f g xs 0 (λ k x at. subst (λ j. f j ≤ g x) (omega arith) (low k x at))

-- a longer front adds up to more
pub sum_by-take-more : {X : Type 0} → (f : X → ℕ) (xs : List X) (m n : ℕ) → m ≤ n → sum_by f (take m xs) ≤ sum_by f (take n xs)
sum_by-take-more f xs m n h = subst (λ l. sum_by f l ≤ sum_by f (take n xs)) (take-take m n xs h) (sum_by-take-le f (take n xs) m)

-- where each element gives nothing, there is no sum
pub sum_by_none : {X : Type 0} → (f : X → ℕ) (xs : List X) → ((k : ℕ) (x : X) → slice_get xs k ≡ Some x → f x ≡ 0) → sum_by f xs ≡ 0
sum_by_none f [] none = refl
sum_by_none f (x ∷ xs) none =
    let step = sum_by-cons f x xs in
    let here : f x ≡ 0 = none 0 x refl in
    let rest : sum_by f xs ≡ 0 = sum_by_none f xs (λ k y at. none (suc k) y at) in
    omega arith

-- a sum of ones
pub ones : (a n : ℕ) → sum_by (λ k. 1) (range_with_len a n) ≡ n
ones a zero = refl
ones a (suc n) = let step = sum_by-cons (λ k. 1) a (range_with_len (a + 1) n) in let rest = ones (a + 1) n in omega (arith, step, rest)

-- a term is within the sum
pub term_within : (f : ℕ → ℕ) (n c : ℕ) → c < n → f c ≤ sum_by f (range_with_len 0 n)
term_within f n c low =
    let less = sum_range_less (λ k. 0) f 0 n c (f c) (λ k. omega arith) (omega arith) (omega arith) (omega (arith, low)) in
    omega (arith, less)

-- what no number passes counts none
pub none_in : (p : ℕ → Bool) (a n : ℕ) → ((t : ℕ) → p t ≡ false) → count_by p (range_with_len a n) ≡ 0
none_in p a zero none = refl
none_in p a (suc n) none =
    let here = ap (λ v. cond {A = ℕ} v 1 0) (none a) in
    let rest = none_in p (a + 1) n none in
    let c = count_by-cons p a (range_with_len (a + 1) n) in
    omega (arith, here, rest, c)
