-- What a test keeps of a list, by place.
use Rattle.std.proofs.Common.{◌≡◌, ◌⊎◌, inl, inr, ⊎_elim, ℕ, zero, suc, ◌+◌, ◌<◌, ◌≤◌, Bool, true, false, not, ◌||◌, cond, List, [], ◌∷◌, ◌++◌, length, map, filter, take, drop, get_or, Some, refl, ap, sym, ◌∙◌, arith}
use Rattle.std.specs.List.{count_by, slice_get}
use Rattle.std.proofs.lemmas.Bool.{cases_lt}
use Rattle.std.proofs.lemmas.List.{append-nil, length-append, take_more}
use Rattle.std.proofs.lemmas.Option.{same_Some, slice_get_within, get_or_from_slice_get}
use Rattle.gcd_plan.proofs.Places.{slice_get-append_left, slice_get-append_seam}
use Rattle.gcd_plan.proofs.Sums.{count_by-cons, count_by_push}

-- what stands in two lists joined, of which the second has an element at most
pub last_or_front : {A : Type 0} (xs ys : List A) (j : ℕ) (x : A) → length ys ≤ 1 → slice_get (xs ++ ys) j ≡ Some x → (slice_get xs j ≡ Some x) ⊎ ((j ≡ length xs) × (slice_get ys 0 ≡ Some x))
last_or_front xs [] j x few h = inl (ap (λ l. slice_get l j) (sym (append-nil xs)) ∙ h)
last_or_front xs (y ∷ []) j x few h =
    ⊎_elim
    (λ (low : j < length xs). inl (sym (slice_get-append_left xs (y ∷ []) j low) ∙ h))
    (λ (high : length xs ≤ j).
    let within = slice_get_within (xs ++ y ∷ []) j x h in
    let long = length-append xs (y ∷ []) in
    let end : j ≡ length xs = omega (arith, high, within, long) in
    inr (end, sym (slice_get-append_seam xs y []) ∙ (ap (slice_get (xs ++ y ∷ [])) (sym end) ∙ h)))
    (cases_lt j (length xs))
last_or_front xs (y ∷ z ∷ ys) j x few h = absurd (omega (arith, few))

-- how many of the first pass, one element on
pub count_taken : {A : Type 0} (u : A → Bool) (xs : List A) (i : ℕ) (x : A) → slice_get xs i ≡ Some x → count_by u (take (i + 1) xs) ≡ count_by u (take i xs) + cond (u x) 1 0
count_taken u xs i x there =
    ap (count_by u) (take_more xs i x (slice_get_within xs i x there))
    ∙ (count_by_push u (take i xs) (get_or xs i x)
    ∙ ap (λ y. count_by u (take i xs) + cond (u y) 1 0) (get_or_from_slice_get xs i x x there))

kept_next : {A : Type 0} (v : Bool) (y : A) (ys : List A) (n j : ℕ) (x : A) → ((k : ℕ) → n ≡ k → slice_get ys k ≡ Some x) → cond {A = ℕ} v 1 0 + n ≡ j → slice_get (cond v (y ∷ ys) ys) j ≡ Some x
kept_next true y ys n zero x rest at = absurd (omega (arith, at))
kept_next true y ys n (suc k) x rest at = rest k (omega (arith, at))
kept_next false y ys n j x rest at = rest j (omega (arith, at))

-- one that passes stands behind those before it that pass
pub kept_there : {A : Type 0} (u : A → Bool) (xs : List A) (i j : ℕ) (x : A) → slice_get xs i ≡ Some x → u x ≡ true → count_by u (take i xs) ≡ j → slice_get (filter u xs) j ≡ Some x
kept_there u [] i j x there passes at = cc
kept_there u (y ∷ ys) zero j x there passes at =
    ap (λ v. slice_get (cond v (y ∷ filter u ys) (filter u ys)) j) (ap u (same_Some y x there) ∙ passes)
    ∙ (ap (slice_get (y ∷ filter u ys)) (sym at) ∙ there)
kept_there u (y ∷ ys) (suc i) j x there passes at =
    kept_next (u y) y (filter u ys) (count_by u (take i ys)) j x (λ k same. kept_there u ys i k x there passes same) (sym (count_by-cons u y (take i ys)) ∙ at)

-- where one that is kept stood
pub record KeptFrom {A : Type 0} (u : A → Bool) (xs : List A) (j : ℕ) (x : A) : Type 0 where
  pub place : ℕ
  pub there : slice_get xs place ≡ Some x
  pub passes : u x ≡ true
  pub count : count_by u (take place xs) ≡ j

behind : {A : Type 0} (u : A → Bool) (y : A) (ys : List A) (j k : ℕ) (x : A) → cond {A = ℕ} (u y) 1 0 + k ≡ j → KeptFrom u ys k x → KeptFrom u (y ∷ ys) j x
behind u y ys j k x at was =
    let more = count_by-cons u y (take was.place ys) in
    let old = was.count in
    record { place = suc was.place; there = was.there; passes = was.passes; count = omega (arith, more, old, at) }

first_kept : {A : Type 0} (u : A → Bool) (y : A) (ys : List A) (j : ℕ) (x : A) → u y ≡ true → slice_get (y ∷ filter u ys) j ≡ Some x → ((k : ℕ) → slice_get (filter u ys) k ≡ Some x → KeptFrom u ys k x) → KeptFrom u (y ∷ ys) j x
first_kept u y ys zero x passes there rest = record { place = 0; there = there; passes = ap u (sym (same_Some y x there)) ∙ passes; count = refl }
first_kept u y ys (suc k) x passes there rest = behind u y ys (suc k) k x (ap (λ v. cond {A = ℕ} v 1 0 + k) passes ∙ omega arith) (rest k there)

pub kept_from : {A : Type 0} (u : A → Bool) (xs : List A) (j : ℕ) (x : A) → slice_get (filter u xs) j ≡ Some x → KeptFrom u xs j x
kept_from u [] j x there = cc
kept_from u (y ∷ ys) j x there =
    elim (u y) as (λ v. u y ≡ v → slice_get (cond v (y ∷ filter u ys) (filter u ys)) j ≡ Some x → KeptFrom u (y ∷ ys) j x) [
      | true ↦ λ passes at. first_kept u y ys j x passes at (λ k. kept_from u ys k x)
      | false ↦ λ fails at. behind u y ys j j x (ap (λ v. cond {A = ℕ} v 1 0 + j) fails ∙ omega arith) (kept_from u ys j x at)
    ] refl there

-- what stands behind the first n
pub slice_get-drop : {A : Type 0} (xs : List A) (n i : ℕ) → slice_get (drop n xs) i ≡ slice_get xs (n + i)
slice_get-drop xs zero i = let same : i ≡ 0 + i = omega arith in ap (slice_get xs) same
slice_get-drop [] (suc n) i = refl
slice_get-drop (x ∷ xs) (suc n) i = let same : suc (n + i) ≡ suc n + i = omega arith in slice_get-drop xs n i ∙ ap (slice_get (x ∷ xs)) same

-- where the first n pass, they may be dropped before the test or after it
pub drop-filter : {A : Type 0} (u : A → Bool) (xs : List A) (n : ℕ) → ((i : ℕ) (x : A) → i < n → slice_get xs i ≡ Some x → u x ≡ true) → drop n (filter u xs) ≡ filter u (drop n xs)
drop-filter u xs zero front = refl
drop-filter u [] (suc n) front = refl
drop-filter u (x ∷ xs) (suc n) front =
    ap (λ v. drop (suc n) (cond v (x ∷ filter u xs) (filter u xs))) (front 0 x (omega arith) refl)
    ∙ drop-filter u xs n (λ i y low there. front (suc i) y (omega (arith, low)) there)

-- tests that agree at each element
pub filter_agree_at : {A : Type 0} (u v : A → Bool) (xs : List A) → ((i : ℕ) (x : A) → slice_get xs i ≡ Some x → u x ≡ v x) → filter u xs ≡ filter v xs
filter_agree_at u v [] same = refl
filter_agree_at u v (x ∷ xs) same =
    ap (λ w. cond w (x ∷ filter u xs) (filter u xs)) (same 0 x refl)
    ∙ ap (λ l. cond (v x) (x ∷ l) l) (filter_agree_at u v xs (λ i y there. same (suc i) y there))

pub filter-map : {A B : Type 0} (u : B → Bool) (f : A → B) (xs : List A) → filter u (map f xs) ≡ map f (filter (λ x. u (f x)) xs)
filter-map u f [] = refl
filter-map u f (x ∷ xs) = ap (λ l. cond (u (f x)) (f x ∷ l) l) (filter-map u f xs) ∙ through (u (f x))
  where
    through : (v : Bool) → cond v (f x ∷ map f (filter (λ y. u (f y)) xs)) (map f (filter (λ y. u (f y)) xs)) ≡ map f (cond v (x ∷ filter (λ y. u (f y)) xs) (filter (λ y. u (f y)) xs))
    through true = refl
    through false = refl

-- what fails either of two tests is taken out by one after the other
pub filter_either : {A : Type 0} (u v : A → Bool) (xs : List A) → filter (λ x. not (u x || v x)) xs ≡ filter (λ x. not (u x)) (filter (λ x. not (v x)) xs)
filter_either {A} u v [] = refl
filter_either {A} u v (x ∷ xs) =
    ap (λ l. cond (not (u x || v x)) (x ∷ l) l) (filter_either u v xs)
    ∙ elim (v x) as (λ w. cond (not (u x || w)) (x ∷ kept) kept ≡ filter (λ y. not (u y)) (cond (not w) (x ∷ rest) rest)) [ true ↦ out (u x) | false ↦ stays (u x) ]
  where
    rest : List A
    rest = filter (λ y. not (v y)) xs

    kept : List A
    kept = filter (λ y. not (u y)) rest

    out : (w : Bool) → cond (not (w || true)) (x ∷ kept) kept ≡ kept
    out true = refl
    out false = refl

    stays : (w : Bool) → cond (not (w || false)) (x ∷ kept) kept ≡ cond (not w) (x ∷ kept) kept
    stays true = refl
    stays false = refl
