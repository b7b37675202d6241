-- Lists: what std's lemmas lack.
use Rattle.std.proofs.Common.{◌≡◌, ℕ, zero, suc, ◌+◌, ◌-◌, ◌<◌, Bool, true, false, ◌&&◌, ◌||◌, cond, List, [], ◌∷◌, ◌++◌, length, get_or, take, filter, map, Some, None, is_some, ⊎_elim, subst, length-append, find, reverse, count_by, ◌≤◌, refl, ap, ◌∙◌, sym, arith}
use Rattle.std.specs.List.{list_any, list_all, AllPairs, flat_map, range_with_len}
use Rattle.std.proofs.lemmas.List.{take_more, reverse-append, get_or_append_left, get_or-append_right}
use Rattle.std.proofs.lemmas.Bool.{or_cases, or_left, or_right, and_parts, and_from, cases_lt}
use Rattle.std.proofs.Math.Bool.{or_comm, or-false}
use Rattle.std.proofs.lemmas.Option.{same_Some}
use Rattle.std.proofs.lemmas.List.Folds.{find-append, list_any-append, list_all-append}
use Rattle.gcd_plan.proofs.Sums.{count_by_none, count_by-cons, count_by-append, count_by_some}

-- ## Reading at an index

-- ## One element more

pub reverse_push : {X : Type 0} → (xs : List X) (y : X) → reverse (xs ++ y ∷ []) ≡ y ∷ reverse xs
reverse_push xs y = reverse-append xs (y ∷ [])

-- what stands before place i of a list, the newest first
pub past_more : {X : Type 0} → (xs : List X) (i : ℕ) (d : X) → i < length xs → reverse (take (i + 1) xs) ≡ get_or xs i d ∷ reverse (take i xs)
past_more xs i d h = ap reverse (take_more xs i d h) ∙ reverse_push (take i xs) (get_or xs i d)

pub range_more : (a n : ℕ) → a < n → range_with_len a (n - a) ≡ a ∷ range_with_len (a + 1) (n - (a + 1))
range_more a n h = let e : n - a ≡ suc (n - (a + 1)) = omega arith in ap (range_with_len a) e

-- ## Tests of some element

pub list_any-filter : {X : Type 0} → (test p : X → Bool) (xs : List X) → list_any test (filter p xs) ≡ list_any (λ x. p x && test x) xs
list_any-filter test p [] = refl
list_any-filter test p (x ∷ xs) =
    elim (p x) as (λ v. list_any test (cond v (x ∷ filter p xs) (filter p xs)) ≡ ((v && test x) || list_any (λ y. p y && test y) xs)) [
      | true ↦ ap (λ b. test x || b) (list_any-filter test p xs)
      | false ↦ list_any-filter test p xs
    ]

-- in whatever order they stand
pub list_any-reverse : {X : Type 0} → (p : X → Bool) (xs : List X) → list_any p (reverse xs) ≡ list_any p xs
list_any-reverse p [] = refl
list_any-reverse p (x ∷ xs) =
    ap (list_any p) (reverse-append (x ∷ []) xs)
    ∙ list_any-append p (reverse xs) (x ∷ [])
    ∙ ap (λ v. v || (p x || false)) (list_any-reverse p xs)
    ∙ or_comm (list_any p xs) (p x || false)
    ∙ ap (λ v. v || list_any p xs) (or-false (p x))

pub none_passes : {X : Type 0} → (xs : List X) → list_any (λ x. false) xs ≡ false
none_passes [] = refl
none_passes (x ∷ xs) = none_passes xs

-- what is found passes
pub any_from_find : {X : Type 0} → (p : X → Bool) (xs : List X) → is_some (find p xs) ≡ true → list_any p xs ≡ true
any_from_find p [] h = cc
any_from_find p (x ∷ xs) h =
    elim (p x) as (λ v. is_some (cond v (Some x) (find p xs)) ≡ true → (v || list_any p xs) ≡ true) [
      | true ↦ λ k. refl
      | false ↦ λ k. any_from_find p xs k
    ] h

-- where none is counted none is found
pub none_found : {X : Type 0} (p : X → Bool) (xs : List X) → count_by p xs ≡ 0 → find p xs ≡ None
none_found p xs none =
    elim (find p xs) as (λ o. find p xs ≡ o → o ≡ None) [
      | None ↦ λ k. refl
      | Some x ↦ λ k. let some = count_by_some p xs (any_from_find p xs (ap is_some k)) in absurd (omega (arith, some, none))
    ] refl

-- what is found passes its test, and any that all pass
pub found_passes : {X : Type 0} → (p q : X → Bool) (xs : List X) (x : X) → find p xs ≡ Some x → list_all q xs ≡ true → (p x ≡ true) × (q x ≡ true)
found_passes p q [] x found all = cc
found_passes p q (y ∷ xs) x found all =
    let parts = and_parts (q y) (list_all q xs) all in
    elim (p y) as (λ v. p y ≡ v → cond v (Some y) (find p xs) ≡ Some x → (p x ≡ true) × (q x ≡ true)) [
      | true ↦ λ e k. let same = same_Some y x k in (subst (λ z. p z ≡ true) same e, subst (λ z. q z ≡ true) same parts.0)
      | false ↦ λ e k. found_passes p q xs x k parts.1
    ] refl found

pub found_is : {X : Type 0} → (p : X → Bool) (xs : List X) (x : X) → find p xs ≡ Some x → p x ≡ true
found_is p [] x found = cc
found_is p (y ∷ xs) x found =
    elim (p y) as (λ v. p y ≡ v → cond v (Some y) (find p xs) ≡ Some x → p x ≡ true) [
      | true ↦ λ e k. subst (λ z. p z ≡ true) (same_Some y x k) e
      | false ↦ λ e k. found_is p xs x k
    ] refl found

-- what is found stands in the list
pub found_any : {X : Type 0} → (p q : X → Bool) (xs : List X) (x : X) → find p xs ≡ Some x → q x ≡ true → list_any q xs ≡ true
found_any p q [] x found h = cc
found_any p q (y ∷ xs) x found h =
    elim (p y) as (λ v. cond v (Some y) (find p xs) ≡ Some x → (q y || list_any q xs) ≡ true) [
      | true ↦ λ k. or_left (q y) (list_any q xs) (ap q (same_Some y x k) ∙ h)
      | false ↦ λ k. or_right (q y) (list_any q xs) (found_any p q xs x k h)
    ] found

-- what passes is found
pub find_from_any : {X : Type 0} → (p : X → Bool) (xs : List X) → list_any p xs ≡ true → is_some (find p xs) ≡ true
find_from_any p [] h = cc
find_from_any p (x ∷ xs) h =
    elim (p x) as (λ v. (v || list_any p xs) ≡ true → is_some (cond v (Some x) (find p xs)) ≡ true) [
      | true ↦ λ k. refl
      | false ↦ λ k. find_from_any p xs k
    ] h

-- each pair, where a list goes on
pub all_pairs_append : {X : Type 0} → (R : X → X → Type 0) (xs ys : List X) → AllPairs R xs → ((k : ℕ) (d x : X) → k < length ys → R x (get_or ys k d)) → AllPairs R (xs ++ ys)
all_pairs_append R xs ys pairs new i j d l m =
    let whole = length-append xs ys in
    ⊎_elim
    (λ early.
    let first : i < length xs = omega arith in
    subst (λ x. R x (get_or (xs ++ ys) j d)) (sym (get_or_append_left xs ys d i first))
    (subst (λ y. R (get_or xs i d) y) (sym (get_or_append_left xs ys d j early)) (pairs i j d l early)))
    (λ late.
    let k : j - length xs < length ys = omega (arith, whole) in
    subst (λ y. R (get_or (xs ++ ys) i d) y) (sym (get_or-append_right xs ys (length xs) j d refl late)) (new (j - length xs) d (get_or (xs ++ ys) i d) k))
    (cases_lt j (length xs))

-- ## Counts

pub count_by-reverse : {X : Type 0} → (p : X → Bool) (xs : List X) → count_by p (reverse xs) ≡ count_by p xs
count_by-reverse p [] = refl
count_by-reverse p (x ∷ xs) =
    let split : count_by p (reverse (x ∷ xs)) ≡ count_by p (reverse xs) + count_by p (x ∷ []) = ap (count_by p) (reverse-append (x ∷ []) xs) ∙ count_by-append p (reverse xs) (x ∷ []) in
    let rest = count_by-reverse p xs in
    let step = count_by-cons p x xs in
    let one : count_by p (x ∷ []) ≡ cond (p x) 1 0 + count_by p [] = count_by-cons p x [] in
    let none : count_by p [] ≡ 0 = refl in
    omega arith

-- one more is counted once, where it passes and none before it does
pub count_more : {X : Type 0} → (p : X → Bool) (x : X) (xs : List X) → (p x ≡ true → list_any p xs ≡ false) → count_by p xs ≤ 1 → count_by p (x ∷ xs) ≤ 1
count_more p x xs none few =
    let step = count_by-cons p x xs in
    elim (p x) as (λ v. p x ≡ v → count_by p (x ∷ xs) ≡ cond v 1 0 + count_by p xs → count_by p (x ∷ xs) ≤ 1) [
      | true ↦ λ e k. let zero : count_by p xs ≡ 0 = count_by_none p xs (none e) in omega arith
      | false ↦ λ e k. omega arith
    ] refl step

pub any_left : {X : Type 0} → (p : X → Bool) (xs ys : List X) → list_any p xs ≡ true → list_any p (xs ++ ys) ≡ true
any_left p xs ys h = list_any-append p xs ys ∙ or_left (list_any p xs) (list_any p ys) h

pub any_right : {X : Type 0} → (p : X → Bool) (xs ys : List X) → list_any p ys ≡ true → list_any p (xs ++ ys) ≡ true
any_right p xs ys h = list_any-append p xs ys ∙ or_right (list_any p xs) (list_any p ys) h

-- over what each element gives
pub any_flat : {X Y : Type 0} → (p : Y → Bool) (f : X → List Y) (xs : List X) → list_any (λ x. list_any p (f x)) xs ≡ true → list_any p (flat_map f xs) ≡ true
any_flat p f [] h = cc
any_flat p f (x ∷ xs) h =
    ⊎_elim (λ here. any_left p (f x) (flat_map f xs) here) (λ later. any_right p (f x) (flat_map f xs) (any_flat p f xs later))
    (or_cases (list_any p (f x)) (list_any (λ y. list_any p (f y)) xs) h)

pub any_map : {X Y : Type 0} → (p : Y → Bool) (f : X → Y) (xs : List X) → list_any (λ x. p (f x)) xs ≡ true → list_any p (map f xs) ≡ true
any_map p f [] h = cc
any_map p f (x ∷ xs) h =
    ⊎_elim (λ here. or_left (p (f x)) (list_any p (map f xs)) here) (λ later. or_right (p (f x)) (list_any p (map f xs)) (any_map p f xs later))
    (or_cases (p (f x)) (list_any (λ y. p (f y)) xs) h)

-- a wider test
pub all_wider : {X : Type 0} → (p q : X → Bool) (xs : List X) → ((x : X) → p x ≡ true → q x ≡ true) → list_all p xs ≡ true → list_all q xs ≡ true
all_wider p q [] wider h = refl
all_wider p q (x ∷ xs) wider h =
    let parts = and_parts (p x) (list_all p xs) h in
    and_from (q x) (list_all q xs) (wider x parts.0) (all_wider p q xs wider parts.1)

pub all_flat : {X Y : Type 0} → (p : Y → Bool) (f : X → List Y) (xs : List X) → ((x : X) → list_all p (f x) ≡ true) → list_all p (flat_map f xs) ≡ true
all_flat p f [] h = refl
all_flat p f (x ∷ xs) h = list_all-append p (f x) (flat_map f xs) ∙ and_from (list_all p (f x)) (list_all p (flat_map f xs)) (h x) (all_flat p f xs h)

pub all_map : {X Y : Type 0} → (p : Y → Bool) (f : X → Y) (xs : List X) → ((x : X) → p (f x) ≡ true) → list_all p (map f xs) ≡ true
all_map p f [] h = refl
all_map p f (x ∷ xs) h = and_from (p (f x)) (list_all p (map f xs)) (h x) (all_map p f xs h)

pub all_both : {X : Type 0} → (p : X → Bool) (xs ys : List X) → list_all p xs ≡ true → list_all p ys ≡ true → list_all p (xs ++ ys) ≡ true
all_both p xs ys h k = list_all-append p xs ys ∙ and_from (list_all p xs) (list_all p ys) h k

-- ## The first that passes

find_none : {X : Type 0} → (p : X → Bool) (x : X) (xs : List X) → find p (x ∷ xs) ≡ None → (p x ≡ false) × (find p xs ≡ None)
find_none p x xs none =
    elim (p x) as (λ v. cond v (Some x) (find p xs) ≡ None → (v ≡ false) × (find p xs ≡ None)) [ true ↦ λ n. cc | false ↦ λ n. (refl, n) ] none

pub ruleset appended = find-append
