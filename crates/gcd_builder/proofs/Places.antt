-- Names by their places: what a new name changes.
use Rattle.std.proofs.Common.{ℕ, suc, ◌≡◌, ◌<◌, ◌≤◌, ◌+◌, ◌-◌, Bool, true, false, cond, List, [], ◌∷◌, ◌++◌, length, Some, None, count_by, refl, sym, ap, ◌∙◌, arith, add-zero}
use Rattle.std.specs.List.{list_any, position_from, slice_get}
use Rattle.std.proofs.lemmas.Bool.{or_parts}
use Rattle.std.specs.Option.{option_or}
use Rattle.std.specs.Str.{bytes_eq}
use Rattle.std.proofs.lemmas.List.Sums.{sum_by-cons}
use Rattle.std.proofs.lemmas.Slice.Eq.{bytes_eq-Decides}
use Rattle.gcd_builder.specs.Names.{place_of}

-- bytes that pass the test are the same
pub same_bytes : (xs ys : List ℕ) → bytes_eq xs ys ≡ true → xs ≡ ys
same_bytes xs ys h = (bytes_eq-Decides xs ys).0 h

pub bytes_same : (xs : List ℕ) → bytes_eq xs xs ≡ true
bytes_same xs = (bytes_eq-Decides xs xs).1 refl

module _ {X : Type 0} (t : X → Bool) where
  -- one element more
  from_push : (i : ℕ) (xs : List X) (y : X) → position_from t i (xs ++ y ∷ []) ≡ option_or (position_from t i xs) (cond (t y) (Some (i + length xs)) None)
  from_push i [] y = ap (λ n. cond (t y) (Some n) None) (sym (add-zero i))
  from_push i (x ∷ xs) y =
      let later = from_push (i + 1) xs y in
      let sum : i + 1 + length xs ≡ i + suc (length xs) = omega arith in
      elim (t x) as (λ v. cond v (Some i) (position_from t (i + 1) (xs ++ y ∷ [])) ≡ option_or (cond v (Some i) (position_from t (i + 1) xs)) (cond (t y) (Some (i + suc (length xs))) None)) [
        | true ↦ refl
        | false ↦ later ∙ ap (λ n. option_or (position_from t (i + 1) xs) (cond (t y) (Some n) None)) sum
      ]

  -- where no element passes, none is counted
  from_none : (i : ℕ) (xs : List X) → position_from t i xs ≡ None → count_by t xs ≡ 0
  from_none i [] h = refl
  from_none i (x ∷ xs) h =
      sum_by-cons (λ y. cond (t y) 1 0) x xs
      ∙ elim (t x) as (λ v. cond v (Some i) (position_from t (i + 1) xs) ≡ None → cond v 1 0 + count_by t xs ≡ 0) [
        | true ↦ λ h. cc
        | false ↦ λ h. let later = from_none (i + 1) xs h in omega arith
      ] h

  -- the place is in the list
  from_within : (i : ℕ) (xs : List X) (k : ℕ) → position_from t i xs ≡ Some k → (i ≤ k) × (k < i + length xs)
  from_within i [] k h = cc
  from_within i (x ∷ xs) k h =
      elim (t x) as (λ v. cond v (Some i) (position_from t (i + 1) xs) ≡ Some k → (i ≤ k) × (k < i + suc (length xs))) [
        | true ↦ λ h. let same : i ≡ k = cc in (omega arith, omega arith)
        | false ↦ λ h. let later = from_within (i + 1) xs k h in (omega arith, omega arith)
      ] h

  -- no place where none passes
  from_nobody : (i : ℕ) (xs : List X) → list_any t xs ≡ false → position_from t i xs ≡ None
  from_nobody i [] h = refl
  from_nobody i (x ∷ xs) h =
      let parts = or_parts (t x) (list_any t xs) h in
      ap (λ v. cond v (Some i) (position_from t (i + 1) xs)) parts.0 ∙ from_nobody (i + 1) xs parts.1

  -- elements more, of which none passes
  from_before : (i : ℕ) (xs ys : List X) → list_any t ys ≡ false → position_from t i (xs ++ ys) ≡ position_from t i xs
  from_before i [] ys h = from_nobody i ys h
  from_before i (x ∷ xs) ys h = ap (λ o. cond (t x) (Some i) o) (from_before (i + 1) xs ys h)

  -- the element at the place passes
  from_stands : (i : ℕ) (xs : List X) (k : ℕ) → position_from t i xs ≡ Some (i + k) → (x : X) × (slice_get xs k ≡ Some x) × (t x ≡ true)
  from_stands i [] k h = cc
  from_stands i (x ∷ xs) k h =
      elim (t x) as (λ v. t x ≡ v → cond v (Some i) (position_from t (i + 1) xs) ≡ Some (i + k) → (y : X) × (slice_get (x ∷ xs) k ≡ Some y) × (t y ≡ true)) [
        | true ↦ λ e h.
            let same : i ≡ i + k = cc in
            let none : 0 ≡ k = omega (arith, same) in
            (x, ap (slice_get (x ∷ xs)) (sym none), e)
        | false ↦ λ e h.
            let within = from_within (i + 1) xs (i + k) h in
            let above : k ≡ suc (k - 1) = omega (arith, within.0) in
            let at : i + k ≡ i + 1 + (k - 1) = omega (arith, within.0) in
            let later = from_stands (i + 1) xs (k - 1) (h ∙ ap (λ n. Some n) at) in
            (later.0, ap (slice_get (x ∷ xs)) above ∙ later.1, later.2)
      ] refl h

-- the place of a name in a list with one name more at its end
pub place_push : (q : List ℕ) (names : List (List ℕ)) (name : List ℕ) → place_of q (names ++ name ∷ []) ≡ option_or (place_of q names) (cond (bytes_eq q name) (Some (length names)) None)
place_push q names name =
    from_push (bytes_eq q) 0 names name ∙ ap (λ n. option_or (place_of q names) (cond (bytes_eq q name) (Some n) None)) (omega arith)

-- where a name has no place, none of the names is it
pub count_none : (q : List ℕ) (names : List (List ℕ)) → place_of q names ≡ None → count_by (bytes_eq q) names ≡ 0
count_none q names h = from_none (bytes_eq q) 0 names h

-- a place is within the list
pub place_within : (q : List ℕ) (names : List (List ℕ)) (i : ℕ) → place_of q names ≡ Some i → i < length names
place_within q names i h = let within = from_within (bytes_eq q) 0 names i h in omega arith

-- a name that is not the first has a place above 0
pub place_above : (q first : List ℕ) (names : List (List ℕ)) (i : ℕ) → bytes_eq q first ≡ false → place_of q (first ∷ names) ≡ Some i → 0 < i
place_above q first names i other h =
    let found : position_from (bytes_eq q) (0 + 1) names ≡ Some i = sym (ap (λ v. cond v (Some 0) (position_from (bytes_eq q) (0 + 1) names)) other) ∙ h in
    let within = from_within (bytes_eq q) (0 + 1) names i found in
    omega arith

-- the name stands at its place
pub place_stands : (q : List ℕ) (names : List (List ℕ)) (i : ℕ) → place_of q names ≡ Some i → slice_get names i ≡ Some q
place_stands q names i h =
    let there = from_stands (bytes_eq q) 0 names i (h ∙ ap (λ n. Some n) (omega arith)) in
    there.1 ∙ ap (λ x. Some x) (sym (same_bytes q there.0 there.2))

-- the place stays where names follow that are others
pub place_before : (q : List ℕ) (names more : List (List ℕ)) → list_any (bytes_eq q) more ≡ false → place_of q (names ++ more) ≡ place_of q names
place_before q names more others = from_before (bytes_eq q) 0 names more others
