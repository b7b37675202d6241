-- Facts of each place of a list.
use Rattle.std.proofs.Common.{◌≡◌, ◌<◌, ◌≤◌, ◌+◌, ◌∙◌, ℕ, zero, suc, Bool, true, false, cond, List, [], ◌∷◌, ◌++◌, length, filter, drop, Some, refl, ap, sym, subst, arith, ⊎_elim}
use Rattle.std.specs.Prelude.{slice_get, slice_index_or}
use Rattle.std.proofs.lemmas.Bool.{both_ways, cases_lt}
use Rattle.std.proofs.lemmas.List.{get_or_append_left, length_push}
use Rattle.std.proofs.Math.Seq.{get_or-append_seam}
use Rattle.std.proofs.lemmas.Option.{same_Some}
use Rattle.gcd_workers.specs.Teams.{EachFrom}

module _ {T : Type 0} (P : ℕ → T → Type 0) where
  pub each_none : (n : ℕ) → EachFrom P n []
  each_none n k d low = absurd (omega arith)

  pub each_push : (n : ℕ) (xs : List T) (x : T) → EachFrom P n xs → P (n + length xs) x → EachFrom P n (xs ++ x ∷ [])
  each_push n xs x each last k d low =
      let long = length_push xs x in
      ⊎_elim
      (λ (early : k < length xs). subst (P (n + k)) (sym (get_or_append_left xs (x ∷ []) d k early)) (each k d early))
      (λ (late : length xs ≤ k).
      let same : length xs ≡ k = omega (arith, long) in
      subst (λ (i : ℕ). P (n + i) (slice_index_or (xs ++ x ∷ []) i d)) same (subst (P (n + length xs)) (sym (get_or-append_seam xs x [] d)) last))
      (cases_lt k (length xs))

  pub each_front : (xs : List T) (x : T) → P 0 x → EachFrom P 1 xs → EachFrom P 0 (x ∷ xs)
  each_front xs x first each zero d low = first
  each_front xs x first each (suc k) d low =
      let same : 1 + k ≡ 0 + suc k = omega arith in
      subst (λ (i : ℕ). P i (slice_index_or xs k d)) same (each k d (omega arith))

  pub each_tail : (xs : List T) → EachFrom P 0 xs → EachFrom P 1 (drop 1 xs)
  each_tail [] each k d low = absurd (omega arith)
  each_tail (x ∷ xs) each k d low =
      let same : 0 + suc k ≡ 1 + k = omega arith in
      subst (λ (i : ℕ). P i (slice_index_or xs k d)) same (each (suc k) d (omega arith))

  pub each_first : (n : ℕ) (x : T) (xs : List T) → EachFrom P n (x ∷ xs) → P n x
  each_first n x xs each = let same : n + 0 ≡ n = omega arith in subst (λ (i : ℕ). P i x) same (each 0 x (omega arith))

  pub each_rest : (n : ℕ) (x : T) (xs : List T) → EachFrom P n (x ∷ xs) → EachFrom P (suc n) xs
  each_rest n x xs each k d low =
      let same : n + suc k ≡ suc n + k = omega arith in
      subst (λ (i : ℕ). P i (slice_index_or xs k d)) same (each (suc k) d (omega arith))

-- what is filtered out is at no place
pub none_at : {X : Type 0} (p : X → Bool) (xs : List X) (i : ℕ) (x : X) → filter p xs ≡ [] → slice_get xs i ≡ Some x → p x ≡ true → ⊥
none_at p [] i x none at is = absurd (cc)
none_at {X} p (y ∷ ys) zero x none at is = head (p y) refl none
  where
    same : y ≡ x
    same = same_Some y x at

    head : (b : Bool) → p y ≡ b → cond b (y ∷ filter p ys) (filter p ys) ≡ [] → ⊥
    head true passes bad = absurd (cc)
    head false no_it rest = both_ways (p y) no_it (ap p same ∙ is)
none_at {X} p (y ∷ ys) (suc i) x none at is = none_at p ys i x (tail (p y) none) at is
  where
    tail : (b : Bool) → cond b (y ∷ filter p ys) (filter p ys) ≡ [] → filter p ys ≡ []
    tail true bad = absurd (cc)
    tail false rest = rest
