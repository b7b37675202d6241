-- Lists that are read by `get_elem?`.
use Rattle.std.proofs.Common.{◌≡◌, ℕ, zero, suc, ◌<◌, ◌⊎◌, inl, inr, ⊎_elim, List, [], ◌∷◌, ◌++◌, length, sym, refl, ap, arith}
use mathlib.Core.Option.{some, some-injective, some-ne-none}
use lib.ListN.{get_elem?}

-- an empty list has no element
pub none_there : {A X : Type 0} (i : ℕ) (x : X) → get_elem? {A = X} [] i ≡ some x → A
none_there i x e = absurd (some-ne-none x (sym e))

-- the place of an element is below the length
pub in_range : {X : Type 0} (l : List X) (i : ℕ) (x : X) → get_elem? l i ≡ some x → i < length l
in_range [] i x e = absurd (some-ne-none x (sym e))
in_range (y ∷ l) zero x e = omega arith
in_range (y ∷ l) (suc i) x e = let h = in_range l i x e in omega arith

-- the only element
pub only_at : {V : Type 0} (v u : V) (i : ℕ) → get_elem? (v ∷ []) i ≡ some u → (i ≡ 0) × (v ≡ u)
only_at v u zero e = (refl, some-injective v u e)
only_at v u (suc i) e = absurd (some-ne-none u (sym e))

-- an element of a longer list is the last or an earlier one
pub at_end : {A : Type 0} (l : List A) (a b : A) (j : ℕ) → get_elem? (l ++ a ∷ []) j ≡ some b → (get_elem? l j ≡ some b) ⊎ ((j ≡ length l) × (a ≡ b))
at_end [] a b zero e = inr (refl, some-injective a b e)
at_end [] a b (suc j) e = absurd (some-ne-none b (sym e))
at_end (x ∷ xs) a b zero e = inl e
at_end (x ∷ xs) a b (suc j) e = ⊎_elim (λ (t : get_elem? xs j ≡ some b). inl t) (λ (t : (j ≡ length xs) × (a ≡ b)). inr (ap suc t.0, t.1)) (at_end xs a b j e)
