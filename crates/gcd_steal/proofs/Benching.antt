-- What the calls of a rack say of the Drain that they give.
use Rattle.std.proofs.Common.{◌≡◌, ℕ, false, List, [], ◌∷◌, Option, Some, None, get_or, sym, subst, refl}
use Rattle.std.specs.Prelude.{MatchOption, IfSome, IfNone}
use Rattle.atomic_table.specs.Seated.{TableId}
use Rattle.gcd_steal.specs.declared.drain.Drain.{Drain}
use Rattle.gcd_steal.specs.declared.deque.Account.{Account}
use Rattle.gcd_steal.specs.declared.deque.RackId.{RackId}
use Rattle.gcd_steal.specs.Drains.{IsDrainOf, IsOf}
use Rattle.gcd_steal.specs.Deques.{Gets}

-- a Drain that was taken is of the rack that the pass knows
pub got_one : (o : Option Drain) (E : Type 0) (v w : Account) (n p : TableId) → v.fresh ≡ false → (v.rack.tokens.table_id ≡ n) × (v.rack.places.table_id ≡ p)
    → MatchOption o E (λ d. Gets v (d ∷ []) w) → IfSome o (λ d. IsDrainOf n p d)
got_one None E v w n p old is h = tt
got_one (Some d) E v w n p old is h = let held = h.1.1 in let r = held.2 in let same : v.rack ≡ r.rack = (r.each held.1 v held.3).rack old in
    let of : IsOf v.rack d = subst (λ (o : RackId). IsOf o d) (sym same) (r.right 0 d refl) in subst (λ (x : TableId × TableId). IsDrainOf x.0 x.1 d) (λ i. (is.0 i, is.1 i)) of

-- what None tells
pub got_none : (o : Option Drain) (E Q : Type 0) (S : Drain → Type 0) → (E → Q) → MatchOption o E S → IfNone o Q
got_none None E Q S tells h = tells h
got_none (Some d) E Q S tells h = tt

-- what holds of the element at k holds of what was read there
pub read_at : {A : Type 0} (P : A → Type 0) (l : List A) (k : ℕ) (a : A) → a ≡ get_or l k a → P (get_or l k a) → P a
read_at P l k a is here = subst P (sym is) here
