-- The hands of a team at the end of a run.
use Rattle.std.proofs.Common.{◌≡◌, ◌<◌, ◌≤◌, ℕ, zero, suc, List, length, sym, subst, arith}
use Rattle.std.specs.Prelude.{slice_index_or}
use Rattle.gcd_history.specs.Ends.{HasEnded}
use Rattle.gcd_row.specs.Passes.{view}
use Rattle.gcd_row.specs.Shapes.{Shape}
use Rattle.gcd_pool.specs.Each.{Each}
use Rattle.gcd_pool.specs.Hands.{Served, Serving}
use Rattle.gcd_pool.specs.declared.hand.Hand.{Hand}
use Rattle.gcd_pool.specs.declared.hand.Pool.{Pool}
use Rattle.gcd_pool.proofs.Serves.{serves_further}

-- what such a hand has seen has ended
abbrev pub HandEnded : {S : Type 0} → Hand S → Type 0
HandEnded hand = HasEnded (view hand.pass).terms.limits.most (view hand.pass).terms.plan (view hand.pass).seen

-- worker 0 has led and the others have served; then each of these has looked until it saw the end
module _ {S : Type 0} (shape : S → Shape) (gives : S → ℕ → Type 0) (pool : Pool S) (xs ys zs : List (Hand S)) (served : Each (Serving shape gives pool) xs ys) (first : (d : Hand S) → slice_index_or zs 0 d ≡ slice_index_or ys 0 d) where
  first_serves : (d : Hand S) → 0 < length xs → Serving shape gives pool (slice_index_or xs 0 d) (slice_index_or zs 0 d)
  first_serves d low = subst (λ (z : Hand S). Serving shape gives pool (slice_index_or xs 0 d) z) (sym (first d)) (served 0 d low)

  pub all_served : length ys ≡ length xs → ((d : Hand S) → HandEnded (slice_index_or ys 0 d))
      → ((k : ℕ) (d : Hand S) → 1 ≤ k → k < length ys → Served shape gives pool (slice_index_or ys k d) (slice_index_or zs k d))
      → (k : ℕ) (d : Hand S) → k < length xs → Served shape gives pool (slice_index_or xs k d) (slice_index_or zs k d)
  all_served same ended rest zero d low = record { serving = first_serves d low; ended = subst HandEnded (sym (first d)) (ended d) }
  all_served same ended rest (suc k) d low =
      let later = rest (suc k) d (omega arith) (omega (arith, same, low)) in
      record {
        serving = serves_further shape gives pool (slice_index_or xs (suc k) d) (slice_index_or ys (suc k) d) (slice_index_or zs (suc k) d) (served (suc k) d low) later.serving;
        ended = later.ended;
      }
