-- A hand more, and the hands after their service.
use Rattle.std.proofs.Common.{◌≡◌, ◌<◌, ◌+◌, ◌∙◌, ℕ, suc, List, [], ◌∷◌, ◌++◌, length, ap, sym, subst, arith}
use Rattle.std.specs.Prelude.{All, slice_index_or}
use Rattle.std.specs.List.{ShiftedDown}
use Rattle.gcd_history.specs.Ends.{HasEnded}
use Rattle.gcd_row.specs.Passes.{IsGathered, terms_of, view}
use Rattle.gcd_row.specs.Shapes.{Shape}
use Rattle.gcd_row.specs.declared.pass.RowPass.{RowPass}
use Rattle.gcd_row.specs.declared.view.Terms.{Terms}
use Rattle.gcd_row.specs.declared.view.View.{View}
use Rattle.gcd_pool.specs.Each.{Each}
use Rattle.gcd_pool.specs.Hands.{IsReady, Served}
use Rattle.gcd_pool.specs.declared.hand.Hand.{Hand}
use Rattle.gcd_pool.specs.declared.hand.Pool.{Pool}
use Rattle.gcd_workers.specs.Teams.{EachFrom, IsHead, IsPassAt, IsReadyAt}
use Rattle.gcd_workers.proofs.Heads.{head_same}
use Rattle.gcd_workers.proofs.Places.{each_push}

module _ {S : Type 0} (shape : S → Shape) (gives : S → ℕ → Type 0) where
  -- after their service the hands are of the same workers
  pub passes_after : (pool : Pool S) (old new : List (Hand S)) → length new ≡ length old → EachFrom (IsReadyAt shape gives pool) 0 old
      → Each (Served shape gives pool) old new → EachFrom (IsPassAt shape gives pool.board.now) 0 new
  passes_after pool old new count ready served k d low =
      let within : k < length old = omega (arith, low, count) in
      let s = served k d within in
      record {
        pass = s.serving.of.pass;
        worker = ap (λ (v : View S). v.worker) s.serving.view.is ∙ (ready k d within).worker;
      }

  -- and worker 0 has given out the same numbers
  pub head_after : (pool : Pool S) (old new : List (Hand S)) → length new ≡ length old → 0 < length old
      → Each (Served shape gives pool) old new → ((d : Hand S) → IsHead 1 (length old) (view (slice_index_or old 0 d).pass))
      → (d : Hand S) → IsHead 1 (length new) (view (slice_index_or new 0 d).pass)
  head_after pool old new count some served head d =
      let s = served 0 d some in
      let same = sym count in
      subst (λ (n : ℕ). IsHead 1 n (view (slice_index_or new 0 d).pass)) same
      (head_same 1 (length old) (view (slice_index_or old 0 d).pass) (view (slice_index_or new 0 d).pass)
      (ap (λ (v : View S). v.worker) s.serving.view.is) (ap (λ (v : View S). v.hands) s.serving.view.is) (head d))

  -- and has seen that the run has ended
  pub ended_after : (pool : Pool S) (old new : List (Hand S)) → 0 < length old → Each (Served shape gives pool) old new
      → (d : Hand S) → HasEnded (terms_of pool.board.now).limits.most (terms_of pool.board.now).plan (view (slice_index_or new 0 d).pass).seen
  ended_after pool old new some served d =
      let s = served 0 d some in
      subst (λ (t : Terms S). HasEnded t.limits.most t.plan (view (slice_index_or new 0 d).pass).seen) s.serving.of.pass.terms s.ended

  -- and its journal is what was gathered of that
  pub gathered_after : (pool : Pool S) (old new : List (Hand S)) → 0 < length old → Each (Served shape gives pool) old new
      → ((d : Hand S) → IsHead 1 (length old) (view (slice_index_or old 0 d).pass))
      → (d : Hand S) → IsGathered (view (slice_index_or new 0 d).pass) (slice_index_or new 0 d).journal.items
  gathered_after pool old new some served head d =
      let s = served 0 d some in
      s.serving.of.gathered (ap (λ (v : View S). v.worker) s.serving.view.is ∙ (head d).worker)

  -- the hand of the next number
  pub hired : (pool : Pool S) (n : ℕ) (hands : List (Hand S)) (hand : Hand S) → IsReady shape gives pool hand
      → (view hand.pass).worker ≡ n → length hands + 1 ≡ n → EachFrom (IsReadyAt shape gives pool) 1 hands → EachFrom (IsReadyAt shape gives pool) 1 (hands ++ hand ∷ [])
  hired pool n hands hand ready worker count each =
      let place : n ≡ 1 + length hands = omega (arith, count) in
      each_push (IsReadyAt shape gives pool) 1 hands hand each (record { ready = ready; worker = worker ∙ place })

-- what holds by the terms of a hand of the pool holds by those of its board
pub by_board : {S : Type 0} (shape : S → Shape) (gives : S → ℕ → Type 0) (pool : Pool S) (hand : Hand S) (P : Terms S → Type 0) → IsReady shape gives pool hand
    → P (view hand.pass).terms → P (terms_of pool.board.now)
by_board shape gives pool hand P ready here = subst P ready.of.pass.terms here

-- what holds of the first holds of what lies at place 0
pub first_has : {T : Type 0} → (P : T → Type 0) {xs rest : List T} {x : T} (d : T) → xs ≡ x ∷ rest → P x → P (slice_index_or xs 0 d)
first_has {T} P d is holds = subst (λ (l : List T). P (slice_index_or l 0 d)) (sym is) holds

-- what holds of a pass holds of that of the hand that is made of it
pub pass_has : {S : Type 0} → (P : View S → Type 0) {pass : RowPass S} (hand : Hand S) → hand.pass ≡ pass → P (view pass) → P (view hand.pass)
pass_has {S} P hand is holds = subst (λ (p : RowPass S). P (view p)) (sym is) holds

-- what holds of all holds of the first, and of the rest
pub all_head : {T : Type 0} → (P : T → Type 0) (x : T) (xs : List T) → All P (x ∷ xs) → P x
all_head P x xs all = all 0 x (omega arith)

pub all_rest : {T : Type 0} → (P : T → Type 0) (x : T) (xs : List T) → All P (x ∷ xs) → All P xs
all_rest P x xs all k d low = all (suc k) d (omega arith)

-- what holds of all and of one more holds of all with it
pub all_push : {T : Type 0} → (P : T → Type 0) (xs : List T) (x : T) → All P xs → P x → All P (xs ++ x ∷ [])
all_push P xs x all last = each_push (λ (n : ℕ) y. P y) 0 xs x all last

-- what holds of all holds of one that was taken out at the front, and of those behind it
pub all_first : {T : Type 0} → (P : T → Type 0) (xs : List T) (x : T) → 0 < length xs → x ≡ slice_index_or xs 0 x → All P xs → P x
all_first P xs x some is all = subst P (sym is) (all 0 x some)

pub all_after : {T : Type 0} → (P : T → Type 0) (xs ys : List T) → length ys + 1 ≡ length xs → ShiftedDown xs ys 0 → All P xs → All P ys
all_after P xs ys count shifted all k d low = subst P (sym (shifted k d (omega arith))) (all (k + 1) d (omega arith))
