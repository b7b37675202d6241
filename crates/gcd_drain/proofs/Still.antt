-- What is free does not move.
use Rattle.std.proofs.Common.{◌≡◌, ℕ, ◌==◌, Bool, true, false, not, ◌&&◌, ◌||◌, List, [], ◌∷◌, refl, ap, ◌∙◌}
use Rattle.std.specs.List.{list_any}
use Rattle.gcd_tree.specs.TreeView.{TreeView, is_moving_at}
use Rattle.gcd_hold.specs.HoldsView.{HoldsView, hold_at, is_active_at}
use Rattle.gcd_drain.specs.Rule.{is_free_by}

-- an object that is free does not move, and the others are to be asked
free_then_still : (active unheld moving others : Bool) → (not (active && (unheld && not moving)) || others) ≡ false
    → (moving ≡ false) × (others ≡ false)
free_then_still true true false others e = (refl, e)
free_then_still true true true others e = cc
free_then_still true false moving others e = cc
free_then_still false unheld moving others e = cc

-- where all objects are free, none is about to move
pub none_moves : (tree : TreeView) (holds : HoldsView) (objects : List ℕ) → list_any (λ o. not (is_free_by tree holds o)) objects ≡ false
    → list_any (is_moving_at tree) objects ≡ false
none_moves tree holds [] free = refl
none_moves tree holds (o ∷ os) free =
    let here = free_then_still (is_active_at holds o) (hold_at holds o == 0) (is_moving_at tree o) (list_any (λ p. not (is_free_by tree holds p)) os) free in
    ap (λ b. b || list_any (is_moving_at tree) os) here.0 ∙ none_moves tree holds os here.1
