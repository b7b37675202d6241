-- Chains and barriers while no run is open.
use Rattle.std.proofs.Common.{◌≡◌, ℕ, ◌<◌, ◌≤◌, Bool, true, false, nat_lt, ◌&&◌, ◌||◌, List, [], ◌∷◌, length, get_or, refl, ap, sym, ◌∙◌, arith}
use Rattle.std.specs.List.{list_any}
use Rattle.gcd_tree.specs.TreeView.{TreeView, chain_at, open_on_at, open_beneath_at}
use Rattle.gcd_tree.specs.IsTree.{IsTree}
use Rattle.gcd_tree.proofs.Quiet.{none_on, none_beneath}
use Rattle.gcd_hold.specs.HoldsView.{HoldsView}
use Rattle.gcd_drain.specs.DrainsView.{DrainsView, barriers_at, is_exclusive_at, has_barriers_at}
use Rattle.gcd_drain.specs.Rule.{excludes_at, is_fenced_at}
use Rattle.gcd_drain.specs.Shut.{is_shut_by}
use Rattle.gcd_drain.specs.Held.{is_chain_held_by, AreHeld}

and_false : (b : Bool) → (b && false) ≡ false
and_false true = refl
and_false false = refl

or_false : (b : Bool) → (b || false) ≡ b
or_false true = refl
or_false false = refl

module _ (drains : DrainsView) (tree : TreeView) (ok : IsTree tree) (quiet : nat_lt 0 (open_beneath_at tree 0) ≡ false) where
  -- no object excludes
  pub none_excludes : (objects : List ℕ) → list_any (excludes_at drains tree) objects ≡ false
  none_excludes [] = refl
  none_excludes (o ∷ os) =
      ap (λ b. b || list_any (excludes_at drains tree) os)
      (ap (λ n. is_exclusive_at drains o && nat_lt 0 n) (none_beneath tree ok quiet o) ∙ and_false (is_exclusive_at drains o))
      ∙ none_excludes os

  -- a chain is shut exactly if it is held
  pub shut_is_held : (held : List Bool) (holds : HoldsView) → AreHeld held tree holds → (o : ℕ) → o < length tree.targets
      → is_shut_by drains tree holds o ≡ get_or held o false
  shut_is_held held holds are o lt =
      ap (λ b. is_chain_held_by tree holds o || b) (none_excludes (chain_at tree o))
      ∙ or_false (is_chain_held_by tree holds o) ∙ sym (are.exact o lt)

  -- no barrier fences, as long as no more barriers than runs are open on the node
  pub none_fenced : (node : ℕ) → barriers_at drains node ≤ open_on_at tree node → (barrier : Bool) → is_fenced_at drains tree barrier node ≡ false
  none_fenced node few barrier =
      let none : open_on_at tree node ≡ 0 = none_on tree ok quiet node in
      let no_barrier : barriers_at drains node ≡ 0 = omega arith in
      ap (λ n. has_barriers_at drains node && (nat_lt 0 n || (barrier && nat_lt 0 (open_on_at tree node)))) no_barrier
      ∙ ap (λ n. has_barriers_at drains node && (false || (barrier && nat_lt 0 n))) none
      ∙ ap (λ b. has_barriers_at drains node && b) (and_false barrier)
      ∙ and_false (has_barriers_at drains node)
