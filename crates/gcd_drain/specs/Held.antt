-- Held chains: the chain of an object is held if an object of it is not free (dispatch_suspend(3), dispatch_activate(3),
-- dispatch_set_target_queue(3)).
use Rattle.std.specs.Prelude.{◌≡◌, ◌≢◌, ℕ, ◌<◌, ◌==◌, Bool, true, false, not, ◌&&◌, ◌||◌, List, length, slice_index_or}
use Rattle.std.specs.List.{list_any}
use Rattle.gcd_sets.specs.Words.{is_in_words}
use Rattle.gcd_tree.specs.TreeView.{TreeView, target_at, chain_at}
use Rattle.gcd_hold.specs.HoldsView.{HoldsView}
use Rattle.gcd_drain.specs.Rule.{is_free_by}

-- an object of o's chain is not free: inactive, suspended or about to move
abbrev pub is_chain_held_by : TreeView → HoldsView → ℕ → Bool
is_chain_held_by tree holds o = list_any (λ p. not (is_free_by tree holds p)) (chain_at tree o)

-- the list says of each object of the tree whether its chain is held
pub record AreHeld (held : List Bool) (tree : TreeView) (holds : HoldsView) : Type 0 where
  pub as_many : length held ≡ length tree.targets
  pub exact : (o : ℕ) → o < length tree.targets → slice_index_or held o false ≡ is_chain_held_by tree holds o

-- object o is not free, or the list says that the chain of its target is held
abbrev pub is_held_by_target : List Bool → TreeView → HoldsView → ℕ → Bool
is_held_by_target held tree holds o = not (is_free_by tree holds o) || (not (o == 0) && slice_index_or held (target_at tree o) false)

-- the list says of each object but one what follows from that object and from what the list says of its target
pub record AreHeldBut (held : List Bool) (tree : TreeView) (holds : HoldsView) (but : ℕ) : Type 0 where
  pub as_many : length held ≡ length tree.targets
  pub others : (o : ℕ) → o < length tree.targets → o ≢ but → slice_index_or held o false ≡ is_held_by_target held tree holds o

-- the list says of each known object whether its chain is held. The known objects stand in words of bits
pub record AreHeldIn (known : List ℕ) (held : List Bool) (tree : TreeView) (holds : HoldsView) : Type 0 where
  pub as_many : length held ≡ length tree.targets
  pub exact : (o : ℕ) → o < length tree.targets → is_in_words known o ≡ true → slice_index_or held o false ≡ is_chain_held_by tree holds o
