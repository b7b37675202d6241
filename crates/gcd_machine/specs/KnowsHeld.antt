-- What a machine knows of held chains, beside what it keeps (dispatch_suspend(3), dispatch_activate(3), dispatch_set_target_queue(3)).
use Rattle.std.specs.Prelude.{◌≡◌, Bool, List, length}
use Rattle.gcd_tree.specs.TreeView.{TreeView}
use Rattle.gcd_hold.specs.HoldsView.{HoldsView}
use Rattle.gcd_drain.specs.Held.{AreHeld}

-- the holds are of the tree's objects, and the list says of each whether its chain is held
pub record KnowsHeld (held : List Bool) (tree : TreeView) (holds : HoldsView) : Type 0 where
  pub long : length holds.holds ≡ length tree.targets
  pub are : AreHeld held tree holds
