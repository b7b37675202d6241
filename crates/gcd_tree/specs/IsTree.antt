-- What holds of every tree of targets.
use Rattle.std.specs.Prelude.{◌≡◌, ℕ, ◌<◌, ◌≤◌, Bool, true, false, None, List, length, slice_index, slice_index_or}
use Rattle.gcd_plan.specs.declared.numbers.Obj.{Obj}
use Rattle.gcd_plan.specs.Chains.{chain_by, is_in}
use Rattle.gcd_plan.specs.Limits.{max_objects}
use Rattle.gcd_tree.specs.TreeView.{TreeView, target_in, target_at, request_at, is_moving_at, open_on_at, is_node_at, chain_at, walk_next, open_beneath_at}

-- each target is an object
abbrev pub TargetsFit : List Obj → Type 0
TargetsFit targets = (o : ℕ) → o < length targets → target_in targets o < length targets

-- a tree: its lists are equally long, root first and no more objects than a plan may have; its numbers are in range; following
-- the targets, or where an object has a request that, ends at root; what is no queue or source rests at root. An object
-- with a request has an open run, and above an object with an open run none has a request. So beneath an object with a
-- request only its own runs are open.
pub record IsTree (view : TreeView) : Type 0 where
  pub root : 0 < length view.targets
  pub few : length view.targets ≤ max_objects
  pub as_many_requests : length view.requests ≡ length view.targets
  pub as_many_open_on : length view.open_on ≡ length view.targets
  pub as_many_nodes : length view.nodes ≡ length view.targets
  pub targets_fit : TargetsFit view.targets
  pub walks_fit : (o : ℕ) → o < length view.targets → walk_next view o < length view.targets
  pub chains_end : (o : ℕ) → o < length view.targets → is_in 0 (chain_at view o) ≡ true
  pub walks_end : (o : ℕ) → o < length view.targets → is_in 0 (chain_by (walk_next view) (length view.targets) o) ≡ true
  pub root_stays : request_at view 0 ≡ None
  pub others_rest : (o : ℕ) → o < length view.targets → is_node_at view o ≡ false → (target_at view o ≡ 0) × (request_at view o ≡ None)
  pub movers_are_open : (o : ℕ) → o < length view.targets → is_moving_at view o ≡ true → 0 < open_on_at view o
  pub open_chains_stay : (o p : ℕ) → p < length view.targets → 0 < open_on_at view p → is_in o (chain_at view p) ≡ true
      → is_moving_at view o ≡ true → o ≡ p

-- the counts say how many runs are open beneath each object
pub record CountBeneath (view : TreeView) (counts : List ℕ) : Type 0 where
  pub as_many : length counts ≡ length view.targets
  pub exact : (o : ℕ) → o < length view.targets → slice_index counts o ≡ open_beneath_at view o

-- each object that is the target of an object is marked. An object that was one may be marked too
pub record MarkTargets (targets : List Obj) (marks : List Bool) : Type 0 where
  pub as_many : length marks ≡ length targets
  pub marked : (o : ℕ) → o < length targets → slice_index_or marks (target_in targets o) false ≡ true
