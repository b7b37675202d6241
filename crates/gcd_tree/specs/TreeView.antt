-- A tree of targets as its readers see it: plain lists by object (dispatch_set_target_queue(3)).
use Rattle.std.specs.Prelude.{ℕ, ◌==◌, Bool, not, false, ◌&&◌, ◌||◌, if◌then◌else◌, List, length, map, replicate, Option, Some, None, is_some, option_map, unwrap_or, slice_index, slice_index_or, slice_set, sum_by}
use Rattle.std.specs.Option.{option_map_or}
use Rattle.std.specs.List.{list_any, range_with_len}
use Rattle.gcd_plan.specs.declared.numbers.Obj.{Obj}
use Rattle.gcd_plan.specs.PlanView.{PlanView}
use Rattle.gcd_plan.specs.Kinds.{is_node_kind}
use Rattle.gcd_plan.specs.Chains.{chain_by, is_in}

-- what is kept of the objects, by number: the target, the target that waits until no run is open on the object, how many
-- runs are open on it, and whether it is a queue or a source
pub record TreeView : Type 0 where
  pub targets : List Obj
  pub requests : List (Option Obj)
  pub open_on : List ℕ
  pub nodes : List Bool

-- a plan's tree before the first event: the first targets, no request, nothing open
abbrev pub tree_of : PlanView → TreeView
tree_of plan = record {
  targets = map (λ o. o.target) plan.objects;
  requests = replicate (length plan.objects) None;
  open_on = replicate (length plan.objects) 0;
  nodes = map (λ o. is_node_kind o.kind) plan.objects;
}

-- the target of object o in a list of targets; past the end that is root
abbrev pub target_in : List Obj → ℕ → ℕ
target_in targets o = (slice_index_or targets o (record { 0 = 0 })).0

-- the target of object o
abbrev pub target_at : TreeView → ℕ → ℕ
target_at view o = target_in view.targets o

-- the target that object o waits for, if any
abbrev pub request_at : TreeView → ℕ → Option ℕ
request_at view o = option_map (λ t. t.0) (slice_index_or view.requests o None)

-- the target of object o is about to change: it has a request
abbrev pub is_moving_at : TreeView → ℕ → Bool
is_moving_at view o = is_some (slice_index_or view.requests o None)

-- how many runs are open on object o itself
abbrev pub open_on_at : TreeView → ℕ → ℕ
open_on_at view o = slice_index view.open_on o

-- object o is a queue or a source
abbrev pub is_node_at : TreeView → ℕ → Bool
is_node_at view o = slice_index_or view.nodes o false

-- object o, its target and so on to root (dispatch_queue_create(3))
abbrev pub chain_at : TreeView → ℕ → List ℕ
chain_at view o = chain_by (target_at view) (length view.targets) o

-- an object of o's chain is moving
abbrev pub has_mover_at : TreeView → ℕ → Bool
has_mover_at view o = list_any (is_moving_at view) (chain_at view o)

-- where a walk along the targets goes from object o: to its request, and to its target where it has none
abbrev pub walk_next : TreeView → ℕ → ℕ
walk_next view o = unwrap_or (request_at view o) (target_at view o)

-- a walk from t, t itself included, reaches o, so o with the target t would be in a cycle (dispatch_set_target_queue(3))
abbrev pub would_cycle_at : TreeView → ℕ → ℕ → Bool
would_cycle_at view o t = is_in o (chain_by (walk_next view) (length view.targets) t)

-- object o is the target or the request of object p
abbrev pub aims_at : TreeView → ℕ → ℕ → Bool
aims_at view p o = target_at view p == o || option_map_or (λ t. t == o) (request_at view p) false

-- p is a queue or a source, but neither root nor o, that has o as target or as request
abbrev pub is_child_of : TreeView → ℕ → ℕ → Bool
is_child_of view o p = not (p == 0) && (is_node_at view p && (not (p == o) && aims_at view p o))

-- some object is a child of o
abbrev pub has_child_at : TreeView → ℕ → Bool
has_child_at view o = list_any (is_child_of view o) (range_with_len 0 (length view.targets))

-- how many of the runs that are open on object p are beneath object o
abbrev pub open_from : TreeView → ℕ → ℕ → ℕ
open_from view o p = if is_in o (chain_at view p) then open_on_at view p else 0

-- how many runs are open beneath object o: on the objects whose chain has o
abbrev pub open_beneath_at : TreeView → ℕ → ℕ
open_beneath_at view o = sum_by (open_from view o) (range_with_len 0 (length view.targets))

-- the same tree with another target of o, another request of o, or n runs open on o
abbrev pub with_target : TreeView → ℕ → Obj → TreeView
with_target view o t = record view { targets = slice_set view.targets o t }

abbrev pub with_request : TreeView → ℕ → Option Obj → TreeView
with_request view o request = record view { requests = slice_set view.requests o request }

abbrev pub with_open : TreeView → ℕ → ℕ → TreeView
with_open view o n = record view { open_on = slice_set view.open_on o n }

-- the request of object o, if it has one, is its target now
abbrev pub settled_to : TreeView → ℕ → Option Obj → TreeView
settled_to view o None = view
settled_to view o (Some t) = with_request (with_target view o t) o None

abbrev pub settled : TreeView → ℕ → TreeView
settled view o = settled_to view o (slice_index_or view.requests o None)
