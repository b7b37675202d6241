-- When a block that waits may start, and a handler may run, by what the parts hold. The rule itself, with its order of
-- reasons, is the plan's (`StartRule`); here is what the parts tell it.
use Rattle.std.specs.Prelude.{ℕ, ◌==◌, nat_lt, Bool, true, false, not, ◌&&◌, List, [], ◌∷◌, Option, Some, None, slice_get}
use Rattle.std.specs.Option.{option_map_or}
use Rattle.gcd_plan.specs.StartRule.{Knowledge, first_of, start_reasons, run_reasons, is_fenced}
use Rattle.gcd_plan.specs.declared.numbers.Obj.{Obj}
use Rattle.gcd_plan.specs.declared.why.Why.{Why}
use Rattle.gcd_plan.specs.declared.why.Why.TheVariants.{Unready}
use Rattle.gcd_lists.specs.ListsView.{ListsView, list_at, place_of}
use Rattle.gcd_tree.specs.TreeView.{TreeView, is_moving_at, open_on_at, chain_at, open_beneath_at}
use Rattle.gcd_hold.specs.HoldsView.{HoldsView, hold_at, is_active_at}
use Rattle.gcd_drain.specs.DrainsView.{DrainsView, barriers_at, is_exclusive_at, has_barriers_at}

-- object o is active, with hold 0, and not about to move (dispatch_suspend(3), dispatch_activate(3),
-- dispatch_set_target_queue(3))
abbrev pub is_free_by : TreeView → HoldsView → ℕ → Bool
is_free_by tree holds o = is_active_at holds o && (hold_at holds o == 0 && not (is_moving_at tree o))

-- a run is open beneath object o
abbrev pub is_open_beneath_at : TreeView → ℕ → Bool
is_open_beneath_at tree o = nat_lt 0 (open_beneath_at tree o)

-- object o is a serial queue or a source, and a run is open beneath it
abbrev pub excludes_at : DrainsView → TreeView → ℕ → Bool
excludes_at drains tree o = is_exclusive_at drains o && is_open_beneath_at tree o

-- what the parts tell of the objects, for the start rule
abbrev pub knowledge_of : DrainsView → TreeView → HoldsView → Knowledge
knowledge_of drains tree holds = record {
  is_free = is_free_by tree holds;
  is_exclusive = is_exclusive_at drains;
  is_open_beneath = is_open_beneath_at tree;
}

-- another block than b is first on the node (dispatch_queue_create(3))
abbrev pub is_behind_at : ListsView → ℕ → ℕ → Bool
is_behind_at lists b node = option_map_or (λ first. not (first.0.0 == b)) (slice_get (list_at lists node) 0) false

-- the barrier rule keeps a block of the node from starting (dispatch_barrier_async(3))
abbrev pub is_fenced_at : DrainsView → TreeView → (barrier : Bool) → ℕ → Bool
is_fenced_at drains tree barrier node =
    is_fenced (has_barriers_at drains node) (nat_lt 0 (barriers_at drains node)) barrier (nat_lt 0 (open_on_at tree node))

-- why block b with this place may not start: each reason with its test, in order. Without a place it is not submitted, or
-- has started
abbrev pub place_reasons : DrainsView → ListsView → TreeView → HoldsView → ℕ → Option (Obj × Bool) → List (Why × Bool)
place_reasons drains lists tree holds b None = (Unready, true) ∷ []
place_reasons drains lists tree holds b (Some place) =
    start_reasons (knowledge_of drains tree holds) (chain_at tree place.0.0) (is_behind_at lists b place.0.0)
    (is_fenced_at drains tree place.1 place.0.0)

-- the first reason why block b may not start, or None (dispatch_async(3))
abbrev pub start_fault_of : DrainsView → ListsView → TreeView → HoldsView → ℕ → Option Why
start_fault_of drains lists tree holds b = first_of (place_reasons drains lists tree holds b (place_of lists b))

-- the first reason why the handler of source s, to which something is pending, may not run, or None
-- (dispatch_source_create(3))
abbrev pub run_fault_of : DrainsView → TreeView → HoldsView → ℕ → Option Why
run_fault_of drains tree holds s = first_of (run_reasons (knowledge_of drains tree holds) (chain_at tree s))
