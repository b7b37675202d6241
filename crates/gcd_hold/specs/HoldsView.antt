-- The holds on the objects of a plan, and which objects are active, as their readers see them: plain lists by object
-- (dispatch_suspend(3), dispatch_activate(3)).
use Rattle.std.specs.Prelude.{◌≡◌, ℕ, ◌==◌, Bool, true, false, not, ◌&&◌, List, length, map, replicate, slice_index, slice_index_or, slice_set}
use Rattle.gcd_plan.specs.PlanView.{PlanView}
use Rattle.gcd_plan.specs.Kinds.{is_source_kind}

-- what is kept of the objects, by number: the hold, whether the object is active, and whether it is a source
pub record HoldsView : Type 0 where
  pub holds : List ℕ
  pub active : List Bool
  pub sources : List Bool

-- a plan's holds before the first event: all are 0, and active is what is created active
abbrev pub holds_of : PlanView → HoldsView
holds_of plan = record {
  holds = replicate (length plan.objects) 0;
  active = map (λ o. o.active) plan.objects;
  sources = map (λ o. is_source_kind o.kind) plan.objects;
}

-- the hold of object o; past the end that is 0
abbrev pub hold_at : HoldsView → ℕ → ℕ
hold_at view o = slice_index view.holds o

-- object o is active
abbrev pub is_active_at : HoldsView → ℕ → Bool
is_active_at view o = slice_index_or view.active o false

-- object o is a source
abbrev pub is_source_at : HoldsView → ℕ → Bool
is_source_at view o = slice_index_or view.sources o false

-- object o is active, with hold 0
abbrev pub is_free_at : HoldsView → ℕ → Bool
is_free_at view o = is_active_at view o && hold_at view o == 0

-- a resume of object o is one too many: the hold is 0, and the object is not an inactive source (dispatch_resume(3))
abbrev pub is_over_resumed_at : HoldsView → ℕ → Bool
is_over_resumed_at view o = hold_at view o == 0 && not (is_source_at view o && not (is_active_at view o))

-- the same with n as the hold of object o, and with object o active
abbrev pub with_hold : HoldsView → ℕ → ℕ → HoldsView
with_hold view o n = record view { holds = slice_set view.holds o n }

abbrev pub with_active : HoldsView → ℕ → HoldsView
with_active view o = record view { active = slice_set view.active o true }

-- the lists are equally long
pub record AreAsMany (view : HoldsView) : Type 0 where
  pub active : length view.active ≡ length view.holds
  pub sources : length view.sources ≡ length view.holds
