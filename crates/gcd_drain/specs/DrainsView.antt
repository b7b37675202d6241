-- The open barriers on the objects of a plan, and the kinds of the objects, as their readers see them: plain lists by
-- object (dispatch_barrier_async(3)).
use Rattle.std.specs.Prelude.{◌≡◌, ℕ, ◌==◌, Bool, false, not, ◌&&◌, List, length, map, replicate, slice_get, slice_index, slice_set}
use Rattle.std.specs.Option.{option_map_or}
use Rattle.gcd_plan.specs.PlanView.{PlanView}
use Rattle.gcd_plan.specs.Kinds.{is_exclusive_kind, is_concurrent_kind}
use Rattle.gcd_plan.specs.declared.kind.Kind.{Kind}

-- what is kept of the objects, by number: how many barriers are open on the object, and its kind
pub record DrainsView : Type 0 where
  pub barriers : List ℕ
  pub kinds : List Kind

-- a plan's objects before the first event: no barrier is open
abbrev pub drains_of : PlanView → DrainsView
drains_of plan = record {
  barriers = replicate (length plan.objects) 0;
  kinds = map (λ o. o.kind) plan.objects;
}

-- how many barriers are open on object o
abbrev pub barriers_at : DrainsView → ℕ → ℕ
barriers_at view o = slice_index view.barriers o

-- object o is of such a kind
abbrev pub has_kind_at : (Kind → Bool) → DrainsView → ℕ → Bool
has_kind_at test view o = option_map_or test (slice_get view.kinds o) false

-- object o is a serial queue or a source, beneath which one run at a time is open
abbrev pub is_exclusive_at : DrainsView → ℕ → Bool
is_exclusive_at view o = has_kind_at is_exclusive_kind view o

-- object o is a concurrent queue other than root, on which barriers count (dispatch_barrier_async(3))
abbrev pub has_barriers_at : DrainsView → ℕ → Bool
has_barriers_at view o = not (o == 0) && has_kind_at is_concurrent_kind view o

-- the same with n barriers open on object o
abbrev pub with_barriers : DrainsView → ℕ → ℕ → DrainsView
with_barriers view o n = record view { barriers = slice_set view.barriers o n }

-- the lists are equally long
pub record AreAsMany (view : DrainsView) : Type 0 where
  pub kinds : length view.kinds ≡ length view.barriers
