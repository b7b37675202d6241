-- Whether a plan has an object for which an act may wait (dispatch_group_wait(3), dispatch_semaphore_wait(3)).
use Rattle.std.specs.Prelude.{Bool, ◌||◌}
use Rattle.std.specs.List.{list_any}
use Rattle.gcd_plan.specs.Kinds.{is_group_kind, is_semaphore_kind}
use Rattle.gcd_plan.specs.PlanView.{PlanView, ObjView}

-- a group or a semaphore
abbrev pub is_awaited : ObjView → Bool
is_awaited o = is_group_kind o.kind || is_semaphore_kind o.kind

-- some object is one
abbrev pub has_awaited : PlanView → Bool
has_awaited plan = list_any is_awaited plan.objects
