-- What the acts of a plan ask a run to keep of each block. Of a plan without such an act nothing is kept (this project's own rule).
use Rattle.std.specs.Prelude.{◌≡◌, ℕ, Bool, true, false, ◌||◌, if◌then◌else◌, length, is_some}
use Rattle.std.specs.List.{list_any}
use Rattle.gcd_plan.specs.PlanView.{PlanView, ObjView, BlkView}
use Rattle.gcd_plan.specs.Effects.{Submits, nothing, at_once, strip_to, once_empty, once_ended, Awaits, goes_on, end_of_own, end_of, empty_group, turn_at, ends_of, effects, parks}
use Rattle.gcd_plan.specs.declared.act.Act.{Act}
use Rattle.gcd_plan.specs.declared.needs.Needs.{Needs}

-- it waits for the end of a block that it does not submit
abbrev pub is_for_end : Awaits → Bool
is_for_end goes_on = false
is_for_end (end_of_own b) = false
is_for_end (end_of b) = true
is_for_end (empty_group g) = false
is_for_end (turn_at s) = false
is_for_end (ends_of a) = false

-- it submits a block once another has ended
abbrev pub is_once_ended : Submits → Bool
is_once_ended nothing = false
is_once_ended (at_once q b barrier) = false
is_once_ended (strip_to q a) = false
is_once_ended (once_empty g q b) = false
is_once_ended (once_ended b q c) = true

-- the act cancels a block, waits for its end, or submits another once it has ended (dispatch_block_cancel(3), dispatch_block_wait(3),
-- dispatch_block_notify(3))
abbrev pub is_of_block : Act → Bool
is_of_block act = is_some (effects act).cancels_block || is_for_end (effects act).awaits || is_once_ended (effects act).submits

-- the act waits with a limit (dispatch_semaphore_wait(3), dispatch_group_wait(3))
abbrev pub has_limit : Act → Bool
has_limit act = is_some (effects act).limit

-- an act of the block, and of the object's handler, passes the test
abbrev pub is_in_block : (Act → Bool) → BlkView → Bool
is_in_block p b = list_any p b.acts

abbrev pub is_in_handler : (Act → Bool) → ObjView → Bool
is_in_handler p o = list_any p o.handler

-- some act of the plan passes the test
abbrev pub has_act : (Act → Bool) → PlanView → Bool
has_act p plan = list_any (is_in_block p) plan.blocks || list_any (is_in_handler p) plan.objects

-- how many blocks: each if some act of the plan passes the test, otherwise none
unfoldable pub room : (Act → Bool) → PlanView → ℕ
room p plan = if has_act p plan then length plan.blocks else 0

-- of how many blocks a run keeps marks, limits and what they wait for
abbrev pub mark_room : PlanView → ℕ
mark_room plan = room is_of_block plan

abbrev pub limit_room : PlanView → ℕ
limit_room plan = room has_limit plan

abbrev pub park_room : PlanView → ℕ
park_room plan = room parks plan

-- the needs say what acts the plan has
pub record AreNeeds (needs : Needs) (plan : PlanView) : Type 0 where
  pub marks : needs.marks ≡ has_act is_of_block plan
  pub limits : needs.limits ≡ has_act has_limit plan
  pub parks : needs.parks ≡ has_act parks plan
