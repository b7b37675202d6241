-- Of a plan with an act that needs it, something is kept of each block.
use Rattle.std.proofs.Common.{◌≡◌, ℕ, ◌<◌, Bool, true, false, ◌||◌, cond, List, [], length, get_or, Option, None, Some, inl, inr, refl, sym, ap, ◌∙◌}
use Rattle.std.specs.List.{list_any, slice_get}
use Rattle.std.specs.Option.{option_map_or}
use Rattle.std.proofs.lemmas.Bool.{cases_lt, or_left, or_right}
use Rattle.std.proofs.lemmas.List.{get_or_past}
use Rattle.std.proofs.lemmas.Map.Keys.{any_passes_from_place}
use Rattle.std.proofs.lemmas.Option.{none-some}
use Rattle.gcd_plan.specs.Effects.{Awaits, goes_on, end_of_own, end_of, empty_group, turn_at, ends_of, effects, effects_of, parks_for, parks}
use Rattle.gcd_plan.specs.Needs.{is_in_block, is_in_handler, has_act, has_limit, room, limit_room, park_room}
use Rattle.gcd_plan.specs.PlanView.{PlanView, ObjView, BlkView}
use Rattle.gcd_plan.specs.declared.act.Act.{Act}
use Rattle.gcd_plan.specs.declared.act.Act.TheVariants.{GroupWaitFor, WaitFor}
use Rattle.gcd_plan.specs.declared.numbers.Blk.{Blk}
use Rattle.gcd_plan.specs.declared.numbers.Run.{Run}
use Rattle.gcd_plan.specs.declared.numbers.Run.TheVariants.{Block, Source}
use Rattle.gcd_plan.specs.declared.reason.Reason.{Reason}
use Rattle.gcd_event.specs.declared.event.Event.{Event}
use Rattle.gcd_event.specs.declared.event.Event.TheVariants.{Act as Acted}
use Rattle.gcd_history.specs.Parked.{reason_of, awaited_by}
use Rattle.gcd_history.specs.Runs.{act_at, act_of}
use Rattle.gcd_refinement.specs.MachineView.{MachineView}
use Rattle.gcd_refinement.specs.AfterLimits.{limit_in_view}

module _ (p : Act → Bool) (plan : PlanView) where
  whole : has_act p plan ≡ true → room p plan ≡ length plan.blocks
  unfolding room
  whole h = ap (λ v. cond {A = ℕ} v (length plan.blocks) 0) h

  -- where an act of the plan is one
  pub room_of_act : (run : Run) (i : ℕ) (act : Act) → act_at plan run i ≡ Some act → p act ≡ true → room p plan ≡ length plan.blocks
  room_of_act (Block b) i act at of = by (slice_get plan.blocks b.0) refl at
    where
      by : (o : Option BlkView) → slice_get plan.blocks b.0 ≡ o → slice_get (option_map_or (λ (blk : BlkView). blk.acts) o []) i ≡ Some act → room p plan ≡ length plan.blocks
      by None is here = cc
      by (Some blk) is here =
          whole (or_left (list_any (is_in_block p) plan.blocks) (list_any (is_in_handler p) plan.objects) (any_passes_from_place (is_in_block p) plan.blocks b.0 blk is (any_passes_from_place p blk.acts i act here of)))
  room_of_act (Source s) i act at of = by (slice_get plan.objects s.0) refl at
    where
      by : (o : Option ObjView) → slice_get plan.objects s.0 ≡ o → slice_get (option_map_or (λ (obj : ObjView). obj.handler) o []) i ≡ Some act → room p plan ≡ length plan.blocks
      by None is here = cc
      by (Some obj) is here =
          whole (or_right (list_any (is_in_block p) plan.blocks) (list_any (is_in_handler p) plan.objects) (any_passes_from_place (is_in_handler p) plan.objects s.0 obj is (any_passes_from_place p obj.handler i act here of)))

  -- where an event records one
  pub room_at : (e : Event) (act : Act) → act_of plan e ≡ Some act → p act ≡ true → room p plan ≡ length plan.blocks
  room_at (Acted w run i) act at of = room_of_act run i act at of
  room_at e act at of = cc

-- an act that begins a wait with a limit
limited : (v : MachineView) (act : Act) (n : ℕ) → limit_in_view v (Some act) ≡ Some n → has_limit act ≡ true
limited v (GroupWaitFor g ms) n is = refl
limited v (WaitFor s ms) n is = refl
limited v act n is = cc

pub room_of_limit : (plan : PlanView) (v : MachineView) (b : Blk) (i n : ℕ) → limit_in_view v (act_at plan (Block b) i) ≡ Some n → limit_room plan ≡ length plan.blocks
room_of_limit plan v b i n is = by (act_at plan (Block b) i) refl is
  where
    by : (o : Option Act) → act_at plan (Block b) i ≡ o → limit_in_view v o ≡ Some n → limit_room plan ≡ length plan.blocks
    by None at told = cc
    by (Some act) at told = room_of_act has_limit plan (Block b) i act at (limited v act n told)

-- an act that begins a wait
awaiting : (plan : PlanView) (past : List Event) (awaits : Awaits) (why : Reason) → reason_of plan past awaits ≡ Some why → parks_for awaits ≡ true
awaiting plan past goes_on why is = absurd (none-some why is)
awaiting plan past (end_of_own b) why is = refl
awaiting plan past (end_of b) why is = refl
awaiting plan past (empty_group g) why is = refl
awaiting plan past (turn_at s) why is = refl
awaiting plan past (ends_of a) why is = refl

pub room_of_wait : (plan : PlanView) (past : List Event) (b : Blk) (i : ℕ) (why : Reason) → awaited_by plan past (act_at plan (Block b) i) ≡ Some why → park_room plan ≡ length plan.blocks
room_of_wait plan past b i why is = by (act_at plan (Block b) i) refl is
  where
    by : (o : Option Act) → act_at plan (Block b) i ≡ o → awaited_by plan past o ≡ Some why → park_room plan ≡ length plan.blocks
    by None at told = absurd (none-some why told)
    by (Some act) at told = room_of_act parks plan (Block b) i act at (awaiting plan past (effects act).awaits why told)

-- a place at which something stands is within the list
pub kept_within : (reasons : List (Option Reason)) (b : ℕ) (why : Reason) → get_or reasons b None ≡ Some why → b < length reasons
kept_within reasons b why is =
    elim (cases_lt b (length reasons)) [
      | inl low ↦ low
      | inr past ↦ absurd (none-some why (sym (get_or_past reasons b None past) ∙ is))
    ]
