-- What holds between the turns of what the clock said: the invariant from which the promises follow.
use Rattle.std.specs.Prelude.{◌≡◌, ◌≤◌, ◌+◌, ◌++◌, ◌⊎◌, ℕ, Bool, true, List, Contains}
use Rattle.gcd_plan.specs.PlanView.{PlanView}
use Rattle.gcd_event.specs.declared.event.Event.{Event}
use Rattle.gcd_event.specs.declared.event.Event.TheVariants.{Tick}
use Rattle.gcd_outer.specs.Outside.{ClockState}
use Rattle.gcd_turn.specs.Promises.{IsDueMoment}

-- The first turn began at the start, which is the clock's present before the calls where it tells; no Tick is ahead of the
-- clock; and the greatest moment waited for is as it was, or a due time after the start.
pub record TimeKept (tells : Bool) (plan : PlanView) (stood placed : List Event) (before now : ClockState) (start : ℕ) : Type 0 where
  pub since : before.present ≤ start
  pub reached : start ≤ now.present
  pub exact : tells ≡ true → start ≡ before.present
  pub ticks : (t : ℕ) → Contains placed (Tick t) → start + t ≤ now.present
  pub waited : tells ≡ true → (now.waited ≡ before.waited) ⊎ IsDueMoment plan (stood ++ placed) start now.waited
