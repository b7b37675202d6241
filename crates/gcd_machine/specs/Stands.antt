-- The histories that a machine stands for, and what may be applied to it.
use Rattle.std.specs.Prelude.{◌<◌, ◌+◌, ◌^◌, List, length, reverse}
use Rattle.gcd_plan.specs.PlanView.{PlanView}
use Rattle.gcd_plan.specs.Validity.{IsPlan}
use Rattle.gcd_event.specs.declared.event.Event.{Event}
use Rattle.gcd_history.specs.History.{IsPermitted}
use Rattle.gcd_refinement.specs.MachineView.{MachineView}
use Rattle.gcd_refinement.specs.Shape.{PartsFit, OwnFit}
use Rattle.gcd_refinement.specs.Stands.{IsTied}

-- the plan is valid, the arrays are as long as it asks, and name what it has
pub record IsShaped (m : MachineView) : Type 0 where
  pub valid : IsPlan m.plan
  pub parts : PartsFit m.plan m
  pub own : OwnFit m.plan m

-- the machine stands for the plan and the history, the oldest event first: each part of it is of that history
unfoldable pub StandsFor : MachineView → PlanView → List Event → Type 0
StandsFor m plan h = IsTied plan (reverse h) m

-- the event is permitted after a history that the machine stands for, and there is room for it
pub record MayApply (m : MachineView) (e : Event) : Type 0 where
  pub plan : PlanView
  pub history : List Event
  pub stands : StandsFor m plan history
  pub permitted : IsPermitted plan history e
  pub room : length history + 1 < 2 ^ 32
