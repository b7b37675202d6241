-- What handlers take.
use Rattle.std.specs.Prelude.{◌≡◌, ◌<◌, ◌+◌, ◌^◌, ◌++◌, ◌∷◌, [], ℕ, List, length}
use Rattle.gcd_plan.specs.PlanView.{PlanView}
use Rattle.gcd_plan.specs.declared.kind.Kind.{Kind}
use Rattle.gcd_event.specs.declared.event.Event.{Event}
use Rattle.gcd_machine.specs.Stands.{StandsFor}
use Rattle.gcd_refinement.specs.MachineView.{MachineView}
use Rattle.gcd_rounds.specs.Running.{HaveTaken}

-- the event was recorded last: the machine stands for a history with it, there was room for it in a count of 32 bits, and each handler took what had been handed over before
pub record WasRecorded {H : Type 0} (kind : H → Kind) (times total : H → ℕ) (plan : PlanView) (m : MachineView) (handlers : List H) (e : Event) : Type 0 where
  pub history : List Event
  pub stands : StandsFor m plan (history ++ e ∷ [])
  pub own : m.plan ≡ plan
  pub room : length history + 1 < 2 ^ 32
  pub taken : HaveTaken kind times total plan history handlers
