-- What worker 0 does at one go (this project's own rule).
use Rattle.std.specs.Prelude.{◌≡◌, ℕ, List, ◌++◌, Some, slice_get, take}
use Rattle.gcd_plan.specs.PlanView.{PlanView}
use Rattle.gcd_event.specs.declared.event.Event.{Event}
use Rattle.gcd_history.specs.History.{choice_of}
use Rattle.gcd_machine.specs.Calm.{IsCalm}

-- more is seen: each further event is what worker 0 chose, where nothing could come of the outside
pub record IsRushed (plan : PlanView) (h k : List Event) : Type 0 where
  pub rest : List Event
  pub split : k ≡ h ++ rest
  pub calm : (i : ℕ) (e : Event) → slice_get rest i ≡ Some e → IsCalm plan (h ++ take i rest)
  pub chosen : (i : ℕ) (e : Event) → slice_get rest i ≡ Some e → choice_of plan (h ++ take i rest) 0 0 ≡ Some e
