-- What is said of an event that is not permitted.
use Rattle.std.specs.Prelude.{◌≡◌, ℕ, List, Option, Some, None, slice_get, take}
use Rattle.gcd_plan.specs.PlanView.{PlanView}
use Rattle.gcd_plan.specs.declared.why.Why.{Why}
use Rattle.gcd_event.specs.declared.event.Event.{Event}
use Rattle.gcd_history.specs.History.{why}
use Rattle.gcd_why.specs.declared.barred.Barred.{Barred}

-- the event at this index, from 0, is not permitted after those before it, for this reason
pub record IsBarred (plan : PlanView) (h : List Event) (index : ℕ) (event : Event) (reason : Why) : Type 0 where
  pub there : slice_get h index ≡ Some event
  pub barred : why plan (take index h) event ≡ Some reason

-- what is found at this index: the event, if it is not permitted, with the reason; None: there is no event, or it is permitted
abbrev pub Bars : PlanView → List Event → ℕ → Option Barred → Type 0
Bars plan h index (Some b) = (b.index ≡ index) × IsBarred plan h index b.event b.reason
Bars plan h index None = (event : Event) → slice_get h index ≡ Some event → why plan (take index h) event ≡ None
