-- What the checker says of events.
use Rattle.std.specs.Prelude.{◌≡◌, ⊤, ℕ, List, Some, slice_get, take, IsSome}
use Rattle.gcd_plan.specs.PlanView.{PlanView}
use Rattle.gcd_event.specs.declared.event.Event.{Event}
use Rattle.gcd_history.specs.declared.state.State.{State}
use Rattle.gcd_history.specs.History.{why, IsLawful}
use Rattle.gcd_history.specs.Ends.{HasState}
use Rattle.gcd_journal.specs.declared.checker.CheckFault.{CheckFault}
use Rattle.gcd_journal.specs.declared.checker.CheckFault.TheVariants.{Unlawful, Memory}

-- the events are lawful, and have come to this state
pub record IsLawfulWith (plan : PlanView) (h : List Event) (state : State) : Type 0 where
  pub lawful : IsLawful plan h
  pub state_is : HasState plan h state

-- the event at this index, from 0, is the first that is not permitted
pub record IsFirstBarred (plan : PlanView) (h : List Event) (index : ℕ) : Type 0 where
  pub event : Event
  pub there : slice_get h index ≡ Some event
  pub front : IsLawful plan (take index h)
  pub barred : IsSome (why plan (take index h) event)

-- what the checker's fault says of the events
abbrev pub IsFaultOf : PlanView → List Event → CheckFault → Type 0
IsFaultOf plan h (Unlawful index) = IsFirstBarred plan h index
IsFaultOf plan h Memory = ⊤
