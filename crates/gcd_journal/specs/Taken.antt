-- What a machine has taken of events.
use Rattle.std.specs.Prelude.{ℕ, List, Option, Some, None, take}
use Rattle.gcd_plan.specs.PlanView.{PlanView}
use Rattle.gcd_event.specs.declared.event.Event.{Event}
use Rattle.gcd_history.specs.History.{IsLawful}
use Rattle.gcd_machine.specs.Stands.{StandsFor}
use Rattle.gcd_refinement.specs.MachineView.{MachineView}
use Rattle.gcd_journal.specs.Judged.{IsFirstBarred}

-- a machine has taken the events up to the first that is not permitted, which is at this index; None: each is, and it has taken all
abbrev pub HasTaken : PlanView → List Event → MachineView → Option ℕ → Type 0
HasTaken plan h machine None = IsLawful plan h × StandsFor machine plan h
HasTaken plan h machine (Some index) = IsFirstBarred plan h index × StandsFor machine plan (take index h)
