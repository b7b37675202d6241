-- What a recorder says of its steps. Others may have recorded events of workers meanwhile.
use Rattle.std.specs.Prelude.{◌≡◌, ◌≤◌, ℕ, true, false, List, [], ◌∷◌, ◌++◌, Option, Some, None, length, drop}
use Rattle.std.specs.List.{list_all}
use Rattle.gcd_plan.specs.PlanView.{PlanView}
use Rattle.gcd_event.specs.declared.event.Event.{Event}
use Rattle.gcd_event.specs.declared.event.Event.TheVariants.{Halt}
use Rattle.gcd_history.specs.Choice.{is_work, worker_of}
use Rattle.gcd_history.specs.Facts.{is_of_callers}
use Rattle.gcd_history.specs.History.{IsLawful, why}
use Rattle.gcd_machine.specs.Stands.{StandsFor}
use Rattle.gcd_machine.specs.declared.put.Put.{Put}
use Rattle.gcd_machine.specs.declared.put.Put.TheVariants.{Placed as PutPlaced, Barred, Held, Full}
use Rattle.gcd_refinement.specs.MachineView.{MachineView}
use Rattle.gcd_turn.specs.Turns.{OutlookView}
use Rattle.gcd_loop.specs.declared.recorder.Step.{Step}
use Rattle.gcd_loop.specs.declared.recorder.Step.TheVariants.{Placed, Waited, Stopped, Over}

-- the plan of a run, and how many events the run may have
pub record Bounds : Type 0 where
  pub plan : PlanView
  pub most : ℕ

-- the machine stands for what is seen, which has at most `most` events
pub record IsSight (most : ℕ) (plan : PlanView) (h : List Event) (m : MachineView) : Type 0 where
  pub own : m.plan ≡ plan
  pub stands : StandsFor m plan h
  pub few : length h ≤ most

-- an event of poller or clock: it is worker 0's, and not of outside callers
pub record IsOutside (e : Event) : Type 0 where
  pub by : worker_of e ≡ 0
  pub no_work : is_work e ≡ false
  pub uncalled : is_of_callers e ≡ false

-- more is seen: events of workers
pub record Grows (h k : List Event) : Type 0 where
  pub rest : List Event
  pub split : k ≡ h ++ rest
  pub work : list_all is_work rest ≡ true

-- the event stands last, with n events before it, behind events of workers at most
pub record IsPlaced (n : ℕ) (e : Event) (h k : List Event) : Type 0 where
  pub front : List Event
  pub grown : Grows h front
  pub is : k ≡ front ++ e ∷ []
  pub place : n ≡ length front

-- what `put` says: a Halt is never held
abbrev pub Says : (most : ℕ) → PlanView → Event → List Event → List Event → Put → Type 0
Says most plan e h k (PutPlaced n) = IsPlaced n e h k
Says most plan e h k (Barred at y) = Grows h k × (at ≡ length k) × (why plan k e ≡ Some y)
Says most plan e h k (Held by passed) = Grows h k × (e ≡ Halt → ⊥)
Says most plan e h k Full = Grows h k × (length k ≡ most)

-- an Accept or a Shut was put
pub record IsAdmitted (most : ℕ) (plan : PlanView) (h k : List Event) (answer : Put) : Type 0 where
  pub event : Event
  pub called : is_of_callers event ≡ true
  pub said : Says most plan event h k answer

-- what `admit` says: an Accept or a Shut was put, or none was, and nothing more is seen
abbrev pub Admits : (most : ℕ) → PlanView → (h k : List Event) → Option Put → Type 0
Admits most plan h k None = k ≡ h
Admits most plan h k (Some answer) = IsAdmitted most plan h k answer

-- after a step the next may come, or the turn is stopped, or the run has ended
abbrev pub After : (ready stopped ended : Type 0) → Step → Type 0
After ready stopped ended Placed = ready
After ready stopped ended Waited = ready
After ready stopped ended Stopped = stopped
After ready stopped ended Over = ended

-- more is seen, which is lawful, and no more than there can be
pub record IsGrown (most : ℕ) (plan : PlanView) (h k : List Event) : Type 0 where
  pub grows : Grows h k
  pub lawful : IsLawful plan k
  pub few : length k ≤ most

-- the event was put
pub record WasPut (bounds : Bounds) (e : Event) (h k : List Event) : Type 0 where
  pub answer : Put
  pub said : Says bounds.most bounds.plan e h k answer
  pub lawful : IsLawful bounds.plan k
  pub few : length k ≤ bounds.most

-- what is kept after what was told was put: it is dropped from the news, unless it is to be put again
abbrev pub after_put : Put → OutlookView → OutlookView
after_put (PutPlaced n) o = record o { news = drop 1 o.news }
after_put (Barred at y) o = record o { news = drop 1 o.news }
after_put (Held by passed) o = o
after_put Full o = o

-- the first of the news was put
pub record WasTold (bounds : Bounds) (e : Event) (h k : List Event) (o u : OutlookView) : Type 0 where
  pub put : WasPut bounds e h k
  pub kept : u ≡ after_put put.answer o
