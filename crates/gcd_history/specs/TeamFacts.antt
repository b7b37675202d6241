-- What the laws of teams say, the oldest event first (this project's own rules).
use Rattle.std.specs.Prelude.{◌≡◌, ◌⊎◌, ◌<◌, ℕ, false, List, [], ◌∷◌, ◌++◌, Some, None, IsTrue}
use Rattle.gcd_plan.specs.PlanView.{PlanView}
use Rattle.gcd_plan.specs.declared.numbers.Run.{Run}
use Rattle.gcd_plan.specs.declared.numbers.Blk.{Blk}
use Rattle.gcd_plan.specs.declared.numbers.Obj.{Obj}
use Rattle.gcd_plan.specs.declared.numbers.Run.TheVariants.{Block, Source}
use Rattle.gcd_event.specs.declared.event.Event.{Event}
use Rattle.gcd_event.specs.declared.event.Event.TheVariants.{Act as Acted}
use Rattle.gcd_history.specs.Choice.{worker_of, is_work}
use Rattle.gcd_history.specs.Facts.{is_of_run, IsFreeWorker}
use Rattle.gcd_history.specs.History.{why, has_run, parks, is_ended, delivery_count_of, received_of, last_data_of}
use Rattle.gcd_history.specs.Held.{is_of, taken, given}
use Rattle.gcd_history.specs.Team.{of_worker, held_by}

-- a worker holds the run that it has, open and not parked, and is free where it holds none
pub record HeldRunsAreOpen (plan : PlanView) (h : List Event) : Type 0 where
  pub has : (w : ℕ) (r : Run) → held_by plan h w ≡ Some r → IsTrue (has_run plan h w r)
  pub held : (w : ℕ) (r : Run) → IsTrue (has_run plan h w r) → held_by plan h w ≡ Some r
  pub free : (w : ℕ) → held_by plan h w ≡ None → IsFreeWorker plan h w
  pub none : (w : ℕ) → IsFreeWorker plan h w → held_by plan h w ≡ None

-- no two workers hold one run
abbrev pub HeldRunsAreApart : PlanView → List Event → Type 0
HeldRunsAreApart plan h = (w v : ℕ) (r : Run) → held_by plan h w ≡ Some r → held_by plan h v ≡ Some r → w ≡ v

-- the event's worker holds nothing, and nobody holds run r
pub record FindsNobody (plan : PlanView) (h : List Event) (e : Event) (r : Run) : Type 0 where
  pub idle : held_by plan h (worker_of e) ≡ None
  pub nobodys : (w : ℕ) → held_by plan h w ≡ Some r → ⊥

-- an event that takes a run finds its worker with none, and the run with nobody
abbrev pub TakingsFindNobody : PlanView → List Event → Type 0
TakingsFindNobody plan h = (e : Event) (r : Run) → taken e ≡ Some r → why plan h e ≡ None → FindsNobody plan h e r

-- an event that gives a run back is by who holds it
abbrev pub GivingsAreTheHolders : PlanView → List Event → Type 0
GivingsAreTheHolders plan h = (e : Event) (r : Run) → given plan e ≡ Some r → why plan h e ≡ None → held_by plan h (worker_of e) ≡ Some r

-- an act, a misuse and an end of a run are by who holds it
abbrev pub OwnEventsAreTheHolders : PlanView → List Event → Type 0
OwnEventsAreTheHolders plan h = (e : Event) (r : Run) → IsTrue (is_of_run r e) → why plan h e ≡ None → held_by plan h (worker_of e) ≡ Some r

-- no act of a handler parks
abbrev pub ParkingActsAreBlocks : PlanView → Type 0
ParkingActsAreBlocks plan = (w i : ℕ) (s : Obj) → parks plan (Acted w (Source s) i) ≡ false

-- what came of source s is what had come of it before
pub record SourceWaits (plan : PlanView) (h later : List Event) (s : ℕ) : Type 0 where
  pub times : delivery_count_of (h ++ later) s ≡ delivery_count_of h s
  pub received : received_of plan (h ++ later) s ≡ received_of plan h s
  pub value : last_data_of plan (h ++ later) s ≡ last_data_of plan h s

-- while worker w holds a run, the events of others do not end its block, nor deliver to its source
pub record CellsWait (plan : PlanView) (h later : List Event) : Type 0 where
  pub bodies : (w : ℕ) (b : Blk) → held_by plan h w ≡ Some (Block b) → of_worker w later ≡ [] → is_ended (h ++ later) b.0 ≡ is_ended h b.0
  pub handlers : (w : ℕ) (s : Obj) → held_by plan h w ≡ Some (Source s) → of_worker w later ≡ [] → SourceWaits plan h later s.0

-- no event of any worker is permitted, but for those of the outside
abbrev pub NoWork : PlanView → List Event → Type 0
NoWork plan h = (e : Event) → IsTrue (is_work e) → why plan h e ≡ None → ⊥

-- nobody holds run r
abbrev pub IsNobodys : PlanView → List Event → Run → Type 0
IsNobodys plan h r = (w : ℕ) → held_by plan h w ≡ Some r → ⊥

-- a run that is nobody's after the event was given by it, or was nobody's before and is not taken
abbrev pub ComesHome : PlanView → List Event → Event → Type 0
ComesHome plan h e = (r : Run) → IsNobodys plan (h ++ e ∷ []) r → (given plan e ≡ Some r) ⊎ (IsNobodys plan h r × (taken e ≡ Some r → ⊥))

-- after the event its worker has the run that it took, and none where it gave one; what others have stays
pub record HeldAfter (plan : PlanView) (h : List Event) (e : Event) : Type 0 where
  pub took : (r : Run) → taken e ≡ Some r → held_by plan (h ++ e ∷ []) (worker_of e) ≡ Some r
  pub gave : (r : Run) → given plan e ≡ Some r → held_by plan (h ++ e ∷ []) (worker_of e) ≡ None
  pub others : (w : ℕ) → is_of w e ≡ false → held_by plan (h ++ e ∷ []) w ≡ held_by plan h w
  pub same : taken e ≡ None → given plan e ≡ None → (w : ℕ) → held_by plan (h ++ e ∷ []) w ≡ held_by plan h w

-- every event is worker 0's
abbrev pub IsOneWorkers : List Event → Type 0
IsOneWorkers h = (w : ℕ) → 0 < w → of_worker w h ≡ []
