-- What a worker adds to the row.
use Rattle.std.specs.Prelude.{◌≡◌, ◌⊎◌, ℕ, Bool, true, not, ◌||◌, List, ◌++◌, ◌∷◌, [], drop, length, Option, MatchOption}
use Rattle.std.specs.List.{list_all}
use Rattle.gcd_event.specs.declared.event.Event.{Event}
use Rattle.gcd_history.specs.Choice.{is_work}
use Rattle.gcd_history.specs.Held.{is_of}
use Rattle.gcd_row.specs.Passes.{slots, view}
use Rattle.gcd_row.specs.Shapes.{Shape}
use Rattle.gcd_row.specs.declared.pass.RowPass.{RowPass}
use Rattle.gcd_row.specs.declared.view.View.{View}
use Rattle.gcd_pool.specs.Hands.{GoesOn, IsSettled}
use Rattle.gcd_pool.specs.Placing.{HasPlacedNone, SaysRecorded}
use Rattle.gcd_pool.specs.Turns.{AfterTurn}
use Rattle.gcd_pool.specs.declared.turn.Turn.{Turn}

-- the event is another's, or an event of a worker and not of the outside
abbrev pub is_own_work : ℕ → Event → Bool
is_own_work w e = not (is_of w e) || is_work e

-- the pass has seen no less, what it added of its own are events of a worker, and it has handed in nothing
pub record AddsWork {S : Type 0} (v w : View S) : Type 0 where
  pub worker : w.worker ≡ v.worker
  pub rest : List Event
  pub split : w.seen ≡ v.seen ++ rest
  pub work : list_all (is_own_work v.worker) rest ≡ true
  pub handed : w.handed ≡ v.handed

-- each event of k from place `length h` on is worker w's
abbrev pub IsAddedBy : ℕ → (h k : List Event) → Type 0
IsAddedBy w h k = list_all (is_of w) (drop (length h) k) ≡ true

-- where each event that has come is the worker's own, none has come
pub record AddsNone {S : Type 0} (v w : View S) : Type 0 where
  pub none : IsAddedBy v.worker v.seen w.seen → w.seen ≡ v.seen

-- where each event that has come is the worker's own, only this event has come at most
pub record AddsOnly {S : Type 0} (e : Event) (v w : View S) : Type 0 where
  pub only : IsAddedBy v.worker v.seen w.seen → (w.seen ≡ v.seen) ⊎ (w.seen ≡ v.seen ++ e ∷ [])

-- an end was put: either the turn is over, or nothing of its own has come and the cell is ready still
pub record WasEndPut {S : Type 0} (shape : S → Shape) (e : Event) (old new : RowPass S) (came : Option Turn) : Type 0 where
  pub goes : GoesOn (view old) (view new)
  pub work : AddsWork (view old) (view new)
  pub only : MatchOption came (AddsNone (view old) (view new)) (λ t. AddsOnly e (view old) (view new))
  pub recorded : MatchOption came (HasPlacedNone (view old) (view new)) (λ t. SaysRecorded e t (view old) (view new))
  pub says : MatchOption came (IsSettled shape (view new) e (slots new)) (λ t. AfterTurn shape t (view new) (slots new))
