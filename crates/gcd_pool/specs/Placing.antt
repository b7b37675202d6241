-- What an answer says of the events that the worker has placed.
use Rattle.std.specs.Prelude.{◌≡◌, ◌++◌, ◌∷◌, [], ℕ, Some, None}
use Rattle.gcd_plan.specs.declared.numbers.Obj.{Obj}
use Rattle.gcd_plan.specs.declared.numbers.Run.{Run}
use Rattle.gcd_plan.specs.declared.why.Why.{Why}
use Rattle.gcd_event.specs.Owners.{begun, ended}
use Rattle.gcd_event.specs.declared.event.Event.{Event}
use Rattle.gcd_history.specs.Ends.{IsGoingOn}
use Rattle.gcd_history.specs.History.{why}
use Rattle.gcd_history.specs.Laws.{HasNoChoice}
use Rattle.gcd_history.specs.Team.{of_worker}
use Rattle.gcd_machine.specs.declared.put.Put.TheVariants.{Held}
use Rattle.gcd_row.specs.Passes.{Says}
use Rattle.gcd_row.specs.declared.view.View.{View}
use Rattle.gcd_pool.specs.Hands.{GoesOn}
use Rattle.gcd_pool.specs.declared.turn.Turn.{Turn}
use Rattle.gcd_pool.specs.declared.turn.Turn.TheVariants.{Left, Placed, Ended, Out, Waited, Rested, Stopped}

module _ {S : Type 0} where
  -- the worker has placed this event behind its own, and no other
  abbrev pub HasPlaced : Event → View S → View S → Type 0
  HasPlaced e v w = of_worker v.worker w.seen ≡ of_worker v.worker v.seen ++ e ∷ []

  -- it has placed none
  abbrev pub HasPlacedNone : View S → View S → Type 0
  HasPlacedNone v w = of_worker v.worker w.seen ≡ of_worker v.worker v.seen

  -- a passed word held this event as it was put in the call, though it was permitted
  pub record WasHeldUp (e : Event) (v w : View S) : Type 0 where
    pub before : View S
    pub after : View S
    pub by : ℕ
    pub passed : ℕ
    pub first : GoesOn v before
    pub held : Says e before after (Held by passed)
    pub since : GoesOn after w

  -- it has placed one event where it answers `Placed`, which ends no run, or `Ended`, which ends one, and else none
  unfoldable pub SaysPlaced : Turn → View S → View S → Type 0
  SaysPlaced Left v w = HasPlacedNone v w
  SaysPlaced Placed v w = (e : Event) × HasPlaced e v w × (ended e ≡ None)
  SaysPlaced Ended v w = (e : Event) × HasPlaced e v w × ((r : Run) × (ended e ≡ Some r))
  SaysPlaced (Out node) v w = HasPlacedNone v w
  SaysPlaced Waited v w = HasPlacedNone v w
  SaysPlaced Rested v w = HasPlacedNone v w
  SaysPlaced Stopped v w = HasPlacedNone v w

  -- a worker that rests has seen that the run goes on, and that no event of its own is permitted
  unfoldable pub SaysRested : Turn → View S → Type 0
  SaysRested Left v = Unit {0}
  SaysRested Placed v = Unit {0}
  SaysRested Ended v = Unit {0}
  SaysRested (Out node) v = Unit {0}
  SaysRested Waited v = Unit {0}
  SaysRested Stopped v = Unit {0}
  SaysRested Rested v = IsGoingOn v.terms.plan v.seen × HasNoChoice v.terms.plan v.seen v.worker

  -- of an event that was to be recorded: it was placed, and ends no run (`Placed`) or one (`Ended`); or none was, since the run has
  -- ended (`Left`), since the event is not permitted any more (`Waited`), or since a passed word held it (`Stopped`)
  unfoldable pub SaysRecorded : Event → Turn → View S → View S → Type 0
  SaysRecorded e Left v w = HasPlacedNone v w
  SaysRecorded e Placed v w = HasPlaced e v w × (ended e ≡ None)
  SaysRecorded e Ended v w = HasPlaced e v w × ((r : Run) × (ended e ≡ Some r))
  SaysRecorded e (Out node) v w = ⊥
  SaysRecorded e Waited v w = HasPlacedNone v w × ((y : Why) × (why w.terms.plan w.seen e ≡ Some y))
  SaysRecorded e Rested v w = ⊥
  SaysRecorded e Stopped v w = HasPlacedNone v w × WasHeldUp e v w

  -- of a run that was to begin: an event that begins one was placed (`Placed`); or none was (`Waited`, `Stopped`), or this node's
  -- Drain is out
  unfoldable pub SaysBegun : Obj → Turn → View S → View S → Type 0
  SaysBegun n Left v w = ⊥
  SaysBegun n Placed v w = (e : Event) × HasPlaced e v w × ((r : Run) × (begun e ≡ Some r))
  SaysBegun n Ended v w = ⊥
  SaysBegun n (Out node) v w = (node ≡ n) × HasPlacedNone v w
  SaysBegun n Waited v w = HasPlacedNone v w
  SaysBegun n Rested v w = ⊥
  SaysBegun n Stopped v w = HasPlacedNone v w
