-- What a turn of a worker has to put, and what its answer says of that.
use Rattle.std.specs.Prelude.{◌≡◌, ◌≤◌, ◌+◌, ◌⊎◌, ℕ, length, true, Some, None}
use Rattle.gcd_plan.specs.declared.numbers.Obj.{Obj}
use Rattle.gcd_plan.specs.declared.why.Why.{Why}
use Rattle.gcd_event.specs.declared.event.Event.{Event}
use Rattle.gcd_history.specs.Choice.{is_work, worker_of}
use Rattle.gcd_history.specs.History.{choice_of, why}
use Rattle.gcd_machine.specs.Begins.{begin_of}
use Rattle.gcd_row.specs.declared.view.View.{View}
use Rattle.gcd_steal.specs.Drains.{node_of}
use Rattle.gcd_steal.specs.declared.bench.Bench.{Bench}
use Rattle.gcd_pool.specs.Duties.{begun_on}
use Rattle.gcd_pool.specs.Hands.{GoesOn}
use Rattle.gcd_pool.specs.Placing.{HasPlaced, HasPlacedNone, WasHeldUp}
use Rattle.gcd_pool.specs.Turns.{HasLaidDown}
use Rattle.gcd_pool.specs.declared.turn.Turn.{Turn}
use Rattle.gcd_pool.specs.declared.turn.Turn.TheVariants.{Left, Placed, Ended, Out, Waited, Rested, Stopped}

-- ## The event

module _ {S : Type 0} where
  -- what the worker may begin, after what it has seen, on the node of the Drain that a call found and laid down
  abbrev pub BeginsThere : View S → Bench → Bench → Event → Type 0
  BeginsThere v b c e = (laid : HasLaidDown b c) × (begin_of v.terms.plan v.seen v.worker (node_of laid.drain).0 ≡ Some e)

  -- what the worker chooses after what it has seen, its nodes from number `from` on, begins a run on this node
  abbrev pub ChoosesOn : (from : ℕ) → View S → Obj → Type 0
  ChoosesOn from v node = (e : Event) × (choice_of v.terms.plan v.seen v.worker from ≡ Some e) × (begun_on v.terms.plan v.seen e ≡ Some node)

  -- what the worker chooses; or, if that begins a run on a node, what it may begin by the Drain that the call found
  abbrev pub IsDue : (from : ℕ) → View S → Bench → Bench → Event → Type 0
  IsDue from v b c e = (choice_of v.terms.plan v.seen v.worker from ≡ Some e) ⊎ (((node : Obj) × ChoosesOn from v node) × BeginsThere v b c e)

  -- this node
  abbrev pub IsAt : Obj → View S → Obj → Type 0
  IsAt node v n = n ≡ node

  -- this event, or what the worker may begin by the Drain that the call found
  abbrev pub IsThisOr : Event → View S → Bench → Bench → Event → Type 0
  IsThisOr this v b c e = (e ≡ this) ⊎ BeginsThere v b c e

-- ## The answer

module _ {S : Type 0} where
  -- the event is not permitted after what the worker sees now, or the row is full
  abbrev pub IsBarred : Event → View S → View S → Type 0
  IsBarred e v w = ((y : Why) × (why v.terms.plan w.seen e ≡ Some y)) ⊎ (length w.seen ≡ w.terms.limits.most)

  -- of this event, which was to be put
  unfoldable pub SaysPut : Event → Turn → View S → View S → Type 0
  SaysPut e Left v w = Unit {0}
  SaysPut e Placed v w = HasPlaced e v w
  SaysPut e Ended v w = HasPlaced e v w
  SaysPut e (Out node) v w = ⊥
  SaysPut e Waited v w = IsBarred e v w
  SaysPut e Rested v w = Unit {0}
  SaysPut e Stopped v w = WasHeldUp e v w

  -- an event that was due is work of the worker and was permitted after what it had seen, and it is not permitted after what it sees now
  pub record WasOvertaken (due : View S → Bench → Bench → Event → Type 0) (v w : View S) (b c : Bench) : Type 0 where
    pub event : Event
    pub owed : due v b c event
    pub mine : worker_of event ≡ v.worker
    pub work : is_work event ≡ true
    pub may : why v.terms.plan v.seen event ≡ None
    pub reason : Why
    pub barred : why v.terms.plan w.seen event ≡ Some reason

  -- another event came first, or the row is full
  abbrev pub WasBarred : (due : View S → Bench → Bench → Event → Type 0) → View S → View S → Bench → Bench → Type 0
  WasBarred due v w b c = WasOvertaken due v w b c ⊎ (length w.seen ≡ w.terms.limits.most)

  -- a Drain was found and laid down, and the worker may begin nothing on its node
  abbrev pub BeginsNone : View S → Bench → Bench → Type 0
  BeginsNone w b c = (laid : HasLaidDown b c) × (begin_of w.terms.plan w.seen w.worker (node_of laid.drain).0 ≡ None)

  -- of what is due: it was placed (`Placed`, `Ended`), another event came first or the row is full (`Waited`), or a passed word held it
  -- (`Stopped`). Only for a run that was to begin on a node `Waited` may also tell that nothing may begin on the node of the Drain that was
  -- found, and `Out` that there was none
  unfoldable pub SaysDue : (due : View S → Bench → Bench → Event → Type 0) → (on : View S → Obj → Type 0) → Turn → View S → View S → Bench → Bench → Type 0
  SaysDue due on Left v w b c = Unit {0}
  SaysDue due on Placed v w b c = (e : Event) × due v b c e × HasPlaced e v w
  SaysDue due on Ended v w b c = (e : Event) × due v b c e × HasPlaced e v w
  SaysDue due on (Out node) v w b c = on v node
  SaysDue due on Waited v w b c = WasBarred due v w b c ⊎ (((node : Obj) × on v node) × BeginsNone w b c)
  SaysDue due on Rested v w b c = Unit {0}
  SaysDue due on Stopped v w b c = (e : Event) × due v b c e × WasHeldUp e v w

-- ## After a look

module _ {S : Type 0} where
  -- this holds of what the worker knew at a moment between the two, until which it had placed nothing
  pub record Later (told : View S → Type 0) (v w : View S) : Type 0 where
    pub then : View S
    pub first : GoesOn v then
    pub quiet : HasPlacedNone v then
    pub rest : GoesOn then w
    pub says : told then

  -- the row was left to others, since three events or more came in the call
  abbrev pub LeavesRow : Turn → View S → View S → Type 0
  LeavesRow t v w = (t ≡ Waited) × (length v.seen + 3 ≤ length w.seen)

  -- only worker 0 stops before its turn: memory was refused to its journal
  abbrev pub StopsAtOnce : Turn → View S → Type 0
  StopsAtOnce t v = (t ≡ Stopped) × (v.worker ≡ 0)

  -- or the turn says so of what was due after a look
  abbrev pub SaysFree : (from : ℕ) → Turn → View S → View S → Bench → Bench → Type 0
  SaysFree from t v w b c = LeavesRow t v w ⊎ StopsAtOnce t v ⊎ Later (λ u. SaysDue (IsDue from) (ChoosesOn from) t u w b c) v w
