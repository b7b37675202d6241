-- What a quick step does: it takes at once what a worker records next, if that is one of the three most frequent events.
use Rattle.std.specs.Prelude.{◌≡◌, ◌<◌, ◌+◌, ◌==◌, ◌^◌, ℕ, nat_lt, Bool, true, false, not, if◌then◌else◌, List, [], ◌∷◌, ◌++◌, Option, Some, None, is_some, length}
use Rattle.std.specs.Option.{option_and_then}
use Rattle.gcd_plan.specs.PlanView.{PlanView}
use Rattle.gcd_plan.specs.declared.act.Act.{Act}
use Rattle.gcd_plan.specs.declared.act.Act.TheVariants.{Async}
use Rattle.gcd_plan.specs.declared.numbers.Blk.{Blk}
use Rattle.gcd_plan.specs.declared.numbers.Obj.{Obj}
use Rattle.gcd_plan.specs.declared.numbers.Run.TheVariants.{Block}
use Rattle.gcd_event.specs.Owners.{ended}
use Rattle.gcd_event.specs.declared.event.Event.{Event}
use Rattle.gcd_event.specs.declared.event.Event.TheVariants.{Start, Act as Acted, End}
use Rattle.gcd_history.specs.History.{choice_of, open_beneath_of}
use Rattle.gcd_history.specs.Runs.{act_at}
use Rattle.gcd_tree.specs.TreeView.{open_beneath_at}
use Rattle.gcd_refinement.specs.MachineView.{MachineView, at_worker}
use Rattle.gcd_machine.specs.Calm.{IsCalm, is_calm_at}
use Rattle.gcd_machine.specs.Chosen.{choice_by}
use Rattle.gcd_machine.specs.Judged.{next_act_at}
use Rattle.gcd_machine.specs.Stands.{StandsFor}
use Rattle.gcd_machine.specs.Steps.{stepped}

-- the queue and the block of an async (dispatch_async(3))
abbrev pub async_of : Act → Option (Obj × Blk)
async_of (Async q b) = Some (q, b)
async_of act = None

-- a quick step takes the event: it is the end of a block, an async of a block or, as long as no run is open on an object, the start of
-- a block
abbrev pub is_quick : PlanView → List Event → Event → Bool
is_quick plan h (End w b) = true
is_quick plan h (Acted w (Block b) i) = is_some (option_and_then async_of (act_at plan (Block b) i))
is_quick plan h (Start w b) = open_beneath_of plan h 0 == 0
is_quick plan h e = false

-- what worker w records next, the objects from number 0 on, if a quick step takes it
abbrev pub quick_of : PlanView → List Event → ℕ → Option Event
quick_of plan h w = option_and_then (λ e. if is_quick plan h e then Some e else None) (choice_of plan h w 0)

-- the same of a machine's own numbers
abbrev pub is_quick_at : MachineView → Event → Bool
is_quick_at m (End w b) = true
is_quick_at m (Acted w (Block b) i) = is_some (option_and_then async_of (act_at m.plan (Block b) i))
is_quick_at m (Start w b) = not (nat_lt 0 (open_beneath_at m.tree 0))
is_quick_at m e = false

-- the machine stands for a history, and there is room for an event more
pub record MayStep (m : MachineView) : Type 0 where
  pub plan : PlanView
  pub history : List Event
  pub stands : StandsFor m plan history
  pub room : length history + 1 < 2 ^ 32

-- the event is the one that worker w records next, and the machine stands for the history with it. Unless it ends a run, nothing can
-- come of the outside if nothing could
pub record IsTaken (plan : PlanView) (h : List Event) (w : ℕ) (e : Event) (m : MachineView) : Type 0 where
  pub chosen : choice_of plan h w 0 ≡ Some e
  pub stands : StandsFor m plan (h ++ e ∷ [])
  pub calm : ended e ≡ None → IsCalm plan h → IsCalm plan (h ++ e ∷ [])

-- the event is the one that was to be chosen, and quick, and machine k is m after it
pub record IsStepped (chosen : Option Event) (m : MachineView) (e : Event) (k : MachineView) : Type 0 where
  pub chosen_is : chosen ≡ Some e
  pub quick : is_quick_at m e ≡ true
  pub after : k ≡ stepped m e
  pub calm : ended e ≡ None → is_calm_at k ≡ is_calm_at m

-- machine k is m, and the event that was to be chosen, if there is one, is not quick
pub record IsLeft (chosen : Option Event) (m : MachineView) (k : MachineView) : Type 0 where
  pub same : k ≡ m
  pub slow : (e : Event) → chosen ≡ Some e → is_quick_at m e ≡ false

-- an event was taken, or nothing was
abbrev pub IsQuick : (chosen : Option Event) → MachineView → (taken : Option Event) → MachineView → Type 0
IsQuick chosen m None k = IsLeft chosen m k
IsQuick chosen m (Some e) k = IsStepped chosen m e k

-- the event that was to be chosen is the start of block b, and quick
pub record IsStartNext (chosen : Option Event) (m : MachineView) (w : ℕ) (b : Blk) : Type 0 where
  pub chosen_is : chosen ≡ Some (Start w b)
  pub quick : is_quick_at m (Start w b) ≡ true

-- it is so of a block, or what was to be chosen is not quick
abbrev pub StartsNext : (chosen : Option Event) → MachineView → ℕ → Option Blk → Type 0
StartsNext chosen m w None = (e : Event) → chosen ≡ Some e → is_quick_at m e ≡ false
StartsNext chosen m w (Some b) = IsStartNext chosen m w b

-- ## A start and an end at once

-- worker w starts block b next, by a quick step, and ends it with the event after that
pub record IsRunNext (plan : PlanView) (h : List Event) (w : ℕ) (b : Blk) : Type 0 where
  pub starts : quick_of plan h w ≡ Some (Start w b)
  pub ends : choice_of plan (h ++ Start w b ∷ []) w 0 ≡ Some (End w b)

-- the two events are those that worker w records next, and the machine stands for the history with them. Between them nothing can come of
-- the outside if nothing could
pub record IsRunTaken (plan : PlanView) (h : List Event) (w : ℕ) (b : Blk) (m : MachineView) : Type 0 where
  pub next : IsRunNext plan h w b
  pub chosen : choice_of plan h w 0 ≡ Some (Start w b)
  pub stands : StandsFor m plan ((h ++ Start w b ∷ []) ++ End w b ∷ [])
  pub calm : IsCalm plan h → IsCalm plan (h ++ Start w b ∷ [])

-- the machine stands for a history, and there is room for two events more
pub record MayStepTwice (m : MachineView) : Type 0 where
  pub plan : PlanView
  pub history : List Event
  pub stands : StandsFor m plan history
  pub room : length history + 2 < 2 ^ 32

-- a machine's own numbers tell so: worker w, which has no run, starts block b next, by a quick step, and the block has no act to make
pub record IsRunDue (m : MachineView) (w : ℕ) (b : Blk) : Type 0 where
  pub chosen : choice_by m w 0 ≡ Some (Start w b)
  pub quick : is_quick_at m (Start w b) ≡ true
  pub free : at_worker m w ≡ None
  pub no_act : next_act_at m (Block b) ≡ None

-- block b is due, or none is
abbrev pub IsDue : MachineView → ℕ → Option Blk → Type 0
IsDue m w None = (b : Blk) → IsRunDue m w b → ⊥
IsDue m w (Some b) = IsRunDue m w b

-- machine k is m after the start and the end of the block that is due, or m where none is
pub record IsRun (m : MachineView) (w : ℕ) (b : Blk) (k : MachineView) : Type 0 where
  pub due : IsRunDue m w b
  pub after : k ≡ stepped (stepped m (Start w b)) (End w b)

pub record IsNotRun (m : MachineView) (w : ℕ) (k : MachineView) : Type 0 where
  pub same : k ≡ m
  pub none : (b : Blk) → IsRunDue m w b → ⊥

abbrev pub HasRun : MachineView → ℕ → Option Blk → MachineView → Type 0
HasRun m w None k = IsNotRun m w k
HasRun m w (Some b) k = IsRun m w b k
