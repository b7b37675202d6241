-- What worker 0 is asked to do next.
use Rattle.std.specs.Prelude.{◌≡◌, ◌≤◌, ◌<◌, ◌+◌, ◌-◌, ◌⊎◌, ℕ, Bool, true, false, List, [], ◌++◌, Option, Some, None, IsSome, length, max, min}
use Rattle.gcd_plan.specs.PlanView.{PlanView}
use Rattle.gcd_event.specs.declared.event.Event.{Event}
use Rattle.gcd_event.specs.declared.event.Event.TheVariants.{Start, Act as Acted, Wake, End, Deliver, DeliverEnd, Tick, Ready, FeedEnd, Misuse, Halt, Expire, Accept, Shut}
use Rattle.gcd_history.specs.Ends.{HasEnded, is_halted}
use Rattle.gcd_history.specs.History.{choice_of, expiry_of, is_intake_open, is_live_feed, next_due_of, running_of}
use Rattle.gcd_machine.specs.Stands.{StandsFor}
use Rattle.gcd_refinement.specs.MachineView.{MachineView}
use Rattle.gcd_outer.specs.Outside.{ClockState, Rises, Seen}
use Rattle.gcd_outer.specs.Tells.{PollerState}
use Rattle.gcd_outer.specs.declared.tell.Tell.{Tell}
use Rattle.gcd_turn.specs.Hearing.{Heard}
use Rattle.gcd_turn.specs.Outsides.{Faced}
use Rattle.gcd_turn.specs.Promises.{later_by}
use Rattle.gcd_turn.specs.Turns.{HasRoom, OutlookView, first_event}
use Rattle.gcd_turn.specs.declared.ask.Ask.{Ask}
use Rattle.gcd_turn.specs.declared.ask.Ask.TheVariants.{Leave, Told, Open, Put, Work}

-- each live feed is watched
abbrev pub AllWatched : PlanView → List Event → PollerState → Type 0
AllWatched plan h poller = (s : ℕ) → is_live_feed plan h s ≡ true → poller.watched s ≡ true

-- what no turn changes: no listen is made, and the count of faults does not fall
pub record KeepsListens (tells : Bool) (old new : PollerState) : Type 0 where
  pub faults : old.faults ≤ new.faults
  pub listens : tells ≡ true → new.listens ≡ old.listens
  pub addresses : tells ≡ true → new.addresses ≡ old.addresses

-- the machine stands for a history at which each live feed is watched
pub record HasWatched (m : MachineView) (plan : PlanView) (poller : PollerState) : Type 0 where
  pub history : List Event
  pub stands : StandsFor m plan history
  pub watched : AllWatched plan history poller

-- so much time has passed since the start that a due time has come: the Tick is at the time that has passed, and no later than
-- `until`
pub record IsDueTick (plan : PlanView) (h : List Event) (start present t : ℕ) : Type 0 where
  pub passed : ℕ
  pub due : ℕ
  pub is_due : next_due_of plan h ≡ Some due
  pub has_come : due ≤ passed
  pub not_ahead : start + passed ≤ present
  pub at : t ≡ min passed plan.until

-- how long the next due time is ahead, if there is one: at least a millisecond
abbrev pub IsLeft : PlanView → List Event → Option ℕ → Type 0
IsLeft plan h None = next_due_of plan h ≡ None
IsLeft plan h (Some ms) = IsSome (next_due_of plan h) × (0 < ms)

-- The next due time is so many milliseconds ahead: what has passed since the start, by an answer of the clock in the call, and what is
-- left come to it. A clock that tells answers its present before the call.
pub record IsAheadBy (plan : PlanView) (h : List Event) (start : ℕ) (clock : Seen ClockState) (left : ℕ) : Type 0 where
  pub passed : ℕ
  pub due : ℕ
  pub is_due : next_due_of plan h ≡ Some due
  pub reached : clock.before.present ≤ start + passed
  pub not_ahead : passed ≤ clock.after.present - start
  pub told : clock.tells ≡ true → passed ≡ clock.before.present - start
  pub left_is : passed + left ≡ due

-- so long is the next due time ahead, if there is one
abbrev pub IsAhead : PlanView → List Event → (start : ℕ) → Seen ClockState → Option ℕ → Type 0
IsAhead plan h start clock None = next_due_of plan h ≡ None
IsAhead plan h start clock (Some ms) = IsAheadBy plan h start clock ms

-- the poller failed in the call, or its count of faults is as it was
abbrev pub HasFailed : PollerState → PollerState → Type 0
HasFailed old new = Rises old.faults new.faults

abbrev pub HasNotFailed : PollerState → PollerState → Type 0
HasNotFailed old new = new.faults ≡ old.faults

-- what is put of itself: a Halt where the poller failed, a Tick that is due, or the Expire that worker 0 records
abbrev pub IsPut : PlanView → List Event → (start present : ℕ) → (old new : PollerState) → Event → Type 0
IsPut plan h start present old new (Start w b) = ⊥
IsPut plan h start present old new (Acted w r i) = ⊥
IsPut plan h start present old new (Wake w b) = ⊥
IsPut plan h start present old new (End w b) = ⊥
IsPut plan h start present old new (Deliver w s) = ⊥
IsPut plan h start present old new (DeliverEnd w s) = ⊥
IsPut plan h start present old new (Tick t) = IsDueTick plan h start present t × HasNotFailed old new
IsPut plan h start present old new (Ready s n) = ⊥
IsPut plan h start present old new (FeedEnd s) = ⊥
IsPut plan h start present old new (Misuse w c r i) = ⊥
IsPut plan h start present old new Halt = HasFailed old new
IsPut plan h start present old new (Expire b) = (expiry_of plan h ≡ Some (Expire b)) × HasNotFailed old new
IsPut plan h start present old new (Accept b s) = ⊥
IsPut plan h start present old new Shut = ⊥

-- worker 0 may listen or wait: there is no news, each live feed is watched, so long is the next due time ahead, and no wait may
-- expire
pub record MayIdle (plan : PlanView) (h : List Event) (news : List Tell) (poller : PollerState) (left : Option ℕ) : Type 0 where
  pub no_news : news ≡ []
  pub watched : AllWatched plan h poller
  pub left_is : IsLeft plan h left
  pub no_expiry : expiry_of plan h ≡ None

-- the intake is open, there is no news, each live feed is watched, and this is what worker 0 chooses
pub record MayTakeIn (plan : PlanView) (h : List Event) (news : List Tell) (poller : PollerState) (chosen : Option Event) : Type 0 where
  pub intake : is_intake_open plan h ≡ true
  pub no_news : news ≡ []
  pub watched : AllWatched plan h poller
  pub choice : choice_of plan h 0 0 ≡ chosen

-- what is asked at a history, which may have `most` events: to leave where it has ended, and only there; else to put a Halt where
-- the poller failed, or the first of the news; to see to the intake, where it is open; and only where it is not, to put a Tick or an
-- Expire, or to work, on what worker 0 chooses
abbrev pub IsAsked : (most : ℕ) → PlanView → List Event → OutlookView → Seen ClockState → (old new : PollerState) → Ask → Type 0
IsAsked most plan h o clock old new Leave = HasEnded most plan h × HasNotFailed old new
IsAsked most plan h o clock old new (Told e) = HasRoom most plan h × (first_event o.news ≡ Some e) × HasNotFailed old new
IsAsked most plan h o clock old new (Open chosen) = HasRoom most plan h × MayTakeIn plan h o.news new chosen × HasNotFailed old new
IsAsked most plan h o clock old new (Put e) =
    HasRoom most plan h × IsPut plan h o.start clock.after.present old new e × (HasFailed old new ⊎ (is_intake_open plan h ≡ false))
IsAsked most plan h o clock old new (Work chosen left) =
    HasRoom most plan h × MayIdle plan h o.news new left × HasNotFailed old new × (choice_of plan h 0 0 ≡ chosen) × (is_intake_open plan h ≡ false)
    × IsAhead plan h o.start clock left

-- what is asked in the later steps, where there is no news: to put a Tick or an Expire, or to work, on what worker 0 chooses
abbrev pub IsAskedOn : (most : ℕ) → PlanView → List Event → OutlookView → Seen ClockState → (old new : PollerState) → Ask → Type 0
IsAskedOn most plan h o clock old new Leave = ⊥
IsAskedOn most plan h o clock old new (Told e) = ⊥
IsAskedOn most plan h o clock old new (Open chosen) = ⊥
IsAskedOn most plan h o clock old new (Put e) = HasRoom most plan h × IsPut plan h o.start clock.after.present old new e
IsAskedOn most plan h o clock old new (Work chosen left) =
    HasRoom most plan h × MayIdle plan h o.news new left × HasNotFailed old new × (choice_of plan h 0 0 ≡ chosen) × IsAhead plan h o.start clock left

-- the clock was waited on for the next due time, at a history at which no run is open and unparked and no intake is open
pub record IsDueWait (plan : PlanView) (h : List Event) (start : ℕ) (old new : ClockState) : Type 0 where
  pub due : ℕ
  pub is_due : next_due_of plan h ≡ Some due
  pub resting : running_of plan h ≡ 0
  pub shut : is_intake_open plan h ≡ false
  pub waited : new.waited ≡ max old.waited (later_by start due)

-- the clock was waited on so, or not at all
abbrev pub WaitedFor : PlanView → List Event → (start : ℕ) → ClockState → ClockState → Type 0
WaitedFor plan h start old new = (new.waited ≡ old.waited) ⊎ IsDueWait plan h start old new

-- so it was at a history that the machine stands for
abbrev pub WaitsFor : MachineView → PlanView → (tells : Bool) → (start : ℕ) → ClockState → ClockState → Type 0
WaitsFor m plan tells start old new = (h : List Event) → StandsFor m plan h → tells ≡ true → WaitedFor plan h start old new

-- this is asked at a history that the machine stands for, of at most `most` events
abbrev pub AsksFor : MachineView → PlanView → (most : ℕ) → Faced → Ask → Type 0
AsksFor m plan most f ask = (h : List Event) → StandsFor m plan h → length h ≤ most
    → IsAsked most plan h f.before f.clock f.poller.before f.poller.after ask

-- this is asked in the later steps at a history that the machine stands for, if each live feed is watched and no call has failed
abbrev pub AsksOnFor : MachineView → PlanView → OutlookView → Seen ClockState → Ask → Type 0
AsksOnFor m plan o clock ask = (most : ℕ) (h : List Event) (old new : PollerState) → StandsFor m plan h → HasRoom most plan h
    → AllWatched plan h new → HasNotFailed old new → IsAskedOn most plan h o clock old new ask

-- if the calls up to now gave what stands in a history that the machine stands for, so have those up to the new state
abbrev pub HearsOn : MachineView → PlanView → (tells : Bool) → (old new : PollerState) → (o u : OutlookView) → Type 0
HearsOn m plan tells old new o u = (stood placed : List Event) (before : PollerState) → StandsFor m plan (stood ++ placed) → tells ≡ true
    → Heard plan stood placed before old o → Heard plan stood placed before new u

-- so it is for a history that is not halted, if each live feed is watched
abbrev pub HearsIdle : MachineView → PlanView → (tells : Bool) → (old new : PollerState) → (o u : OutlookView) → Type 0
HearsIdle m plan tells old new o u = (stood placed : List Event) (before : PollerState) → StandsFor m plan (stood ++ placed)
    → is_halted (stood ++ placed) ≡ false → AllWatched plan (stood ++ placed) old → tells ≡ true
    → Heard plan stood placed before old o → Heard plan stood placed before new u
