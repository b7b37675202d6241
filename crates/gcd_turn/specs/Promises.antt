-- What the turns of worker 0 promise of the outside: what poller and clock said, and what stands in the journal. A history
-- is `stood ++ placed`: what stood when the calls began, and what was placed in them.
use Rattle.std.specs.Prelude.{◌≡◌, ◌≤◌, ◌<◌, ◌+◌, ◌-◌, ◌++◌, ◌==◌, ◌⊎◌, ℕ, true, false, List, [], ◌∷◌, length, min, take, drop, if◌then◌else◌, Some, Contains}
use Rattle.std.specs.List.{list_all, flat_map}
use Rattle.gcd_plan.specs.PlanView.{PlanView, path_of}
use Rattle.gcd_plan.specs.declared.numbers.Obj.{Obj}
use Rattle.gcd_event.specs.declared.event.Event.{Event}
use Rattle.gcd_event.specs.declared.event.Event.TheVariants.{Start, Act as Acted, Wake, End, Deliver, DeliverEnd, Tick, Ready, FeedEnd, Misuse, Halt, Expire, Accept, Shut}
use Rattle.gcd_history.specs.Ends.{IsHalted}
use Rattle.gcd_history.specs.History.{is_intake_open, is_live_feed, next_due_of, running_of}
use Rattle.gcd_outer.specs.Outside.{ClockState, Rises, Seen}
use Rattle.gcd_outer.specs.Tells.{PollerState, is_empty_answer, is_end_told, told_of}
use Rattle.gcd_outer.specs.declared.tell.Tell.{Tell}
use Rattle.gcd_turn.specs.declared.limits.TheConstants.{EMPTY_ANSWERS}

-- ## What the journal has

-- the number of a Ready of source s
abbrev pub ready_by : ℕ → Event → List ℕ
ready_by s (Start w b) = []
ready_by s (Acted w r i) = []
ready_by s (Wake w b) = []
ready_by s (End w b) = []
ready_by s (Deliver w t) = []
ready_by s (DeliverEnd w t) = []
ready_by s (Tick t) = []
ready_by s (Ready t n) = if t.0 == s then n ∷ [] else []
ready_by s (FeedEnd t) = []
ready_by s (Misuse w c r i) = []
ready_by s Halt = []
ready_by s (Expire b) = []
ready_by s (Accept b n) = []
ready_by s Shut = []

-- the numbers of the Readys of source s, in order
abbrev pub readies_of : ℕ → List Event → List ℕ
readies_of s events = flat_map (ready_by s) events

-- source s is live at some position of the history
pub record WasLive (plan : PlanView) (h : List Event) (s : ℕ) : Type 0 where
  pub position : ℕ
  pub within : position ≤ length h
  pub live : is_live_feed plan (take position h) s ≡ true

-- ## What the poller told

-- the numbers begin with these
pub record Begins (numbers front : List ℕ) : Type 0 where
  pub rest : List ℕ
  pub split : numbers ≡ front ++ rest

-- feed s is watched, and was before answer n of the calls, counted from 0
pub record WatchedBefore (before now : PollerState) (n s : ℕ) : Type 0 where
  pub watched : now.watched s ≡ true
  pub since : (before.watched s ≡ true) ⊎ (now.watched_at s ≤ length before.answers + n)

-- after the watch of feed s the answers hold `EMPTY_ANSWERS` empty ones in a row, and the journal, which has these numbers
-- of it, has all that was told of it before these
pub record WasSilent (before now : PollerState) (answers : List (List Tell)) (had : List ℕ) (s : ℕ) : Type 0 where
  pub earlier : List (List Tell)
  pub quiet : List (List Tell)
  pub later : List (List Tell)
  pub split : answers ≡ earlier ++ (quiet ++ later)
  pub watched : WatchedBefore before now (length earlier) s
  pub long : length quiet ≡ EMPTY_ANSWERS
  pub empty : list_all is_empty_answer quiet ≡ true
  pub had_all : Begins had (told_of s earlier)

-- why a FeedEnd of s may stand, where the journal has these numbers of it: an end was told, and all that was told is there; or
-- the feed was silent
pub data FeedEnds (before now : PollerState) (answers : List (List Tell)) (had : List ℕ) (s : ℕ) : Type 0 where
  told : is_end_told s answers ≡ true → told_of s answers ≡ had → FeedEnds before now answers had s
  silent : WasSilent before now answers had s → FeedEnds before now answers had s

-- the answers, and the watches that succeeded, of the calls
abbrev pub answers_in : Seen PollerState → List (List Tell)
answers_in seen = drop (length seen.before.answers) seen.after.answers

abbrev pub watches_in : Seen PollerState → List (ℕ × List ℕ)
watches_in seen = drop (length seen.before.watches) seen.after.watches

-- What is told by a poller that tells: the Readys of a source carry what was told of its feed, in order, from the first on; a
-- FeedEnd has a cause; and each feed that was watched is that of a source that was live, under its path.
pub record AreTold (plan : PlanView) (stood placed : List Event) (seen : Seen PollerState) : Type 0 where
  pub readies : (s : ℕ) → Begins (told_of s (answers_in seen)) (readies_of s placed)
  pub ends : (s : Obj) → Contains placed (FeedEnd s)
      → FeedEnds seen.before seen.after (answers_in seen) (readies_of s.0 placed) s.0
  pub live : (s : ℕ) (path : List ℕ) → Contains (watches_in seen) (s, path) → WasLive plan (stood ++ placed) s
  pub paths : (s : ℕ) (path : List ℕ) → Contains (watches_in seen) (s, path) → path ≡ path_of plan s

-- A Halt stands only where the poller failed, and where it failed the history is halted or has no room: it has `most` events.
pub record HaltsAtFaults (most : ℕ) (stood placed : List Event) (before now : PollerState) : Type 0 where
  pub halts : Contains placed Halt → Rises before.faults now.faults
  pub stops : before.faults < now.faults → IsHalted (stood ++ placed) ⊎ (length (stood ++ placed) ≡ most)

-- the journal tells what the poller told, and halts where it failed
pub record IsHeard (most : ℕ) (plan : PlanView) (stood placed : List Event) (seen : Seen PollerState) : Type 0 where
  pub told : seen.tells ≡ true → AreTold plan stood placed seen
  pub faults : HaltsAtFaults most stood placed seen.before seen.after

-- ## What the clock told

-- so many milliseconds after a moment; sums of times stop at 2^64 - 1
abbrev pub later_by : (moment ms : ℕ) → ℕ
later_by moment ms = min (moment + ms) 18446744073709551615

-- the moment is a next due time, so long after the start, at a position of the history at which no run is open and unparked and no
-- intake is open
pub record IsDueMoment (plan : PlanView) (h : List Event) (start moment : ℕ) : Type 0 where
  pub position : ℕ
  pub due : ℕ
  pub within : position ≤ length h
  pub is_due : next_due_of plan (take position h) ≡ Some due
  pub resting : running_of plan (take position h) ≡ 0
  pub shut : is_intake_open plan (take position h) ≡ false
  pub moment_is : moment ≡ later_by start due

-- no Tick is ahead of the clock; and where the clock tells and was waited on for longer than ever, that was for a due time, while nothing
-- ran
pub record IsTimely (plan : PlanView) (stood placed : List Event) (seen : Seen ClockState) : Type 0 where
  pub ticks : (t : ℕ) → Contains placed (Tick t) → t ≤ seen.after.present - seen.before.present
  pub waits : seen.tells ≡ true → seen.before.waited < seen.after.waited
      → IsDueMoment plan (stood ++ placed) seen.before.present seen.after.waited
