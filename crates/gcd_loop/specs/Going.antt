-- What holds between the turns of worker 0 of what poller and clock said, and what its turns come to.
use Rattle.std.specs.Prelude.{◌≡◌, ◌++◌, ℕ, Bool, true, List, Option}
use Rattle.gcd_plan.specs.PlanView.{PlanView}
use Rattle.gcd_event.specs.declared.event.Event.{Event}
use Rattle.gcd_history.specs.Ends.{HasEnded}
use Rattle.gcd_history.specs.History.{is_active}
use Rattle.gcd_outer.specs.Outside.{ClockState, Seen}
use Rattle.gcd_outer.specs.Tells.{PollerState}
use Rattle.gcd_outer.specs.declared.tell.Tell.{Tell}
use Rattle.gcd_turn.specs.Asked.{KeepsListens, MayIdle}
use Rattle.gcd_turn.specs.Hearing.{Heard}
use Rattle.gcd_turn.specs.Outsides.{Faced, IsFirst}
use Rattle.gcd_turn.specs.Promises.{HaltsAtFaults, IsHeard, IsTimely}
use Rattle.gcd_turn.specs.Timing.{TimeKept}
use Rattle.gcd_turn.specs.Turns.{HasRoom, OutlookView}
use Rattle.gcd_loop.specs.Recorded.{Bounds}
use Rattle.gcd_loop.specs.declared.turns.TurnEnd.{TurnEnd}
use Rattle.gcd_loop.specs.declared.turns.TurnEnd.TheVariants.{Next, Stopped, Over}

-- what is seen is what stood and what was placed since, in which stands what poller and clock said since these states, as far
-- as the turns have come
pub record IsGoing (most : ℕ) (poller_tells clock_tells : Bool) (plan : PlanView) (stood : List Event) (before : PollerState) (early : ClockState)
    (poller : PollerState) (clock : ClockState) (h : List Event) (o : OutlookView) : Type 0 where
  pub placed : List Event
  pub split : h ≡ stood ++ placed
  pub heard : poller_tells ≡ true → Heard plan stood placed before poller o
  pub timely : TimeKept clock_tells plan stood placed early clock o.start
  pub faults : HaltsAtFaults most stood placed before poller
  pub kept : KeepsListens poller_tells before poller

-- If what poller and clock had said before these calls stands in h, behind any beginning, then what they have said by now stands in k.
abbrev pub GoesOn : Bounds → (h k : List Event) → Faced → Type 0
GoesOn b h k f = (stood : List Event) (before : PollerState) (early : ClockState)
    → IsGoing b.most f.poller.tells f.clock.tells b.plan stood before early f.poller.before f.clock.before h f.before
    → IsGoing b.most f.poller.tells f.clock.tells b.plan stood before early f.poller.after f.clock.after k f.after

-- there is room for an event, and worker 0 may listen or wait
pub record MayRest (b : Bounds) (h : List Event) (news : List Tell) (poller : PollerState) (left : Option ℕ) : Type 0 where
  pub room : HasRoom b.most b.plan h
  pub idle : MayIdle b.plan h news poller left

-- this holds if the next turn may come
abbrev pub WhereNext : Type 0 → TurnEnd → Type 0
WhereNext ready (Next placed) = ready
WhereNext ready (Stopped left) = Unit {0}
WhereNext ready Over = Unit {0}

-- this holds if the recorder stopped the turn
abbrev pub WhereStopped : (Option ℕ → Type 0) → TurnEnd → Type 0
WhereStopped stopped (Next placed) = Unit {0}
WhereStopped stopped (Stopped left) = stopped left
WhereStopped stopped Over = Unit {0}

-- this holds if the run has ended
abbrev pub WhereOver : Type 0 → TurnEnd → Type 0
WhereOver ended (Next placed) = Unit {0}
WhereOver ended (Stopped left) = Unit {0}
WhereOver ended Over = ended

-- each feed that is watched is that of an active source
abbrev pub WatchesActive : PlanView → List Event → PollerState → Type 0
WatchesActive plan h poller = (s : ℕ) → poller.watched s ≡ true → is_active plan h s ≡ true

-- what stood is the beginning of what is seen, and what poller and clock said since stands in the rest
pub record IsTrueTo (most : ℕ) (plan : PlanView) (stood h : List Event) (poller : Seen PollerState) (clock : Seen ClockState) : Type 0 where
  pub placed : List Event
  pub split : h ≡ stood ++ placed
  pub heard : IsHeard most plan stood placed poller
  pub timely : IsTimely plan stood placed clock

-- what stood was run on to the end
pub record IsRunOn (most : ℕ) (plan : PlanView) (stood h : List Event) (poller : Seen PollerState) (clock : Seen ClockState) : Type 0 where
  pub ended : HasEnded most plan h
  pub true_to : WatchesActive plan stood poller.before → IsTrueTo most plan stood h poller clock

-- the later calls begin with the outside as the first leave it
pub record GoesOnFrom (first later : Faced) : Type 0 where
  pub poller_tells : later.poller.tells ≡ first.poller.tells
  pub clock_tells : later.clock.tells ≡ first.clock.tells
  pub poller : later.poller.before ≡ first.poller.after
  pub clock : later.clock.before ≡ first.clock.after
  pub outlook : later.before ≡ first.after

-- both, as one
abbrev pub both : Faced → Faced → Faced
both first later = record {
  poller = record { tells = first.poller.tells; before = first.poller.before; after = later.poller.after };
  clock = record { tells = first.clock.tells; before = first.clock.before; after = later.clock.after };
  before = first.before;
  after = later.after;
}

-- the calls begin with the outside before the first turn, if the clock was so before it was first asked
abbrev pub BeginsAt : ClockState → Faced → Type 0
BeginsAt early f = IsFirst f.clock.tells early f.clock.before f.before

-- what was seen of a clock, from an earlier state on
abbrev pub since : ClockState → Seen ClockState → Seen ClockState
since early clock = record clock { before = early }

-- from the first turn on, what stood was run on to the end
abbrev pub RunsOn : Bounds → (h k : List Event) → Faced → (early : ClockState) → Type 0
RunsOn b h k f early = IsRunOn b.most b.plan h k f.poller (since early f.clock)
