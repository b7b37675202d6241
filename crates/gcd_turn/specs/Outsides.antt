-- The outside of a run, before and after calls on it.
use Rattle.std.specs.Prelude.{◌≡◌, ◌≤◌, Bool, true, []}
use Rattle.gcd_outer.specs.Outside.{ClockState, Seen, seen}
use Rattle.gcd_outer.specs.Tells.{PollerState}
use Rattle.gcd_turn.specs.Turns.{OutlookView}
use Rattle.gcd_turn.specs.declared.outside.Outside.{Outside}

-- it has the poller and the clock that it had
pub record IsSame {P C : Type 0} (old new : Outside P C) : Type 0 where
  pub poller : new.poller.ghost_name ≡ old.poller.ghost_name
  pub clock : new.clock.ghost_name ≡ old.clock.ghost_name

-- what calls saw of poller and clock, and what worker 0 kept of them before and after
pub record Faced : Type 0 where
  pub poller : Seen PollerState
  pub clock : Seen ClockState
  pub before : OutlookView
  pub after : OutlookView

-- what calls saw, from what tells and the state of poller and clock
abbrev pub faced : {P C : Type 0} → (poller_tells clock_tells : Bool) → (P → PollerState) → (C → ClockState) → (old new : Outside P C) → Faced
faced poller_tells clock_tells poller clock old new = record {
  poller = seen poller_tells poller old.poller.now new.poller.now;
  clock = seen clock_tells clock old.clock.now new.clock.now;
  before = old.outlook;
  after = new.outlook;
}

-- the outside before the first turn, where the clock was so before it was first asked: nothing was told
pub record IsFirst (tells : Bool) (early now : ClockState) (o : OutlookView) : Type 0 where
  pub news : o.news ≡ []
  pub empties : o.empties ≡ 0
  pub len : o.len ≡ 0
  pub not_before : early.present ≤ o.start
  pub reached : o.start ≤ now.present
  pub told : tells ≡ true → o.start ≡ early.present
  pub waited : tells ≡ true → now.waited ≡ early.waited
