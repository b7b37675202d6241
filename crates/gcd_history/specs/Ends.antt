-- How a history ends, the oldest event first (this project's own rule).
use Rattle.std.specs.Prelude.{◌≡◌, ◌⊎◌, ℕ, Bool, true, false, List, length, reverse, IsTrue}
use Rattle.gcd_plan.specs.PlanView.{PlanView}
use Rattle.gcd_event.specs.declared.event.Event.{Event}
use Rattle.gcd_history.specs.declared.state.State.{State}
use Rattle.gcd_history.specs.declared.state.State.TheVariants.{Drained, Stuck, Misused, Halted, Live}
use Rattle.gcd_history.specs.Permitted as permitted
use Rattle.gcd_history.specs.Choice as choice

-- the last event is Misuse or Halt
unfoldable pub is_halted : List Event → Bool
is_halted h = permitted.is_halted (reverse h)

-- it is so, as a claim
abbrev pub IsHalted : List Event → Type 0
IsHalted h = IsTrue (is_halted h)

-- the last event is Misuse
unfoldable pub ends_in_misuse : List Event → Bool
ends_in_misuse h = permitted.ends_in_misuse (reverse h)

-- the last event is Halt
unfoldable pub ends_in_halt : List Event → Bool
ends_in_halt h = permitted.ends_in_halt (reverse h)

-- not halted, no event of any worker and no Expire is permitted, no due time is left, no read source is live, and no intake is
-- open
unfoldable pub IsQuiescent : PlanView → List Event → Type 0
IsQuiescent plan h = choice.IsQuiescent plan (reverse h)

-- each submitted block has ended
unfoldable pub all_ended : PlanView → List Event → Bool
all_ended plan h = choice.all_ended plan (reverse h)

-- quiescent, and each submitted block has ended
pub record IsDrained (plan : PlanView) (h : List Event) : Type 0 where
  pub quiescent : IsQuiescent plan h
  pub ended : all_ended plan h ≡ true

-- quiescent, and a submitted block has not ended
pub record IsStuck (plan : PlanView) (h : List Event) : Type 0 where
  pub quiescent : IsQuiescent plan h
  pub left : all_ended plan h ≡ false

-- neither halted nor quiescent
pub record IsGoingOn (plan : PlanView) (h : List Event) : Type 0 where
  pub unhalted : is_halted h ≡ false
  pub unquiet : ¬ IsQuiescent plan h

-- as long as a history may be, `most` events, and neither halted nor quiescent
pub record IsFull (most : ℕ) (plan : PlanView) (h : List Event) : Type 0 where
  pub whole : length h ≡ most
  pub going_on : IsGoingOn plan h

-- nothing more is to be recorded: the history is quiescent, halted, or as long as it may be
abbrev pub HasEnded : (most : ℕ) → PlanView → List Event → Type 0
HasEnded most plan h = IsQuiescent plan h ⊎ (IsHalted h ⊎ (length h ≡ most))

-- how far the history has come; it is Live from its beginning on, so that a run is over where it is full is said by IsFull
abbrev pub HasState : PlanView → List Event → State → Type 0
HasState plan h Drained = IsDrained plan h
HasState plan h Stuck = IsStuck plan h
HasState plan h Misused = IsTrue (ends_in_misuse h)
HasState plan h Halted = IsTrue (ends_in_halt h)
HasState plan h Live = IsGoingOn plan h
