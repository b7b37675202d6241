-- What a turn does with the clock.
use Rattle.std.specs.Prelude.{◌≡◌, ◌<◌, ℕ, true, false, List, Option, Some, None, min}
use Rattle.gcd_plan.specs.PlanView.{PlanView}
use Rattle.gcd_event.specs.declared.event.Event.{Event}
use Rattle.gcd_history.specs.History.{is_intake_open, running_of}
use Rattle.gcd_outer.specs.Outside.{ClockState, Seen}
use Rattle.gcd_turn.specs.Asked.{IsAhead, IsDueTick, IsLeft}
use Rattle.gcd_turn.specs.declared.limits.TheConstants.{POLL_WAIT}
use Rattle.gcd_turn.specs.declared.steps.Time.{Time}
use Rattle.gcd_turn.specs.declared.steps.Time.TheVariants.{Tick, Left}

-- a Tick that is due, or how long the next due time is ahead
abbrev pub IsTime : PlanView → List Event → (start : ℕ) → Seen ClockState → Time → Type 0
IsTime plan h start clock (Tick t) = IsDueTick plan h start clock.after.present t
IsTime plan h start clock (Left left) = IsLeft plan h left × IsAhead plan h start clock left

-- so long a poll waits at most, where nothing runs and no intake is open
abbrev pub longest_wait : Option ℕ → ℕ
longest_wait None = POLL_WAIT
longest_wait (Some ms) = min ms POLL_WAIT

-- how long a poll waits
pub record IsPollWait (plan : PlanView) (h : List Event) (left : Option ℕ) (wait : ℕ) : Type 0 where
  pub running : 0 < running_of plan h → wait ≡ 0
  pub intake : is_intake_open plan h ≡ true → wait ≡ 0
  pub resting : running_of plan h ≡ 0 → is_intake_open plan h ≡ false → wait ≡ longest_wait left
