-- What a run by any engine promises.
use Rattle.std.specs.Prelude.{◌≡◌, ◌≤◌, ℕ, List, [], length}
use Rattle.gcd_plan.specs.PlanView.{PlanView}
use Rattle.gcd_event.specs.declared.event.Event.{Event}
use Rattle.gcd_history.specs.Ends.{HasEnded}
use Rattle.gcd_history.specs.History.{IsLawful}
use Rattle.gcd_outer.specs.Outside.{ClockState, Seen}
use Rattle.gcd_outer.specs.Tells.{PollerState}
use Rattle.gcd_turn.specs.Promises.{IsHeard, IsTimely}
use Rattle.gcd_loop.specs.Followed.{FollowsChoice, IsOfWorkers}

-- The run of a plan by so many workers, of at most `most` events: its journal is lawful and has ended; each event is of one of the
-- workers; with one worker each event of a worker is what that worker chooses at its place; of the jobs of outside callers `calls` holds,
-- which is `AcceptsNone` where there are none; and what poller and clock said stands in it.
pub record RunsPlan (most : ℕ) (plan : PlanView) (workers : ℕ) (calls : List Event → Type 0) (poller : Seen PollerState) (clock : Seen ClockState)
    (h : List Event) : Type 0 where
  pub lawful : IsLawful plan h
  pub ended : HasEnded most plan h
  pub few : length h ≤ most
  pub by : IsOfWorkers workers h
  pub chosen : workers ≡ 1 → FollowsChoice plan h
  pub called : calls h
  pub timely : IsTimely plan [] h clock
  pub heard : IsHeard most plan [] h poller
