-- The hands of a team, and what worker 0 has given out.
use Rattle.std.specs.Prelude.{◌≡◌, ◌≢◌, ◌<◌, ◌≤◌, ◌+◌, ℕ, All, List, [], length, Some, None, slice_index_or, vec_capacity}
use Rattle.gcd_plan.specs.PlanView.{PlanView}
use Rattle.gcd_event.specs.declared.event.Event.{Event}
use Rattle.gcd_history.specs.Ends.{HasEnded}
use Rattle.gcd_history.specs.Intake.{AcceptsOf}
use Rattle.gcd_history.specs.Team.{StartsWith}
use Rattle.gcd_outer.specs.Outside.{ClockState, Seen}
use Rattle.gcd_outer.specs.Tells.{PollerState}
use Rattle.gcd_loop.specs.Followed.{IsOfWorkers}
use Rattle.gcd_loop.specs.Going.{GoesOn}
use Rattle.gcd_loop.specs.Ran.{RunsPlan}
use Rattle.gcd_loop.specs.Recorded.{Bounds}
use Rattle.gcd_machine.specs.Stands.{StandsFor}
use Rattle.gcd_refinement.specs.MachineView.{MachineView}
use Rattle.gcd_row.specs.Passes.{IsPassOf, terms_of, view}
use Rattle.gcd_row.specs.Shapes.{Shape}
use Rattle.gcd_row.specs.Views.{held_run, standing_of}
use Rattle.gcd_row.specs.declared.view.Standing.{Standing}
use Rattle.gcd_row.specs.declared.view.Standing.TheVariants.{Out}
use Rattle.gcd_row.specs.declared.view.View.{View}
use Rattle.gcd_row.specs.declared.board.RowBoard.{RowBoard}
use Rattle.gcd_steal.specs.Racks.{IsBenchOf}
use Rattle.gcd_steal.specs.declared.bench.Bench.{Bench}
use Rattle.gcd_steal.specs.declared.bench.Rack.{Rack}
use Rattle.gcd_pool.specs.Hands.{IsReady}
use Rattle.gcd_pool.specs.Leads.{Follows}
use Rattle.gcd_turn.specs.Outsides.{Faced}
use Rattle.gcd_pool.specs.declared.hand.Hand.{Hand}
use Rattle.gcd_pool.specs.declared.hand.Pool.{Pool}
use Rattle.gcd_workers.specs.declared.room.Room.{Room}
use Rattle.gcd_workers.specs.declared.team.Team.{Team}

-- a fact of each place of a list, by its number from n on
abbrev pub EachFrom : {T : Type 0} → (ℕ → T → Type 0) → (n : ℕ) → List T → Type 0
EachFrom {T} P n xs = (k : ℕ) (d : T) → k < length xs → P (n + k) (slice_index_or xs k d)

module _ {S : Type 0} (shape : S → Shape) (gives : S → ℕ → Type 0) where
  -- a hand of worker w that has not served yet
  pub record IsReadyAt (pool : Pool S) (w : ℕ) (hand : Hand S) : Type 0 where
    pub ready : IsReady shape gives pool hand
    pub worker : (view hand.pass).worker ≡ w

  -- a hand of worker w, with a pass of the board
  pub record IsPassAt (board : RowBoard S) (w : ℕ) (hand : Hand S) : Type 0 where
    pub pass : IsPassOf shape gives board hand.pass
    pub worker : (view hand.pass).worker ≡ w

-- no number from n on was given out, and none below m is out
pub record AreOut (m n : ℕ) (hands : List (ℕ × Standing)) : Type 0 where
  pub none : (w : ℕ) → n ≤ w → standing_of hands w ≡ None
  pub home : (w : ℕ) → w < m → standing_of hands w ≢ Some Out

-- worker 0's pass, with numbers given out
pub record IsHead {S : Type 0} (m n : ℕ) (v : View S) : Type 0 where
  pub worker : v.worker ≡ 0
  pub out : AreOut m n v.hands

-- the pass of a team whose run has ended
pub record HasLed {S : Type 0} (workers : ℕ) (v : View S) : Type 0 where
  pub worker : v.worker ≡ 0
  pub home : (w : ℕ) → standing_of v.hands w ≢ Some Out
  pub ended : HasEnded v.terms.limits.most v.terms.plan v.seen
  pub by : IsOfWorkers workers v.seen

-- what a helper brings: a bench of the rack, and a machine that stands for what worker 0's pass has seen
pub record IsHelper (rack : Rack) (plan : PlanView) (h : List Event) (helper : Bench × MachineView) : Type 0 where
  pub bench : IsBenchOf rack helper.0
  pub machine : StandsFor helper.1 plan h

-- the room of a team of so many hands
pub record IsRoom {S : Type 0} (rack : Rack) (plan : PlanView) (h : List Event) (n : ℕ) (room : Room S) : Type 0 where
  pub first : IsBenchOf rack room.first
  pub helpers : All (IsHelper rack plan h) room.helpers.items
  pub count : length room.helpers.items + 1 ≡ n
  pub none : room.hands.items ≡ []
  pub capacity : n ≤ vec_capacity room.hands

-- the room of a team of a hand for each bench, each helper with a copy of the machine
abbrev pub IsRoomFor : {S : Type 0} → MachineView → List Bench → Room S → Type 0
IsRoomFor machine benches room = (rack : Rack) (plan : PlanView) (h : List Event) → All (IsBenchOf rack) benches → StandsFor machine plan h
    → IsRoom rack plan h (length benches) room

-- worker 0's pass of a board that was just opened: no number was given out, and it holds no run
pub record IsNew {S : Type 0} (v : View S) : Type 0 where
  pub worker : v.worker ≡ 0
  pub hands : v.hands ≡ []
  pub held : held_run v ≡ None

-- numbers were given out, and nothing else has changed
abbrev pub HasLent : {S : Type 0} → View S → View S → Type 0
HasLent v w = w ≡ record v { hands = w.hands }

-- a team that has not begun: each hand is ready, by number, worker 0's first, which knows of all numbers that were given out
pub record IsTeam {S : Type 0} (shape : S → Shape) (gives : S → ℕ → Type 0) (team : Team S) : Type 0 where
  pub hands : EachFrom (IsReadyAt shape gives team.pool.now) 0 team.hands.items
  pub head : (d : Hand S) → IsHead 1 (length team.hands.items) (view (slice_index_or team.hands.items 0 d).pass)

-- the plan of a team's board, and how many events its row may have
abbrev pub bounds_on : {S : Type 0} → RowBoard S → Bounds
bounds_on board = record { plan = (terms_of board).plan; most = (terms_of board).limits.most }

-- what such a team promises of its run beside a front with so many senders, once worker 0 has seen this
abbrev pub RunsTeam : {S : Type 0} → Team S → (senders : ℕ) → Seen PollerState → Seen ClockState → List Event → Type 0
RunsTeam team senders poller clock h =
    RunsPlan (terms_of team.pool.now.board.now).limits.most (terms_of team.pool.now.board.now).plan (length team.hands.items) (AcceptsOf senders) poller clock h

-- once worker 0 of a team has seen this, it begins with what its row began with
abbrev pub Grew : {S : Type 0} → Team S → List Event → Type 0
Grew {S} team h = (d : Hand S) → StartsWith h (view (slice_index_or team.hands.items 0 d).pass).seen

-- once worker 0 of a team has seen this, what poller and clock said since its row began stands in what came since
abbrev pub WentOn : {S : Type 0} → Team S → List Event → Faced → Type 0
WentOn {S} team h f = (d : Hand S) → GoesOn (bounds_on team.pool.now.board.now) (view (slice_index_or team.hands.items 0 d).pass).seen h f

-- and from there on a team of one follows the choice of worker 0
abbrev pub FollowsOn : {S : Type 0} → Team S → List Event → Type 0
FollowsOn {S} team h = length team.hands.items ≡ 1 → (d : Hand S) → Follows (terms_of team.pool.now.board.now).plan (view (slice_index_or team.hands.items 0 d).pass).seen h
