-- What a rack, a bench and a Drain are to one another.
use Rattle.std.specs.Prelude.{◌≡◌, ◌≢◌, ℕ, ◌<◌, false, List, [], length, slice_index_or}
use Rattle.std.specs.declared.alloc.Global.{Global}
use Rattle.crossbeam_deque.specs.Handles.{Pass, view, worker_view, worker_deque, stealer_deque, stealer_flavor, IsPassOf}
use Rattle.crossbeam_deque.specs.declared.handles.Stealer.{Stealer}
use Rattle.gcd_plan.specs.PlanView.{PlanView}
use Rattle.gcd_steal.specs.declared.bench.Rack.{Rack}
use Rattle.gcd_steal.specs.declared.bench.Bench.{Bench}
use Rattle.gcd_steal.specs.declared.deque.FirstOut.{FirstOut}
use Rattle.gcd_steal.specs.declared.deque.RackId.{RackId}
use Rattle.gcd_steal.specs.declared.deque.Account.{Account}
use Rattle.gcd_steal.specs.declared.drain.Drain.{Drain}
use Rattle.gcd_steal.specs.declared.places.Sight.{Sight}
use Rattle.gcd_steal.specs.Drains.{IsDrainOf}

-- a stealer of a bench's deque, and a pass of one
abbrev pub DequeStealer : Type 0
DequeStealer = Stealer Drain Global Account FirstOut

abbrev pub DequePass : Type 0
DequePass = Pass Drain Account Global

-- what a pass knows
abbrev pub known_by : DequePass → Account
known_by p = view p

-- the plan of the rack
abbrev pub plan_of : Rack → PlanView
plan_of r = r.tokens.shared.key

-- how many benches it has
abbrev pub benches_of : Rack → ℕ
benches_of r = length r.thieves.items

-- it is a Drain of this rack
abbrev pub IsRackDrain : Rack → Drain → Type 0
IsRackDrain r d = IsDrainOf r.tokens.shared.table_id r.places.shared.table_id d

-- the bench's number; how many Drains it pushed, and how many it may push
abbrev pub number_of : Bench → ℕ
number_of b = b.number

abbrev pub pushed_by : Bench → ℕ
pushed_by b = b.deque.pushed

abbrev pub most_of : Bench → ℕ
most_of b = b.deque.most

-- what the bench knows of the places
abbrev pub sight_of : Bench → Sight
sight_of b = b.seat.me.0

-- the number of the bench's seat among the seats of the places
abbrev pub seat_of : Bench → ℕ
seat_of b = b.seat.id

-- what the bench knows of its own deque: what it pushed and what it took
abbrev pub own_account : Bench → Account
own_account b = worker_view b.deque.worker

-- what the bench knows of the deque of another: what it stole
abbrev pub IsAccountAt : Bench → ℕ → Account → Type 0
IsAccountAt b victim v =
    (p : DequePass) × (victim < length b.passes.items) × (slice_index_or b.passes.items victim p ≡ p)
    × (known_by p ≡ v)

-- what a steal tells of what the bench knew of the victim's deque before and knows after
abbrev pub StealTells : ℕ → Bench → Bench → (Account → Account → Type 0) → Type 0
StealTells victim b c tells =
    (v : Account) × (w : Account) × IsAccountAt b victim v × IsAccountAt c victim w × tells v w

-- it is the rack that is meant
abbrev pub IsIdOf : Rack → RackId → Type 0
IsIdOf r id = (id.tokens.table_id ≡ r.tokens.shared.table_id) × (id.places.table_id ≡ r.places.shared.table_id)

-- it is a bench of this rack: its deque is the one from which others steal by its number, and its pass of each number is
-- one of that bench's deque
pub record IsBenchOf (r : Rack) (b : Bench) : Type 0 where
  pub number : b.number < benches_of r
  pub seat : b.seat.table_id ≡ r.places.shared.table_id
  pub tokens : b.seat.me.0.tokens.table_id ≡ r.tokens.shared.table_id
  pub rack : IsIdOf r (own_account b).rack
  pub own : (t : DequeStealer)
      → stealer_deque (slice_index_or r.thieves.items b.number t) ≡ worker_deque b.deque.worker
  pub count : length b.passes.items ≡ benches_of r
  pub table : (k : ℕ) (t : DequeStealer) (p : DequePass) → k < benches_of r
      → IsPassOf (stealer_deque (slice_index_or r.thieves.items k t)) (slice_index_or b.passes.items k p)
  pub fifo : (k : ℕ) (t : DequeStealer) → k < benches_of r
      → stealer_flavor (slice_index_or r.thieves.items k t) ≡ 0
  pub known : (k : ℕ) (p : DequePass) → k < benches_of r
      → ((known_by (slice_index_or b.passes.items k p)).fresh ≡ false)
      × IsIdOf r (known_by (slice_index_or b.passes.items k p)).rack

-- the benches have the numbers from 0 in their order
abbrev pub AreNumbered : List Bench → Type 0
AreNumbered benches = (k : ℕ) (b : Bench) → k < length benches → number_of (slice_index_or benches k b) ≡ k

-- the bench may push `most` Drains; it made no call yet, and has seen no more than that each Drain sleeps at the start
pub record IsUnused (most : ℕ) (b : Bench) : Type 0 where
  pub most_is : most_of b ≡ most
  pub pushed : pushed_by b ≡ 0
  pub sent : (own_account b).sent ≡ []
  pub took : (own_account b).took ≡ []
  pub stole : (k : ℕ) (p : DequePass) → k < length b.passes.items
      → (known_by (slice_index_or b.passes.items k p)).took ≡ []
  pub seen : (sight_of b).seen ≡ []
  pub did : (sight_of b).did ≡ 0

-- what a call on the places leaves of a bench
abbrev pub SameButSeat : Bench → Bench → Type 0
SameButSeat b c = (c.number ≡ b.number) × (c.deque ≡ b.deque) × (c.passes ≡ b.passes)

-- what a call on its own deque leaves of a bench
abbrev pub SameButDeque : Bench → Bench → Type 0
SameButDeque b c = (c.number ≡ b.number) × (c.seat ≡ b.seat) × (c.passes ≡ b.passes) × (most_of c ≡ most_of b)

-- what a steal from one deque leaves of a bench
abbrev pub SameButPass : ℕ → Bench → Bench → Type 0
SameButPass victim b c =
    (c.number ≡ b.number) × (c.deque ≡ b.deque) × (c.seat ≡ b.seat)
    × ((k : ℕ) (p : DequePass) → k ≢ victim
    → slice_index_or c.passes.items k p ≡ slice_index_or b.passes.items k p)
