-- What holds of benches while a rack is made.
use Rattle.std.specs.Prelude.{◌≡◌, ℕ, ◌<◌, true, false, List, [], length, slice_index_or}
use Rattle.crossbeam_deque.specs.Handles.{worker_deque, stealer_deque, stealer_flavor, IsPassOf}
use Rattle.atomic_table.specs.Seated.{TableId}
use Rattle.gcd_steal.specs.declared.bench.Bench.{Bench}
use Rattle.gcd_steal.specs.declared.deque.RackId.{RackId}
use Rattle.gcd_steal.specs.Places.{sight}
use Rattle.gcd_steal.specs.Deques.{account}
use Rattle.gcd_steal.specs.Racks.{DequeStealer, DequePass, known_by, own_account, pushed_by, most_of}

-- b is the new bench of this number, with no pass yet, and t steals from its deque
pub record IsOpened (places : TableId) (rack : RackId) (most number : ℕ) (t : DequeStealer) (b : Bench) : Type 0 where
  pub number_is : b.number ≡ number
  pub seat : b.seat.table_id ≡ places
  pub sight_is : b.seat.me.0 ≡ sight rack.tokens [] 0
  pub account_is : own_account b ≡ account false true rack [] []
  pub pushed : pushed_by b ≡ 0
  pub most_is : most_of b ≡ most
  pub own : stealer_deque t ≡ worker_deque b.deque.worker
  pub fifo : stealer_flavor t ≡ 0

-- new benches by number, with the stealers of their deques
abbrev pub AreOpened : TableId → RackId → ℕ → List DequeStealer → List Bench → Type 0
AreOpened places rack most thieves benches =
    (k : ℕ) (t : DequeStealer) (b : Bench) → k < length benches
    → IsOpened places rack most k (slice_index_or thieves k t) (slice_index_or benches k b)

-- each bench's deque knows the rack
abbrev pub KnowRack : RackId → List Bench → Type 0
KnowRack rack benches =
    (k : ℕ) (b : Bench) → k < length benches → (own_account (slice_index_or benches k b)).rack ≡ rack

-- c is the bench b but for its passes and what no clause reads
pub record SameButPasses (b c : Bench) : Type 0 where
  pub number : c.number ≡ b.number
  pub seat : c.seat ≡ b.seat
  pub deque : worker_deque c.deque.worker ≡ worker_deque b.deque.worker
  pub known : own_account c ≡ own_account b
  pub pushed : pushed_by c ≡ pushed_by b
  pub most : most_of c ≡ most_of b

-- and with the same passes
pub record SameBench (b c : Bench) : Type 0 where
  pub but_passes : SameButPasses b c
  pub passes : c.passes ≡ b.passes

-- as many benches, each the same in that sense
pub record AreSame (same : Bench → Bench → Type 0) (old new : List Bench) : Type 0 where
  pub count : length new ≡ length old
  pub each : (k : ℕ) (b c : Bench) → k < length old → same (slice_index_or old k b) (slice_index_or new k c)

-- p is a pass of b's deque that knows the rack and took nothing
abbrev pub IsNewPass : RackId → Bench → DequePass → Type 0
IsNewPass rack b p = IsPassOf (worker_deque b.deque.worker) p × (known_by p ≡ account false false rack [] [])

-- a new pass of each bench's deque, by number
pub record AreNewPasses (rack : RackId) (benches : List Bench) (passes : List DequePass) : Type 0 where
  pub count : length passes ≡ length benches
  pub each : (k : ℕ) (b : Bench) (p : DequePass) → k < length benches
      → IsNewPass rack (slice_index_or benches k b) (slice_index_or passes k p)

-- the first n benches have a new pass of each bench's deque
abbrev pub HavePasses : RackId → List Bench → ℕ → Type 0
HavePasses rack benches n =
    (k : ℕ) (b : Bench) → k < n → AreNewPasses rack benches (slice_index_or benches k b).passes.items
