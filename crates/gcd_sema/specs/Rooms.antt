-- How many waits each semaphore of a plan may see, and where its cells begin. No contract of a public call cites this: it is
-- for the proofs of this crate alone.
use Rattle.std.specs.Prelude.{◌≡◌, ℕ, ◌+◌, ◌*◌, ◌<◌, ◌≤◌, List, length, slice_index}
use Rattle.gcd_plan.specs.Limits.{max_acts}
use Rattle.gcd_plan.specs.PlanView.{PlanView}
use Rattle.gcd_sema.specs.SemasView.{wait_acts}

-- for each object by number, how many acts of the plan wait for it
pub record AreRooms (plan : PlanView) (rooms : List ℕ) : Type 0 where
  pub long : length rooms ≡ length plan.objects
  pub counted : (s : ℕ) → s < length rooms → slice_index rooms s ≡ wait_acts plan s

-- the first n begin one after the other, each with as much room as is said, and the last number is the end;
-- each has room for no more acts than there may be
pub record Rise (rooms bases : List ℕ) (n : ℕ) : Type 0 where
  pub long : length bases ≡ n + 1
  pub first : slice_index bases 0 ≡ 0
  pub low : slice_index bases n ≤ n * max_acts
  pub next : (s : ℕ) → s < n → slice_index bases (s + 1) ≡ slice_index bases s + slice_index rooms s
