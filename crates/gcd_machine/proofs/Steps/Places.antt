-- Where blocks wait after one block more, or one less.
use Rattle.std.proofs.Common.{◌≡◌, ◌≢◌, ℕ, Bool, true, Some, is_some}
use Rattle.std.specs.List.{slice_get}
use Rattle.gcd_plan.specs.declared.numbers.Blk.{Blk}
use Rattle.gcd_plan.specs.declared.numbers.Obj.{Obj}
use Rattle.gcd_lists.specs.ListsView.{ListsView, list_at, place_of}
use Rattle.gcd_lists.proofs.Places.{place_pushed, place_popped, place_first}
use Rattle.gcd_refinement.specs.AfterSleepers.{popped, pushed_on}

-- a block that another follows onto a node waits where it waited
pub waits_as_before : (lists : ListsView) (n : Obj) (b : Blk) (barrier : Bool) (c : ℕ) → b.0 ≢ c → place_of (pushed_on lists n b barrier) c ≡ place_of lists c
waits_as_before lists n b barrier c other = place_pushed 0 lists.lists n.0 c (b, barrier) other

-- who waits after another has left waited before
pub waited_before : (lists : ListsView) (n : Obj) (c : ℕ) → is_some (place_of (popped lists (Some n)) c) ≡ true → is_some (place_of lists c) ≡ true
waited_before lists n c some = place_popped 0 lists.lists n.0 c some

-- the first on a node waits there
pub first_waits : (lists : ListsView) (n : ℕ) (w : Blk × Bool) → slice_get (list_at lists n) 0 ≡ Some w → is_some (place_of lists w.0.0) ≡ true
first_waits lists n w first = place_first 0 lists.lists n w first
