-- What the parts' calls ask beside the shape: that no number is too large, and that a block waits at one place at a time. All
-- of it follows from the ties.
use Rattle.std.specs.Prelude.{◌≡◌, ◌≤◌, ◌+◌, ◌-◌, ◌*◌, ℕ, Bool, true, List, length, Option, Some, None, is_some, if◌then◌else◌, sum, option_map, option_and_then}
use Rattle.std.specs.Option.{option_map_or}
use Rattle.gcd_plan.specs.PlanView.{PlanView}
use Rattle.gcd_plan.specs.declared.numbers.Obj.{Obj}
use Rattle.gcd_plan.specs.declared.reason.Reason.TheVariants.{Rank}
use Rattle.gcd_event.specs.declared.event.Event.{Event}
use Rattle.gcd_history.specs.declared.submission.Submission.{Submission}
use Rattle.gcd_history.specs.Runs.{is_started}
use Rattle.gcd_history.specs.Submitted.{submission_of}
use Rattle.gcd_lists.specs.ListsView.{place_of}
use Rattle.gcd_hold.specs.HoldsView.{hold_at}
use Rattle.gcd_drain.specs.DrainsView.{barriers_at}
use Rattle.gcd_group.specs.GroupsView.{count_at, entered_at}
use Rattle.gcd_sema.specs.SemasView.{signals_at, waits_at, room_at}
use Rattle.gcd_sync.specs.WaitsView.{reason_at, limit_at}
use Rattle.gcd_source.specs.SourcesView.{pending_at}
use Rattle.gcd_refinement.specs.MachineView.{MachineView, block_at, is_wakeable_at, handler_at, refs_at}
use Rattle.gcd_plan.specs.Limits.{max_value}

-- the semaphore has given this rank
pub record IsRank (v : MachineView) (s rank : ℕ) : Type 0 where
  pub low : 1 ≤ rank
  pub high : rank ≤ waits_at v.semas s

-- no count is above the length of the history, and the first event of one retains nothing; a merge adds at most `max_value`
pub record NumbersAreSmall (plan : PlanView) (past : List Event) (v : MachineView) : Type 0 where
  pub refs : (o : ℕ) → refs_at v o ≤ length past - 1 + 1
  pub holds : (o : ℕ) → hold_at v.holds o ≤ length past
  pub runs : sum v.tree.open_on ≤ length past
  pub barriers : (n : ℕ) → barriers_at v.drains n ≤ length past
  pub counts : (g : ℕ) → count_at v.groups g ≤ length past
  pub entered : (g : ℕ) → entered_at v.groups g ≤ count_at v.groups g
  pub signals : (s : ℕ) → signals_at v.semas s ≤ length past
  pub waits : (s : ℕ) → waits_at v.semas s ≤ room_at v.semas s
  pub ranks : (b : ℕ) (s : Obj) (k : ℕ) → reason_at v.waits b ≡ Some (Rank s k) → IsRank v s.0 k
  pub limits : (b t : ℕ) → limit_at v.waits b ≡ Some t → t ≤ plan.until
  pub pending : (s : ℕ) → pending_at v.sources s ≤ length past * max_value
  pub moment : v.timers.moment ≤ plan.until
  pub block_acts : (b : ℕ) → (block_at v b).done ≤ length past
  pub handler_acts : (s : ℕ) → (handler_at v s).done ≤ length past
  pub running : v.running ≤ length past
  pub left : v.left ≤ length plan.blocks
  pub accepted : v.accepted ≤ option_map_or (λ i. i.count) plan.intake 0

-- the place of what is submitted and not started
abbrev pub place_in : List Event → Submission → Option (Obj × Bool)
place_in past s = if is_started past s.blk.0 then None else option_map (λ n. (n, s.barrier)) s.node

-- where blocks wait, and that a block which is not parked, or may wake, sleeps nowhere
pub record PlacesAre (plan : PlanView) (past : List Event) (v : MachineView) : Type 0 where
  pub waiting : (b : ℕ) → place_of v.lists b ≡ option_and_then (place_in past) (submission_of plan past b)
  pub awake : (b : ℕ) → reason_at v.waits b ≡ None → place_of v.sleepers b ≡ None
  pub called : (b : ℕ) → is_wakeable_at v b ≡ true → place_of v.sleepers b ≡ None
  pub unregistered : (b : ℕ) → is_some (submission_of plan past b) ≡ true → place_of v.groups.notify b ≡ None
  pub patient : (b : ℕ) → reason_at v.waits b ≡ None → place_of v.waiters b ≡ None
  pub released : (b : ℕ) → is_wakeable_at v b ≡ true → place_of v.waiters b ≡ None
  pub untold : (b : ℕ) → is_some (submission_of plan past b) ≡ true → place_of v.marks.notify b ≡ None
