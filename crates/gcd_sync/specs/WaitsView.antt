-- Parked blocks, as their readers see them: what each block waits for, and when that has come (dispatch_sync(3),
-- dispatch_group_wait(3), dispatch_semaphore_wait(3), dispatch_apply(3), dispatch_block_wait(3)).
use Rattle.std.specs.Prelude.{◌≡◌, ℕ, ◌==◌, ◌+◌, ◌<◌, ◌≤◌, ◌^◌, Bool, true, false, ◌||◌, List, length, replicate, Option, Some, None, slice_index_or, slice_set}
use Rattle.std.specs.Option.{option_map_or}
use Rattle.gcd_plan.specs.PlanView.{PlanView}
use Rattle.gcd_plan.specs.declared.reason.Reason.{Reason}
use Rattle.gcd_plan.specs.declared.reason.Reason.TheVariants.{Block, Group, Strip, Rank}
use Rattle.gcd_group.specs.GroupsView.{GroupsView, is_empty_since}
use Rattle.gcd_sema.specs.SemasView.{SemasView, is_passed_at}
use Rattle.gcd_apply.specs.StripsView.{StripsView, left_at}
use Rattle.gcd_plan.specs.Needs.{limit_room, park_room}

-- for each block of which that is kept, by number, what it waits for if it is parked, and the limit of this wait if it has one; for
-- each block whether the wait has expired; and how many objects and strips there are; times are milliseconds
pub record WaitsView : Type 0 where
  pub reasons : List (Option Reason)
  pub limits : List (Option ℕ)
  pub expired : List Bool
  pub objects : ℕ
  pub strips : ℕ

-- a plan's blocks before the first event: none is parked
abbrev pub waits_of : PlanView → WaitsView
waits_of plan = record {
  reasons = replicate (park_room plan) None;
  limits = replicate (limit_room plan) None;
  expired = replicate (length plan.blocks) false;
  objects = length plan.objects;
  strips = length plan.strips;
}

-- what block b waits for, where it is parked
abbrev pub reason_at : WaitsView → ℕ → Option Reason
reason_at view b = slice_index_or view.reasons b None

-- the limit of block b's wait, where it is parked with one, and whether its wait has expired
abbrev pub limit_at : WaitsView → ℕ → Option ℕ
limit_at view b = slice_index_or view.limits b None

abbrev pub has_expired_at : WaitsView → ℕ → Bool
has_expired_at view b = slice_index_or view.expired b false

-- what is waited for is of the plan, a position of the history has one after it, and a rank is a wait's, from 1
abbrev pub Fits : WaitsView → Reason → Type 0
Fits view (Block b) = b.0 < length view.expired
Fits view (Group g position) = (g.0 < view.objects) × (position + 1 < 2 ^ 32)
Fits view (Strip a) = a < view.strips
Fits view (Rank s rank) = (s.0 < view.objects) × (1 ≤ rank)

-- what is waited for has come: the block has ended, the group was empty above the position, all blocks of the strip have ended, or
-- the wait of the rank passes (dispatch_sync(3), dispatch_block_wait(3), dispatch_group_wait(3), dispatch_apply(3),
-- dispatch_semaphore_wait(3))
abbrev pub has_come_in : GroupsView → SemasView → StripsView → (ended : List Bool) → Reason → Bool
has_come_in groups semas strips ended (Block b) = slice_index_or ended b.0 false
has_come_in groups semas strips ended (Group g position) = is_empty_since groups g.0 (position + 1)
has_come_in groups semas strips ended (Strip a) = left_at strips a == 0
has_come_in groups semas strips ended (Rank s rank) = is_passed_at semas s.0 rank

-- block b is parked, and what it waits for has come, or its wait has expired
abbrev pub may_wake_in : WaitsView → GroupsView → SemasView → StripsView → (ended : List Bool) → ℕ → Bool
may_wake_in view groups semas strips ended b =
    option_map_or (λ why. has_come_in groups semas strips ended why || has_expired_at view b) (reason_at view b) false

-- the same with block b parked for the reason, with this limit or without one; not parked; and with its wait expired
abbrev pub with_parked : WaitsView → ℕ → Reason → (limit : Option ℕ) → WaitsView
with_parked view b why limit = record view {
  reasons = slice_set view.reasons b (Some why);
  limits = slice_set view.limits b limit;
  expired = slice_set view.expired b false;
}

abbrev pub with_woken : WaitsView → ℕ → WaitsView
with_woken view b = record view {
  reasons = slice_set view.reasons b None;
  limits = slice_set view.limits b None;
  expired = slice_set view.expired b false;
}

abbrev pub with_expired : WaitsView → ℕ → WaitsView
with_expired view b = record view { expired = slice_set view.expired b true }

-- each reason fits
pub record AllFit (view : WaitsView) : Type 0 where
  pub fits : (b : ℕ) (why : Reason) → reason_at view b ≡ Some why → Fits view why
  pub expired : length view.reasons ≤ length view.expired
  pub awake : (b : ℕ) → reason_at view b ≡ None → limit_at view b ≡ None
  pub kept : (b : ℕ) → reason_at view b ≡ None → has_expired_at view b ≡ false
