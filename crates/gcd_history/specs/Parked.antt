-- Which blocks are parked, what they wait for, and which runs a worker has (dispatch_sync(3), dispatch_group_wait(3),
-- dispatch_semaphore_wait(3), dispatch_apply(3), dispatch_block_wait(3)).
use Rattle.std.specs.Prelude.{ℕ, ◌+◌, ◌==◌, Bool, false, ◌&&◌, ◌||◌, if◌then◌else◌, List, [], ◌∷◌, length, Option, Some, None, is_some, is_none, count_by}
use Rattle.std.specs.Option.{option_map_or}
use Rattle.std.specs.List.{list_any, list_all}
use Rattle.gcd_plan.specs.Effects.{Awaits, effects_of, goes_on, end_of_own, end_of, empty_group, turn_at, ends_of, parks}
use Rattle.gcd_plan.specs.PlanView.{PlanView}
use Rattle.gcd_plan.specs.Made.{strip_blocks}
use Rattle.gcd_plan.specs.declared.act.Act.{Act}
use Rattle.gcd_plan.specs.declared.numbers.Run.{Run}
use Rattle.gcd_plan.specs.declared.numbers.Run.TheVariants.{Block}
use Rattle.gcd_plan.specs.declared.reason.Reason.{Reason}
use Rattle.gcd_plan.specs.declared.reason.Reason.TheVariants.{Block as EndOf, Group, Strip, Rank}
use Rattle.gcd_event.specs.declared.event.Event.{Event}
use Rattle.gcd_event.specs.declared.event.Event.TheVariants.{Act as Acted, Wake}
use Rattle.gcd_history.specs.Runs.{same_run, opens, is_open, open_runs, act_at, last_worker, is_ended}
use Rattle.gcd_history.specs.Expired.{has_expired}
use Rattle.gcd_history.specs.Groups.{group_passes}
use Rattle.gcd_history.specs.Semas.{wait_count, passes, is_expired_wait}

-- the wait, begun after past: for a group that is empty at that position or later, or for the rank at a semaphore that comes next
abbrev pub reason_of : PlanView → List Event → Awaits → Option Reason
reason_of plan past goes_on = None
reason_of plan past (end_of_own b) = Some (EndOf b)
reason_of plan past (end_of b) = Some (EndOf b)
reason_of plan past (empty_group g) = Some (Group g (length past))
reason_of plan past (turn_at s) = Some (Rank s (wait_count plan past s.0 + 1))
reason_of plan past (ends_of a) = Some (Strip a)

-- what the act, recorded after past, makes its block wait for (dispatch_sync(3), dispatch_barrier_sync(3),
-- dispatch_group_wait(3), dispatch_semaphore_wait(3), dispatch_apply(3), dispatch_block_wait(3))
abbrev pub awaited_by : PlanView → List Event → Option Act → Option Reason
awaited_by plan past act = reason_of plan past (effects_of act).awaits

-- the act parks its block until a Wake
abbrev pub is_parking : Option Act → Bool
is_parking None = false
is_parking (Some act) = parks act

-- what the run's last act makes it wait for, where no Wake stands since
abbrev pub parked_by : PlanView → List Event → Run → Option Reason
parked_by plan [] run = None
parked_by plan (Acted w r i ∷ past) run = if same_run r run then awaited_by plan past (act_at plan r i) else parked_by plan past run
parked_by plan (Wake w b ∷ past) run = if same_run (Block b) run then None else parked_by plan past run
parked_by plan (e ∷ past) run = if opens e run then None else parked_by plan past run

-- what the run waits for, where it is parked: open, and its last act has parked it (this project's own rule)
unfoldable pub awaited : PlanView → List Event → Run → Option Reason
awaited plan past run = if is_open past run then parked_by plan past run else None

-- block b is parked
unfoldable pub is_parked : PlanView → List Event → ℕ → Bool
is_parked plan past b = is_some (awaited plan past (Block (record { 0 = b })))

-- how many runs are open and not parked
abbrev pub running : PlanView → List Event → ℕ
running plan past = count_by (λ run. is_none (parked_by plan past run)) (open_runs past)

-- the worker's: open, not parked, and last started, woken or delivered by w (this project's own rule)
unfoldable pub has_run : PlanView → List Event → ℕ → Run → Bool
has_run plan past w run =
    is_open past run && (is_none (parked_by plan past run) && option_map_or (λ v. v == w) (last_worker past run) false)

-- the worker has a run that is open and not parked
unfoldable pub is_busy : PlanView → List Event → ℕ → Bool
is_busy plan past w = list_any (has_run plan past w) (open_runs past)

-- what is waited for has come: the block has ended, the wait passes, or all blocks of the strip have ended (dispatch_sync(3),
-- dispatch_block_wait(3), dispatch_group_wait(3), dispatch_apply(3), dispatch_semaphore_wait(3))
unfoldable pub has_come : PlanView → List Event → Reason → Bool
has_come plan past (EndOf b) = is_ended past b.0
has_come plan past (Group g position) = group_passes plan past g.0 position
has_come plan past (Strip a) = list_all (λ b. is_ended past b.0) (strip_blocks plan a)
has_come plan past (Rank s k) = passes plan past s.0 k

-- the wait has expired; a wait for the end of a block or of a strip has no limit, and never does (dispatch_group_wait(3),
-- dispatch_semaphore_wait(3))
unfoldable pub has_run_out : PlanView → List Event → Reason → Bool
has_run_out plan past (EndOf b) = false
has_run_out plan past (Group g position) = has_expired past position
has_run_out plan past (Strip a) = false
has_run_out plan past (Rank s k) = is_expired_wait plan past s.0 k

-- the wait is over: what is waited for has come, or the wait has expired
abbrev pub is_over : PlanView → List Event → Reason → Bool
is_over plan past awaited = has_come plan past awaited || has_run_out plan past awaited

-- block b is parked, and its wait is over
unfoldable pub may_wake : PlanView → List Event → ℕ → Bool
may_wake plan past b = option_map_or (is_over plan past) (awaited plan past (Block (record { 0 = b }))) false
