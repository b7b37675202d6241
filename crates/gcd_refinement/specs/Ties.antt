-- What each part of the view is of a plan and a history, the newest event first: one record for each part. Each clause is for
-- every number, of the plan or not, but where it says so.
use Rattle.std.specs.Prelude.{◌≡◌, ◌≤◌, ◌<◌, ℕ, ◌+◌, nat_lt, Bool, false, not, ◌&&◌, if◌then◌else◌, List, ◌++◌, length, map, filter, Option, Some, None, is_some, count_by, option_and_then, option_to_list}
use Rattle.std.specs.Option.{option_map_or}
use Rattle.std.specs.List.{list_any}
use Rattle.gcd_plan.specs.PlanView.{PlanView}
use Rattle.gcd_plan.specs.Made.{is_within, strip_blocks}
use Rattle.gcd_plan.specs.declared.numbers.Blk.{Blk}
use Rattle.gcd_plan.specs.declared.numbers.Run.{Run}
use Rattle.gcd_plan.specs.declared.numbers.Run.TheVariants.{Block, Source}
use Rattle.gcd_event.specs.declared.event.Event.{Event}
use Rattle.gcd_history.specs.declared.submission.Submission.{Submission}
use Rattle.gcd_history.specs.Runs.{same_run, open_runs, act_of, acts_done, is_started, is_ended}
use Rattle.gcd_history.specs.Groups.{enters, leaves, count, is_empty_above}
use Rattle.gcd_history.specs.Submitted.{submitted, submission_of, is_cancelled, notify_blocks, end_notify_blocks}
use Rattle.gcd_history.specs.Cancelled.{is_block_cancelled}
use Rattle.gcd_history.specs.Intake.{shuts, is_accepted, is_intake_open, next_of_intake}
use Rattle.gcd_history.specs.Tree.{Aim, aim, open_on}
use Rattle.gcd_history.specs.Holds.{hold, is_active}
use Rattle.gcd_history.specs.Semas as semas
use Rattle.gcd_history.specs.Parked.{awaited, running, has_run, may_wake, has_run_out}
use Rattle.gcd_history.specs.Expired.{has_expired}
use Rattle.gcd_history.specs.Timers as timers
use Rattle.gcd_history.specs.Due.{limit}
use Rattle.gcd_history.specs.Sources.{pending, last_data, is_live_feed}
use Rattle.gcd_history.specs.Misuses.{retains, releases}
use Rattle.gcd_history.specs.Permitted.{waits_on, first_waiting, is_barrier_on, ends_in_misuse, ends_in_halt}
use Rattle.gcd_lists.specs.ListsView.{list_at}
use Rattle.gcd_tree.specs.TreeView.{TreeView, target_at, request_at, open_on_at}
use Rattle.gcd_hold.specs.HoldsView.{hold_at, is_active_at}
use Rattle.gcd_drain.specs.DrainsView.{barriers_at}
use Rattle.gcd_group.specs.GroupsView.{count_at, entered_at, emptied_at, due_at, is_empty_since}
use Rattle.gcd_sema.specs.SemasView.{signals_at, expiries_at}
use Rattle.gcd_sync.specs.WaitsView.{reason_at, limit_at, has_expired_at}
use Rattle.gcd_source.specs.SourcesView.{pending_at, is_cancelled_at as is_source_cancelled_at}
use Rattle.gcd_timer.specs.TimersView.{activated_at, cancelled_at, due_count_at}
use Rattle.gcd_apply.specs.StripsView.{left_at}
use Rattle.gcd_plan.specs.Needs.{mark_room}
use Rattle.gcd_blockobj.specs.MarksView.{is_cancelled_at, has_begun_at, has_ended_at}
use Rattle.gcd_refinement.specs.MachineView.{MachineView, block_at, ended_at, is_wakeable_at, ahead_at, is_ripe_at, handler_at, busy_at, at_worker, refs_at, live_at, applier_at}
use Rattle.gcd_refinement.specs.Sleepers.{group_of, caller_of, sema_sleepers, group_sleepers, end_waiters, strip_sleepers, limit_ahead, may_expire}

-- ## The parts

-- the references on each object of the plan, as a sum, since there is no number below 0
pub record ReferencesAre (plan : PlanView) (past : List Event) (v : MachineView) : Type 0 where
  pub counted : (o : ℕ) → o < length plan.objects
      → refs_at v o + count_by (λ e. releases o (act_of plan e)) past ≡ 1 + count_by (λ e. retains o (act_of plan e)) past

-- a submission as the lists have it
abbrev pub waiter : Submission → Blk × Bool
waiter s = (s.blk, s.barrier)

-- what waits on each node, in the order of submission
pub record ListsAre (plan : PlanView) (past : List Event) (v : MachineView) : Type 0 where
  pub waiting : (n : ℕ) → list_at v.lists n ≡ map waiter (filter (waits_on past n) (submitted plan past))

-- the target and the request of object o
abbrev pub aim_at : TreeView → ℕ → Aim
aim_at tree o = record { target = target_at tree o; request = request_at tree o }

-- targets and requests, and how many runs are open on each object
pub record TreeIs (plan : PlanView) (past : List Event) (v : MachineView) : Type 0 where
  pub aims : (o : ℕ) → aim_at v.tree o ≡ aim plan past o
  pub runs : (o : ℕ) → open_on_at v.tree o ≡ open_on plan past o

-- holds, and what is active
pub record HoldsAre (plan : PlanView) (past : List Event) (v : MachineView) : Type 0 where
  pub holds : (o : ℕ) → hold_at v.holds o ≡ hold plan past o
  pub active : (o : ℕ) → is_active_at v.holds o ≡ is_active plan past o

-- the open barriers on each node
pub record DrainsAre (plan : PlanView) (past : List Event) (v : MachineView) : Type 0 where
  pub barriers : (n : ℕ) → barriers_at v.drains n ≡ count_by (is_barrier_on plan past n) (open_runs past)

-- a notify block as the history has it: it goes to its home
abbrev pub notify_submission : MachineView → Blk × Bool → Submission
notify_submission v w = record { blk = w.0; node = Some (block_at v w.0.0).home; barrier = w.1 }

-- what groups count, when they were empty, and the notify blocks that have not fired, of which none is due
pub record GroupsAre (plan : PlanView) (past : List Event) (v : MachineView) : Type 0 where
  pub counts : (g : ℕ) → count_at v.groups g ≡ count plan past g
  pub entered : (g : ℕ)
      → entered_at v.groups g + count_by (λ e. leaves g (act_of plan e)) past ≡ count_by (λ e. enters g (act_of plan e)) past
  pub empty : (g p : ℕ) → p < length past → is_empty_since v.groups g (p + 1) ≡ is_empty_above plan past g p
  pub emptied : (g : ℕ) → emptied_at v.groups g ≤ length past
  pub notify : (g : ℕ) → map (notify_submission v) (list_at v.groups.notify g) ≡ notify_blocks plan past g
  pub fired : (g : ℕ) → due_at v.groups g ≡ 0

-- signals, and of each wait whether it has expired
pub record SemasAre (plan : PlanView) (past : List Event) (v : MachineView) : Type 0 where
  pub signals : (s : ℕ) → signals_at v.semas s ≡ semas.signal_count plan past s
  pub waits : (s : ℕ) → expiries_at v.semas s ≡ map (has_expired past) (semas.waits_on plan past s)

-- what each block is parked for, the limit of its wait, and whether this has expired
pub record WaitsAre (plan : PlanView) (past : List Event) (v : MachineView) : Type 0 where
  pub reasons : (b : ℕ) → reason_at v.waits b ≡ awaited plan past (Block (record { 0 = b }))
  pub limits : (b : ℕ) → limit_at v.waits b ≡ limit plan past b
  pub expired : (b : ℕ) → has_expired_at v.waits b ≡ option_map_or (has_run_out plan past) (awaited plan past (Block (record { 0 = b }))) false

-- cancelled sources, and what is pending: of a timer the due times that no delivery took; of the others none are due, so that
-- none are taken
pub record SourcesAre (plan : PlanView) (past : List Event) (v : MachineView) : Type 0 where
  pub cancelled : (s : ℕ) → is_source_cancelled_at v.sources s ≡ is_cancelled plan past s
  pub pending : (s : ℕ)
      → pending_at v.sources s + due_count_at v.timers s ≡ (handler_at v s).taken + pending plan past s
  pub taken : (s : ℕ) → (handler_at v s).taken ≤ due_count_at v.timers s

-- the time, and when each object was activated and cancelled
pub record TimersAre (plan : PlanView) (past : List Event) (v : MachineView) : Type 0 where
  pub moment : v.timers.moment ≡ timers.now past
  pub activated : (s : ℕ) → activated_at v.timers s ≡ timers.activated_at plan past s
  pub cancelled : (s : ℕ) → cancelled_at v.timers s ≡ timers.cancelled_at plan past s

-- ## The machine's own arrays

-- the worker has this run
abbrev pub is_run : Run → Option Run → Bool
is_run run None = false
is_run run (Some own) = same_run own run

-- the runs of the workers; a worker that has none may be free or have no number of a worker
pub record WorkersAre (plan : PlanView) (past : List Event) (v : MachineView) : Type 0 where
  pub runs : (w : ℕ) (run : Run) → has_run plan past w run ≡ is_run run (at_worker v w)

-- what each block has come to
pub record BlocksAre (plan : PlanView) (past : List Event) (v : MachineView) : Type 0 where
  pub node : (b : ℕ) → (block_at v b).node ≡ option_and_then (λ s. s.node) (submission_of plan past b)
  pub barrier : (b : ℕ) → (block_at v b).barrier ≡ option_map_or (λ s. s.barrier) (submission_of plan past b) false
  pub started : (b : ℕ) → (block_at v b).started ≡ is_started past b
  pub done : (b : ℕ) → (block_at v b).done ≡ acts_done past (Block (record { 0 = b }))
  pub group : (b : ℕ) → (block_at v b).group ≡ group_of plan past b
  pub caller : (b : ℕ) → (block_at v b).caller ≡ caller_of plan past b
  pub ended : (b : ℕ) → ended_at v b ≡ is_ended past b

-- what the handlers have made and got
pub record HandlersAre (plan : PlanView) (past : List Event) (v : MachineView) : Type 0 where
  pub done : (s : ℕ) → (handler_at v s).done ≡ acts_done past (Source (record { 0 = s }))
  pub given : (s : ℕ) → (handler_at v s).given ≡ last_data plan past s

-- which parked blocks may wake, and which sleep, their wait neither passed nor expired: a list has blocks of a semaphore or of a
-- group, since no object is both
pub record WakesAre (plan : PlanView) (past : List Event) (v : MachineView) : Type 0 where
  pub wakeable : (b : ℕ) → is_wakeable_at v b ≡ may_wake plan past b
  pub of_sema : (s : ℕ) → map (λ w. w.0) (list_at v.sleepers s) ≡ sema_sleepers plan past s ++ group_sleepers plan past s

-- who waits for the end of a block by an act of its own, and who applied a strip, where that has not come
pub record WaitersAre (plan : PlanView) (past : List Event) (v : MachineView) : Type 0 where
  pub of_block : (c : ℕ) → map (λ w. w.0) (list_at v.waiters c) ≡ end_waiters plan past c
  pub of_strip : (a : ℕ) → option_to_list (applier_at v a) ≡ strip_sleepers plan past a

-- how many blocks of each strip have not ended
pub record StripsAre (plan : PlanView) (past : List Event) (v : MachineView) : Type 0 where
  pub left : (a : ℕ) → left_at v.strips a ≡ count_by (λ b. not (is_ended past b.0)) (strip_blocks plan a)

-- which blocks are cancelled; where marks are kept, which have started and ended; and the notify blocks of blocks that have not
-- ended, of which none is due
pub record BlockMarksAre (plan : PlanView) (past : List Event) (v : MachineView) : Type 0 where
  pub cancelled : (b : ℕ) → is_cancelled_at v.marks b ≡ is_block_cancelled plan past b
  pub began : (b : ℕ) → b < mark_room plan → has_begun_at v.marks b ≡ is_started past b
  pub ended : (b : ℕ) → b < mark_room plan → has_ended_at v.marks b ≡ is_ended past b
  pub notify : (b : ℕ) → map (notify_submission v) (list_at v.marks.notify b) ≡ end_notify_blocks plan past b

-- the next block of the intake, told by how many are accepted
abbrev pub next_in : PlanView → MachineView → Option Blk
next_in plan v =
    option_and_then (λ i. if not v.shut && nat_lt v.accepted i.count then Some (record { 0 = i.first + v.accepted }) else None) plan.intake

-- the blocks of the intake that are accepted, told by how many they are
abbrev pub is_taken : PlanView → MachineView → ℕ → Bool
is_taken plan v b = option_map_or (λ i. is_within b (record { first = i.first; count = v.accepted })) plan.intake false

-- whether the intake is shut, which of its blocks are accepted, whether it is open, and the next of its blocks
pub record IntakeIs (plan : PlanView) (past : List Event) (v : MachineView) : Type 0 where
  pub shut : v.shut ≡ list_any shuts past
  pub taken : (b : ℕ) → is_accepted past b ≡ is_taken plan v b
  pub few : v.accepted ≤ option_map_or (λ i. i.count) plan.intake 0
  pub is_open : (is_some plan.intake && not v.shut) ≡ is_intake_open plan past
  pub next : next_in plan v ≡ next_of_intake plan past

-- which limits are ahead, and which waits may expire
pub record LimitsAre (plan : PlanView) (past : List Event) (v : MachineView) : Type 0 where
  pub ahead : (b : ℕ) → ahead_at v b ≡ limit_ahead plan past b
  pub ripe : (b : ℕ) → is_ripe_at v b ≡ may_expire plan past b

-- an object that has not to be looked at: nothing waits there, and nothing is pending
pub record IsIdleObject (plan : PlanView) (past : List Event) (o : ℕ) : Type 0 where
  pub nothing_waits : first_waiting plan past o ≡ None
  pub nothing_pends : pending plan past o ≡ 0

-- each object that is not marked is idle; a marked one may be idle too
pub record MarksAre (plan : PlanView) (past : List Event) (v : MachineView) : Type 0 where
  pub idle : (o : ℕ) → busy_at v o ≡ false → IsIdleObject plan past o

-- the numbers and flags
pub record TotalsAre (plan : PlanView) (past : List Event) (v : MachineView) : Type 0 where
  pub running : v.running ≡ running plan past
  pub left : v.left ≡ count_by (λ s. not (is_ended past s.blk.0)) (submitted plan past)
  pub live : (s : ℕ) → live_at v s ≡ is_live_feed plan past s
  pub misused : v.misused ≡ ends_in_misuse past
  pub halted : v.halted ≡ ends_in_halt past
  pub len : v.len ≡ length past
