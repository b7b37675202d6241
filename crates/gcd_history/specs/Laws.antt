-- What holds of every lawful history, the oldest event first (this project's own rule, where a definition names no page).
use Rattle.std.specs.Prelude.{◌≡◌, ◌≤◌, ◌<◌, ◌+◌, ◌-◌, ◌&&◌, length, ℕ, ◌==◌, Bool, true, false, ◌||◌, if◌then◌else◌, List, [], ◌∷◌, ◌++◌, take, drop, Option, Some, None, unwrap_or, slice_get, count_by, IsTrue, All, AllPairs}
use Rattle.std.specs.List.{list_any, filter_map}
use Rattle.gcd_plan.specs.Effects.{Awaits, effects_of, goes_on, end_of_own, end_of, empty_group, turn_at, ends_of}
use Rattle.gcd_plan.specs.PlanView.{PlanView}
use Rattle.gcd_plan.specs.Chains.{is_in}
use Rattle.gcd_plan.specs.Made.{strip_blocks, intake_blocks}
use Rattle.gcd_plan.specs.Kinds.{is_exclusive, has_barriers, has_kind, is_replace_kind}
use Rattle.gcd_plan.specs.declared.act.Act.{Act}
use Rattle.gcd_plan.specs.declared.act.Act.TheVariants.{Apply, NotifyBlock}
use Rattle.gcd_plan.specs.declared.numbers.Run.{Run}
use Rattle.gcd_plan.specs.declared.numbers.Blk.{Blk}
use Rattle.gcd_plan.specs.declared.numbers.Obj.{Obj}
use Rattle.gcd_plan.specs.declared.numbers.Run.TheVariants.{Block, Source}
use Rattle.gcd_plan.specs.declared.reason.Reason.{Reason}
use Rattle.gcd_event.specs.declared.event.Event.{Event}
use Rattle.gcd_event.specs.declared.event.Event.TheVariants.{Start, Act as Acted, Wake, End, Deliver, DeliverEnd, Tick, Ready, FeedEnd, Misuse, Halt, Expire, Accept, Shut}
use Rattle.gcd_history.specs.declared.state.State.{State}
use Rattle.gcd_history.specs.declared.submission.Submission.{Submission}
use Rattle.gcd_history.specs.Runs.{starts, ends, act_of, act_at, same_run}
use Rattle.gcd_history.specs.Intake.{accepted}
use Rattle.gcd_history.specs.Semas.{wait_count}
use Rattle.gcd_history.specs.Permitted.{is_on}
use Rattle.gcd_history.specs.History.{is_started, is_submitted, submitted_of, chain_of_run, is_free, awaited_of, is_over, has_expired, semaphore_wait_expired, expiry_of, inputs_of, new_inputs_of, received_of, pending_of, merged_of, is_open, OverlapAt, Overlap, node_of, is_active, chain_of, node_of_run, is_barrier_on, group_wait_passes, semaphore_wait_passes, why, choice_of, running_of, next_due_of, is_live_feed, is_block_cancelled, is_ended, is_intake_open}
use Rattle.gcd_history.specs.Choice.{is_work, worker_of}
use Rattle.gcd_history.specs.Ends.{is_halted, HasState}
use Rattle.gcd_history.specs.Sources.{joined}

-- each block starts at most once, and ends at most once (dispatch_async(3))
pub record RunsOnce (h : List Event) : Type 0 where
  pub starts_once : (b : ℕ) → count_by (starts b) h ≤ 1
  pub ends_once : (b : ℕ) → count_by (ends b) h ≤ 1

-- at its Start a block is submitted, and has not started (dispatch_async(3))
pub record IsReadyAtStart (plan : PlanView) (h : List Event) (i : ℕ) (b : Blk) : Type 0 where
  pub submitted : is_submitted plan (take i h) b.0 ≡ true
  pub fresh : is_started (take i h) b.0 ≡ false

-- each block is so at its Start (dispatch_async(3))
abbrev pub StartsAfterSubmission : PlanView → List Event → Type 0
StartsAfterSubmission plan h = (i w : ℕ) (b : Blk) → slice_get h i ≡ Some (Start w b) → IsReadyAtStart plan h i b

-- each submitted block has ended exactly once (dispatch_async(3))
abbrev pub AllEndOnce : PlanView → List Event → Type 0
AllEndOnce plan h = (b : ℕ) → IsTrue (is_submitted plan h b) → count_by (ends b) h ≡ 1

-- each block is submitted at most once (dispatch_async(3); that a block is one act's alone is this project's own rule)
abbrev pub IsSubmittedOnce : PlanView → List Event → Type 0
IsSubmittedOnce plan h = (b : ℕ) → count_by (λ s. s.blk.0 == b) (submitted_of plan h) ≤ 1

-- where both were submitted on one node, the later has started only if the earlier has
abbrev pub IsBehindOther : List Event → (earlier later : Submission) → Type 0
IsBehindOther h s t =
    (n : ℕ) → IsTrue (is_on n s) → IsTrue (is_on n t) → IsTrue (is_started h t.blk.0) → IsTrue (is_started h s.blk.0)

-- at each position, of two submissions on one node the later has started only if the earlier has (dispatch_queue_create(3))
abbrev pub StartsInOrder : PlanView → List Event → Type 0
StartsInOrder plan h = (i : ℕ) → AllPairs (IsBehindOther (take i h)) (submitted_of plan (take i h))

-- at a block's Start each object of its chain is free, and at a Deliver each object of the source's chain (dispatch_suspend(3),
-- dispatch_activate(3), dispatch_set_target_queue(3))
pub record BeginsFree (plan : PlanView) (h : List Event) : Type 0 where
  pub starts : (i w : ℕ) (b : Blk) (o : ℕ) → slice_get h i ≡ Some (Start w b) → IsTrue (is_in o (chain_of_run plan (take i h) (Block b))) → IsTrue (is_free plan (take i h) o)
  pub delivers : (i w : ℕ) (s : Obj) (o : ℕ) → slice_get h i ≡ Some (Deliver w s) → IsTrue (is_in o (chain_of_run plan (take i h) (Source s))) → IsTrue (is_free plan (take i h) o)

-- block b may wake: it is parked, and what it waits for has come, or its wait has expired
pub record MayWake (plan : PlanView) (h : List Event) (b : ℕ) : Type 0 where
  pub awaited : Reason
  pub parked : awaited_of plan h b ≡ Some awaited
  pub over : is_over plan h awaited ≡ true

-- each Wake finds that its block may wake (dispatch_sync(3), dispatch_group_wait(3), dispatch_semaphore_wait(3))
abbrev pub WakesHaveCause : PlanView → List Event → Type 0
WakesHaveCause plan h = (i w : ℕ) (b : Blk) → slice_get h i ≡ Some (Wake w b) → MayWake plan (take i h) b.0

-- no block is parked
abbrev pub NoneParked : PlanView → List Event → Type 0
NoneParked plan h = (b : ℕ) → awaited_of plan h b ≡ None

-- whatever a block has waited for at some position has come, or its wait has expired
abbrev pub WaitsAreOver : PlanView → List Event → Type 0
WaitsAreOver plan h = (i b : ℕ) (awaited : Reason) → awaited_of plan (take i h) b ≡ Some awaited → is_over plan h awaited ≡ true

-- it waits for the group to be empty
abbrev pub waits_for_empty : Obj → Awaits → Bool
waits_for_empty g goes_on = false
waits_for_empty g (end_of_own b) = false
waits_for_empty g (end_of b) = false
waits_for_empty g (empty_group h) = h.0 == g.0
waits_for_empty g (turn_at s) = false
waits_for_empty g (ends_of a) = false

-- the act waits for the group (dispatch_group_wait(3))
abbrev pub waits_for : Obj → Option Act → Bool
waits_for g act = waits_for_empty g (effects_of act).awaits

-- each wait on a group has passed or expired (dispatch_group_wait(3))
abbrev pub GroupWaitsEnd : PlanView → List Event → Type 0
GroupWaitsEnd plan h =
    (i : ℕ) (e : Event) (g : Obj) → slice_get h i ≡ Some e → IsTrue (waits_for g (act_of plan e))
    → IsTrue (group_wait_passes plan h g.0 i || has_expired h i)

-- each wait on a semaphore has passed or expired, from the first to the last that stands (dispatch_semaphore_wait(3))
abbrev pub SemaphoreWaitsEnd : PlanView → List Event → Type 0
SemaphoreWaitsEnd plan h =
    (s k : ℕ) → 1 ≤ k → k ≤ wait_count plan h s
    → IsTrue (semaphore_wait_passes plan h s k || semaphore_wait_expired plan h s k)

-- source s is one of which the newest merged value stays
abbrev pub is_replaced : PlanView → ℕ → Bool
is_replaced plan s = has_kind is_replace_kind plan s

-- the last of the values, or 0 where there is none
abbrev pub last_of : List ℕ → ℕ
last_of values = unwrap_or (slice_get values (length values - 1)) 0

-- at a replace source the last merge is pending where it stands after the last Deliver; else nothing is pending, and the last
-- merge was received last (dispatch_source_merge_data(3))
pub record KeepsTheLast (plan : PlanView) (h : List Event) (s : ℕ) : Type 0 where
  pub waits : (new_inputs_of plan h s ≡ [] → ⊥) → pending_of plan h s ≡ last_of (inputs_of plan h s)
  pub none_waits : new_inputs_of plan h s ≡ [] → pending_of plan h s ≡ 0
  pub handed : new_inputs_of plan h s ≡ [] → received_of plan h s ≡ last_of (inputs_of plan h s)

-- what the Delivers of each source that is not a replace source handed over, with what is pending, is all that it was given
-- (dispatch_source_merge_data(3))
abbrev pub IsConserved : PlanView → List Event → Type 0
IsConserved plan h =
    (s : ℕ) → is_replaced plan s ≡ false → joined plan s (received_of plan h s) (pending_of plan h s) ≡ merged_of plan h s

-- each replace source keeps the last (dispatch_source_merge_data(3))
abbrev pub LastsAreKept : PlanView → List Event → Type 0
LastsAreKept plan h = (s : ℕ) → IsTrue (is_replaced plan s) → KeepsTheLast plan h s

-- runs that overlap where both are beneath one serial queue or source are one run (dispatch_queue_create(3),
-- dispatch_set_target_queue(3))
abbrev pub RunsExclude : PlanView → List Event → Type 0
RunsExclude plan h =
    (i o : ℕ) (r q : Run) → IsTrue (is_exclusive plan o) → OverlapAt h i r q
    → IsTrue (is_in o (chain_of_run plan (take i h) r)) → IsTrue (is_in o (chain_of_run plan (take i h) q)) → r ≡ q

-- blocks that were submitted on one serial queue or source, and overlap, are one block (dispatch_queue_create(3))
abbrev pub BlocksOfOneNodeApart : PlanView → List Event → Type 0
BlocksOfOneNodeApart plan h =
    (q : Obj) (a b : Blk) → IsTrue (is_exclusive plan q.0) → node_of plan h a.0 ≡ Some q → node_of plan h b.0 ≡ Some q
    → Overlap h (Block a) (Block b) → a ≡ b

-- a barrier of a concurrent queue other than root and a run of that queue that overlap are one run
-- (dispatch_barrier_async(3))
abbrev pub BarriersExclude : PlanView → List Event → Type 0
BarriersExclude plan h =
    (i n : ℕ) (r q : Run) → IsTrue (has_barriers plan n) → OverlapAt h i r q
    → IsTrue (is_barrier_on plan (take i h) n r) → node_of_run plan (take i h) q ≡ Some n → r ≡ q

-- each Deliver finds no run of its source open: a run of a source is named by the source alone, so that runs of one source
-- exclude each other is said here (dispatch_source_create(3))
abbrev pub DeliversAlone : List Event → Type 0
DeliversAlone h = (i w : ℕ) (s : Obj) → slice_get h i ≡ Some (Deliver w s) → is_open (take i h) (Source s) ≡ false

-- while a run is open the chain of its node does not change, and each object of it is active; and following the targets from
-- any object ends at root (dispatch_set_target_queue(3), dispatch_activate(3))
pub record TreeStands (plan : PlanView) (h : List Event) : Type 0 where
  pub kept : (i : ℕ) (run : Run) → IsTrue (is_open (take i h) run) → IsTrue (is_open (take (i + 1) h) run) → chain_of_run plan (take (i + 1) h) run ≡ chain_of_run plan (take i h) run
  pub active : (i o : ℕ) (run : Run) → IsTrue (is_open (take i h) run) → IsTrue (is_in o (chain_of_run plan (take i h) run)) → IsTrue (is_active plan (take i h) o)
  pub rooted : (i o : ℕ) → o < length plan.objects → IsTrue (is_in 0 (chain_of plan (take i h) o))

-- an event that worker w may record next: permitted, its own, and none of the outside's (this project's own rule)
pub record IsChoiceOf (plan : PlanView) (h : List Event) (w : ℕ) (e : Event) : Type 0 where
  pub permitted : why plan h e ≡ None
  pub work : is_work e ≡ true
  pub by : worker_of e ≡ w

-- no event of worker w is permitted
abbrev pub HasNoChoice : PlanView → List Event → ℕ → Type 0
HasNoChoice plan h w = (e : Event) → IsChoiceOf plan h w e → ⊥

-- the history has come to a state (this project's own rule)
pub record HasSomeState (plan : PlanView) (h : List Event) : Type 0 where
  pub state : State
  pub come_to : HasState plan h state

-- nothing goes on: not halted, no run is open and unparked, worker 0 has no choice, no wait may expire, no due time is left, no
-- read source is live, and no intake is open (this project's own rule)
pub record IsAtRest (plan : PlanView) (h : List Event) : Type 0 where
  pub unhalted : is_halted h ≡ false
  pub idle : running_of plan h ≡ 0
  pub no_choice : choice_of plan h 0 0 ≡ None
  pub no_expiry : expiry_of plan h ≡ None
  pub no_time : next_due_of plan h ≡ None
  pub no_feed : (s : ℕ) → is_live_feed plan h s ≡ false
  pub no_intake : is_intake_open plan h ≡ false

-- ## Blocks that a plan makes, and cancelled blocks

-- block b starts once and ends once among the events from one position on and before another
pub record RunsBetween (h : List Event) (from to : ℕ) (b : Blk) : Type 0 where
  pub starts_once : count_by (starts b.0) (drop from (take to h)) ≡ 1
  pub ends_once : count_by (ends b.0) (drop from (take to h)) ≡ 1

-- where a Wake of the block that applied a strip stands after that act, each block of the strip has started once and ended once
-- after the act and before the Wake (dispatch_apply(3))
abbrev pub AppliedStripsHaveRun : PlanView → List Event → Type 0
AppliedStripsHaveRun plan h =
    (i k w v n a : ℕ) (b : Blk) (q : Obj) → slice_get h i ≡ Some (Acted w (Block b) n) → act_at plan (Block b) n ≡ Some (Apply q a)
    → slice_get h k ≡ Some (Wake v b) → i < k → All (RunsBetween h i k) (strip_blocks plan a)

-- no act of a cancelled block stands (dispatch_block_cancel(3))
abbrev pub CancelledBlocksDoNothing : PlanView → List Event → Type 0
CancelledBlocksDoNothing plan h =
    (i w n : ℕ) (b : Blk) → slice_get h i ≡ Some (Acted w (Block b) n) → is_block_cancelled plan h b.0 ≡ false

-- the End of a cancelled block may follow its Start at once (dispatch_block_cancel(3))
abbrev pub CancelledBlocksMayEnd : PlanView → List Event → Type 0
CancelledBlocksMayEnd plan h =
    (w : ℕ) (b : Blk) → IsTrue (is_block_cancelled plan h b.0) → why plan h (Start w b) ≡ None
    → why plan (h ++ Start w b ∷ []) (End w b) ≡ None

-- the event records act n of the run
abbrev pub records : Run → ℕ → Event → Bool
records run n (Acted w r i) = same_run r run && i == n
records run n (Start w b) = false
records run n (Wake w b) = false
records run n (End w b) = false
records run n (Deliver w s) = false
records run n (DeliverEnd w s) = false
records run n (Tick t) = false
records run n (Ready s m) = false
records run n (FeedEnd s) = false
records run n (Misuse w c r i) = false
records run n Halt = false
records run n (Expire b) = false
records run n (Accept b s) = false
records run n Shut = false

-- the block of a notify_block act is submitted once where that act and the End that it waits for both stand, and else never
-- (dispatch_block_notify(3))
abbrev pub NotifiedOnce : PlanView → List Event → Type 0
NotifiedOnce plan h =
    (run : Run) (n : ℕ) (b c : Blk) (q : Obj) → act_at plan run n ≡ Some (NotifyBlock b q c)
    → count_by (λ s. s.blk.0 == c.0) (submitted_of plan h) ≡ (if list_any (records run n) h && is_ended h b.0 then 1 else 0)

-- the blocks of the intake are accepted in order, each once, and none after the Shut (this project's own rule)
pub record AcceptsInOrder (plan : PlanView) (h : List Event) : Type 0 where
  pub in_order : filter_map accepted h ≡ take (length (filter_map accepted h)) (intake_blocks plan)
  pub before_shut : (i k s : ℕ) (b : Blk) → slice_get h i ≡ Some (Accept b s) → slice_get h k ≡ Some Shut → i < k
