-- How an event changes each part of the view: by the part's own words where it has one. A misuse and a halt change the flags
-- and the length alone.
use Rattle.std.specs.Prelude.{ℕ, zero, suc, ◌+◌, ◌-◌, ◌==◌, nat_lt, Bool, true, false, ◌||◌, if◌then◌else◌, List, length, fold, Option, Some, None, slice_index, slice_index_or, slice_set}
use Rattle.std.specs.Option.{option_map_or}
use Rattle.gcd_plan.specs.Effects.{effects_of, Submits, nothing, at_once, strip_to, once_empty, once_ended, Awaits, goes_on, end_of_own, end_of, empty_group, turn_at, ends_of}
use Rattle.gcd_plan.specs.PlanView.{PlanView}
use Rattle.gcd_plan.specs.declared.act.Act.{Act}
use Rattle.gcd_plan.specs.declared.numbers.Blk.{Blk}
use Rattle.gcd_plan.specs.declared.numbers.Obj.{Obj}
use Rattle.gcd_plan.specs.declared.numbers.Run.{Run}
use Rattle.gcd_plan.specs.declared.numbers.Run.TheVariants.{Block, Source}
use Rattle.gcd_plan.specs.declared.reason.Reason.{Reason}
use Rattle.gcd_plan.specs.declared.reason.Reason.TheVariants.{Block as EndOf, Group as Empty, Strip, Rank}
use Rattle.gcd_event.specs.declared.event.Event.{Event}
use Rattle.gcd_event.specs.declared.event.Event.TheVariants.{Start, Act as Acted, Wake, End, Deliver, DeliverEnd, Tick, Ready, FeedEnd, Misuse, Halt, Expire, Accept, Shut}
use Rattle.gcd_history.specs.declared.submission.Submission.{Submission}
use Rattle.gcd_history.specs.Runs.{act_at, act_of}
use Rattle.gcd_history.specs.Submitted.{cancels}
use Rattle.gcd_lists.specs.ListsView.{ListsView, list_at}
use Rattle.gcd_tree.specs.TreeView.{TreeView, open_on_at, with_target, with_request, with_open, settled}
use Rattle.gcd_hold.specs.HoldsView.{HoldsView, hold_at, with_hold, with_active}
use Rattle.gcd_drain.specs.DrainsView.{DrainsView, barriers_at, with_barriers}
use Rattle.gcd_group.specs.GroupsView.{GroupsView, entered_at, due_at, with_one_more, with_one_less, with_entered, with_notify, with_fired}
use Rattle.gcd_sema.specs.SemasView.{SemasView, signals_at, waits_at, with_signals, with_wait, with_expired as with_expired_wait}
use Rattle.gcd_sync.specs.WaitsView.{WaitsView, reason_at, with_parked, with_woken, with_expired}
use Rattle.gcd_source.specs.SourcesView.{SourcesView, pending_at, merged_at, with_pending, with_cancelled as with_cancelled_source}
use Rattle.gcd_timer.specs.TimersView.{TimersView, due_count_at, with_activated, with_cancelled as with_cancelled_timer, marked_by}
use Rattle.gcd_refinement.specs.MachineView.{MachineView, idle, undelivered, block_at, handler_at}
use Rattle.gcd_refinement.specs.declared.progress.BlockProgress.{BlockProgress}
use Rattle.gcd_refinement.specs.declared.progress.HandlerProgress.{HandlerProgress}
use Rattle.gcd_refinement.specs.Submits.{submits, activated_by, newly_cancelled, come_by}
use Rattle.gcd_refinement.specs.AfterLimits.{limit_in_view, ahead_after, ripe_after}
use Rattle.gcd_refinement.specs.AfterSleepers.{popped, pushed_on, sleepers_after, waiters_after, appliers_after}
use Rattle.gcd_refinement.specs.AfterStrips.{strips_after, marks_after, accepted_after, shut_after}
use Rattle.gcd_refinement.specs.AfterTotals.{workers_after, running_after, left_after, live_after, is_misuse, is_halt}

-- ## References

abbrev pub refs_by : List ℕ → Option Act → List ℕ
refs_by refs act =
    option_map_or (λ o. slice_set refs o.0 (slice_index refs o.0 + 1)) (effects_of act).retains
    (option_map_or (λ o. slice_set refs o.0 (slice_index refs o.0 - 1)) (effects_of act).releases refs)

abbrev pub refs_after : PlanView → MachineView → Event → List ℕ
refs_after plan v e = refs_by v.refs (act_of plan e)

-- ## Lists

abbrev pub pushed : ListsView → Submission → ListsView
pushed lists s = option_map_or (λ n. pushed_on lists n s.blk s.barrier) s.node lists

-- the lists after a Start has taken its block off
abbrev pub begun : MachineView → Event → ListsView
begun v (Start w b) = popped v.lists (block_at v b.0).node
begun v (Acted w run i) = v.lists
begun v (Wake w b) = v.lists
begun v (End w b) = v.lists
begun v (Deliver w s) = v.lists
begun v (DeliverEnd w s) = v.lists
begun v (Tick t) = v.lists
begun v (Ready s n) = v.lists
begun v (FeedEnd s) = v.lists
begun v (Misuse w c run i) = v.lists
begun v Halt = v.lists
begun v (Expire b) = v.lists
begun v (Accept b s) = v.lists
begun v Shut = v.lists

abbrev pub lists_after : PlanView → MachineView → Event → ListsView
lists_after plan v e = fold pushed (begun v e) (submits plan v e)

-- ## Tree

-- one run more, or less, is open on the node, if there is one; the last to close turns the node's request into its target
abbrev pub opened : TreeView → Option Obj → TreeView
opened tree None = tree
opened tree (Some n) = with_open tree n.0 (open_on_at tree n.0 + 1)

abbrev pub closed : TreeView → Option Obj → TreeView
closed tree None = tree
closed tree (Some n) =
    if open_on_at tree n.0 == 1 then settled (with_open tree n.0 0) n.0 else with_open tree n.0 (open_on_at tree n.0 - 1)

-- another target: at once where no run is open on the object, and else as a request
abbrev pub targeted : TreeView → Option Act → TreeView
targeted tree act =
    option_map_or (λ t. if open_on_at tree t.0.0 == 0 then with_target tree t.0.0 t.1 else with_request tree t.0.0 (Some t.1))
    (effects_of act).targets tree

abbrev pub tree_after : PlanView → MachineView → Event → TreeView
tree_after plan v (Start w b) = opened v.tree (block_at v b.0).node
tree_after plan v (Acted w run i) = targeted v.tree (act_at plan run i)
tree_after plan v (Wake w b) = v.tree
tree_after plan v (End w b) = closed v.tree (block_at v b.0).node
tree_after plan v (Deliver w s) = opened v.tree (Some s)
tree_after plan v (DeliverEnd w s) = closed v.tree (Some s)
tree_after plan v (Tick t) = v.tree
tree_after plan v (Ready s n) = v.tree
tree_after plan v (FeedEnd s) = v.tree
tree_after plan v (Misuse w c run i) = v.tree
tree_after plan v Halt = v.tree
tree_after plan v (Expire b) = v.tree
tree_after plan v (Accept b s) = v.tree
tree_after plan v Shut = v.tree

-- ## Holds

abbrev pub holds_by : HoldsView → Option Act → HoldsView
holds_by holds act =
    option_map_or (λ o. with_hold holds o.0 (hold_at holds o.0 + 1)) (effects_of act).suspends
    (option_map_or (λ o. if hold_at holds o.0 == 0 then with_active holds o.0 else with_hold holds o.0 (hold_at holds o.0 - 1))
    (effects_of act).resumes (option_map_or (λ o. with_active holds o.0) (effects_of act).activates holds))

abbrev pub holds_after : PlanView → MachineView → Event → HoldsView
holds_after plan v e = holds_by v.holds (act_of plan e)

-- ## Barriers

-- one barrier more, or less, is open on the node of a block that is a barrier
abbrev pub barrier_began : DrainsView → Option Obj → (barrier : Bool) → DrainsView
barrier_began drains None barrier = drains
barrier_began drains (Some n) barrier = if barrier then with_barriers drains n.0 (barriers_at drains n.0 + 1) else drains

abbrev pub barrier_ended : DrainsView → Option Obj → (barrier : Bool) → DrainsView
barrier_ended drains None barrier = drains
barrier_ended drains (Some n) barrier = if barrier then with_barriers drains n.0 (barriers_at drains n.0 - 1) else drains

abbrev pub drains_after : PlanView → MachineView → Event → DrainsView
drains_after plan v (Start w b) = barrier_began v.drains (block_at v b.0).node (block_at v b.0).barrier
drains_after plan v (Acted w run i) = v.drains
drains_after plan v (Wake w b) = v.drains
drains_after plan v (End w b) = barrier_ended v.drains (block_at v b.0).node (block_at v b.0).barrier
drains_after plan v (Deliver w s) = v.drains
drains_after plan v (DeliverEnd w s) = v.drains
drains_after plan v (Tick t) = v.drains
drains_after plan v (Ready s n) = v.drains
drains_after plan v (FeedEnd s) = v.drains
drains_after plan v (Misuse w c run i) = v.drains
drains_after plan v Halt = v.drains
drains_after plan v (Expire b) = v.drains
drains_after plan v (Accept b s) = v.drains
drains_after plan v Shut = v.drains

-- ## Groups

-- the groups after so many notify blocks of group g have fired
abbrev pub fired_times : ℕ → GroupsView → ℕ → GroupsView
fired_times zero groups g = groups
fired_times (suc n) groups g = fired_times n (with_fired groups g) g

-- all that are due have fired
abbrev pub all_fired : GroupsView → ℕ → GroupsView
all_fired groups g = fired_times (due_at groups g) groups g

-- a notify block is registered at a group
abbrev pub notified_groups : GroupsView → Submits → GroupsView
notified_groups groups nothing = groups
notified_groups groups (at_once q b barrier) = groups
notified_groups groups (strip_to q a) = groups
notified_groups groups (once_empty g q b) = all_fired (with_notify groups g.0 b) g.0
notified_groups groups (once_ended c q b) = groups

-- `at` is the length of the history after the event
abbrev pub groups_by : GroupsView → (at : ℕ) → Option Act → GroupsView
groups_by groups at act =
    option_map_or (λ j. with_one_more groups j.0.0 at) (effects_of act).joins
    (option_map_or (λ g. with_entered (with_one_more groups g.0 at) g.0 (entered_at groups g.0 + 1)) (effects_of act).enters
    (option_map_or (λ g. all_fired (with_entered (with_one_less groups g.0 at) g.0 (entered_at groups g.0 - 1)) g.0) (effects_of act).leaves
    (notified_groups groups (effects_of act).submits)))

-- a member of the group has ended, if there is one
abbrev pub member_ended : GroupsView → (at : ℕ) → Option Obj → GroupsView
member_ended groups at None = groups
member_ended groups at (Some g) = all_fired (with_one_less groups g.0 at) g.0

abbrev pub groups_after : PlanView → MachineView → Event → GroupsView
groups_after plan v (Start w b) = v.groups
groups_after plan v (Acted w run i) = groups_by v.groups (v.len + 1) (act_at plan run i)
groups_after plan v (Wake w b) = v.groups
groups_after plan v (End w b) = member_ended v.groups (v.len + 1) (block_at v b.0).group
groups_after plan v (Deliver w s) = v.groups
groups_after plan v (DeliverEnd w s) = v.groups
groups_after plan v (Tick t) = v.groups
groups_after plan v (Ready s n) = v.groups
groups_after plan v (FeedEnd s) = v.groups
groups_after plan v (Misuse w c run i) = v.groups
groups_after plan v Halt = v.groups
groups_after plan v (Expire b) = v.groups
groups_after plan v (Accept b s) = v.groups
groups_after plan v Shut = v.groups

-- ## Semaphores

-- a wait at a semaphore begins
abbrev pub waiting_at_semas : SemasView → Awaits → SemasView
waiting_at_semas semas goes_on = semas
waiting_at_semas semas (end_of_own b) = semas
waiting_at_semas semas (end_of b) = semas
waiting_at_semas semas (empty_group g) = semas
waiting_at_semas semas (turn_at s) = with_wait semas s.0
waiting_at_semas semas (ends_of a) = semas

abbrev pub semas_by : SemasView → Option Act → SemasView
semas_by semas act =
    option_map_or (λ s. with_signals semas s.0 (signals_at semas s.0 + 1)) (effects_of act).signals
    (waiting_at_semas semas (effects_of act).awaits)

-- the wait for this has expired, where it is one on a semaphore
abbrev pub semas_expired : SemasView → Option Reason → SemasView
semas_expired semas None = semas
semas_expired semas (Some (EndOf b)) = semas
semas_expired semas (Some (Empty g position)) = semas
semas_expired semas (Some (Strip a)) = semas
semas_expired semas (Some (Rank s k)) = with_expired_wait semas s.0 k

abbrev pub semas_after : PlanView → MachineView → Event → SemasView
semas_after plan v (Start w b) = v.semas
semas_after plan v (Acted w run i) = semas_by v.semas (act_at plan run i)
semas_after plan v (Wake w b) = v.semas
semas_after plan v (End w b) = v.semas
semas_after plan v (Deliver w s) = v.semas
semas_after plan v (DeliverEnd w s) = v.semas
semas_after plan v (Tick t) = v.semas
semas_after plan v (Ready s n) = v.semas
semas_after plan v (FeedEnd s) = v.semas
semas_after plan v (Misuse w c run i) = v.semas
semas_after plan v Halt = v.semas
semas_after plan v (Expire b) = semas_expired v.semas (reason_at v.waits b.0)
semas_after plan v (Accept b s) = v.semas
semas_after plan v Shut = v.semas

-- ## Parked blocks

-- the wait, begun at the view
abbrev pub reason_in_view : MachineView → Awaits → Option Reason
reason_in_view v goes_on = None
reason_in_view v (end_of_own c) = Some (EndOf c)
reason_in_view v (end_of c) = Some (EndOf c)
reason_in_view v (empty_group g) = Some (Empty g v.len)
reason_in_view v (turn_at s) = Some (Rank s (waits_at v.semas s.0 + 1))
reason_in_view v (ends_of a) = Some (Strip a)

-- what the act parks its block for
abbrev pub awaited_in_view : MachineView → Option Act → Option Reason
awaited_in_view v act = reason_in_view v (effects_of act).awaits

-- with this limit, or without one
abbrev pub parked_for : WaitsView → Run → Option Reason → (limit : Option ℕ) → WaitsView
parked_for waits (Block b) (Some why) limit = with_parked waits b.0 why limit
parked_for waits (Block b) None limit = waits
parked_for waits (Source s) why limit = waits

abbrev pub waits_after : PlanView → MachineView → Event → WaitsView
waits_after plan v (Start w b) = v.waits
waits_after plan v (Acted w run i) =
    parked_for v.waits run (awaited_in_view v (act_at plan run i)) (limit_in_view v (act_at plan run i))
waits_after plan v (Wake w b) = with_woken v.waits b.0
waits_after plan v (End w b) = v.waits
waits_after plan v (Deliver w s) = v.waits
waits_after plan v (DeliverEnd w s) = v.waits
waits_after plan v (Tick t) = v.waits
waits_after plan v (Ready s n) = v.waits
waits_after plan v (FeedEnd s) = v.waits
waits_after plan v (Misuse w c run i) = v.waits
waits_after plan v Halt = v.waits
waits_after plan v (Expire b) = with_expired v.waits b.0
waits_after plan v (Accept b s) = v.waits
waits_after plan v Shut = v.waits

-- the block may wake
abbrev pub with_wakeable : List Bool → Blk → List Bool
with_wakeable wakeable b = slice_set wakeable b.0 true

-- the block that the event wakes may not wake again
abbrev pub woken : List Bool → Event → List Bool
woken wakeable (Start w b) = wakeable
woken wakeable (Acted w run i) = wakeable
woken wakeable (Wake w b) = slice_set wakeable b.0 false
woken wakeable (End w b) = wakeable
woken wakeable (Deliver w s) = wakeable
woken wakeable (DeliverEnd w s) = wakeable
woken wakeable (Tick t) = wakeable
woken wakeable (Ready s n) = wakeable
woken wakeable (FeedEnd s) = wakeable
woken wakeable (Misuse w c run i) = wakeable
woken wakeable Halt = wakeable
woken wakeable (Expire b) = wakeable
woken wakeable (Accept b s) = wakeable
woken wakeable Shut = wakeable

abbrev pub wakeable_after : PlanView → MachineView → Event → List Bool
wakeable_after plan v e = fold with_wakeable (woken v.wakeable e) (come_by plan v e)

-- ## Sources and timers

-- the source, where there is one, is cancelled
abbrev pub source_cancelled : SourcesView → Option Obj → SourcesView
source_cancelled sources None = sources
source_cancelled sources (Some s) = with_cancelled_source sources s.0

abbrev pub merged_by : SourcesView → Option Act → SourcesView
merged_by sources act =
    option_map_or (λ m. with_pending sources m.0.0 (merged_at sources m.0.0 m.1)) (effects_of act).merges sources

abbrev pub values_after : PlanView → MachineView → Event → SourcesView
values_after plan v (Start w b) = v.sources
values_after plan v (Acted w run i) = merged_by v.sources (act_at plan run i)
values_after plan v (Wake w b) = v.sources
values_after plan v (End w b) = v.sources
values_after plan v (Deliver w s) = with_pending v.sources s.0 0
values_after plan v (DeliverEnd w s) = v.sources
values_after plan v (Tick t) = v.sources
values_after plan v (Ready s n) = with_pending v.sources s.0 (merged_at v.sources s.0 n)
values_after plan v (FeedEnd s) = v.sources
values_after plan v (Misuse w c run i) = v.sources
values_after plan v Halt = v.sources
values_after plan v (Expire b) = v.sources
values_after plan v (Accept b s) = v.sources
values_after plan v Shut = v.sources

abbrev pub sources_after : PlanView → MachineView → Event → SourcesView
sources_after plan v e = source_cancelled (values_after plan v e) (cancels plan e)

-- the time after the event
abbrev pub ticked : TimersView → Event → TimersView
ticked timers (Start w b) = timers
ticked timers (Acted w run i) = timers
ticked timers (Wake w b) = timers
ticked timers (End w b) = timers
ticked timers (Deliver w s) = timers
ticked timers (DeliverEnd w s) = timers
ticked timers (Tick t) = record timers { moment = t }
ticked timers (Ready s n) = timers
ticked timers (FeedEnd s) = timers
ticked timers (Misuse w c run i) = timers
ticked timers Halt = timers
ticked timers (Expire b) = timers
ticked timers (Accept b s) = timers
ticked timers Shut = timers

abbrev pub activated : TimersView → Option Obj → TimersView
activated timers None = timers
activated timers (Some o) = with_activated timers o.0

abbrev pub timer_cancelled : TimersView → Option Obj → TimersView
timer_cancelled timers None = timers
timer_cancelled timers (Some s) = with_cancelled_timer timers s.0

abbrev pub timers_after : PlanView → MachineView → Event → TimersView
timers_after plan v e =
    timer_cancelled (activated (ticked v.timers e) (activated_by v (act_of plan e))) (newly_cancelled v (cancels plan e))

-- ## Blocks

-- another record of block b
abbrev pub with_block : List BlockProgress → ℕ → (BlockProgress → BlockProgress) → List BlockProgress
with_block blocks b change = slice_set blocks b (change (slice_index_or blocks b idle))

-- the submission is noted at its block
abbrev pub noted : List BlockProgress → Submission → List BlockProgress
noted blocks s = with_block blocks s.blk.0 (λ x. record x { node = s.node; barrier = s.barrier })

-- a block that is submitted later is bound for its queue
abbrev pub housed : List BlockProgress → Submits → List BlockProgress
housed blocks nothing = blocks
housed blocks (at_once q b barrier) = blocks
housed blocks (strip_to q a) = blocks
housed blocks (once_empty g q c) = with_block blocks c.0 (λ x. record x { home = q })
housed blocks (once_ended c q d) = with_block blocks d.0 (λ x. record x { home = q })

-- what the act arranges for a block: the group that counts it, the queue to which it will go
abbrev pub arranged : List BlockProgress → Option Act → List BlockProgress
arranged blocks act =
    option_map_or (λ j. with_block blocks j.1.0 (λ x. record x { group = Some j.0 })) (effects_of act).joins
    (housed blocks (effects_of act).submits)

-- block b waits for the end of the block that its act submits
abbrev pub called_for : List BlockProgress → Blk → Awaits → List BlockProgress
called_for blocks b goes_on = blocks
called_for blocks b (end_of_own c) = with_block blocks c.0 (λ x. record x { caller = Some b })
called_for blocks b (end_of c) = blocks
called_for blocks b (empty_group g) = blocks
called_for blocks b (turn_at s) = blocks
called_for blocks b (ends_of a) = blocks

-- block b waits for the end of the block that it submits
abbrev pub called : List BlockProgress → Blk → Option Act → List BlockProgress
called blocks b act = called_for blocks b (effects_of act).awaits

-- block b has made one act more
abbrev pub counted : List BlockProgress → Run → Option Act → List BlockProgress
counted blocks (Block b) act = called (with_block blocks b.0 (λ x. record x { done = x.done + 1 })) b act
counted blocks (Source s) act = blocks

abbrev pub blocks_by : PlanView → MachineView → Event → List BlockProgress
blocks_by plan v (Start w b) = with_block v.blocks b.0 (λ x. record x { started = true })
blocks_by plan v (Acted w run i) = arranged (counted v.blocks run (act_at plan run i)) (act_at plan run i)
blocks_by plan v (Wake w b) = v.blocks
blocks_by plan v (End w b) = v.blocks
blocks_by plan v (Deliver w s) = v.blocks
blocks_by plan v (DeliverEnd w s) = v.blocks
blocks_by plan v (Tick t) = v.blocks
blocks_by plan v (Ready s n) = v.blocks
blocks_by plan v (FeedEnd s) = v.blocks
blocks_by plan v (Misuse w c run i) = v.blocks
blocks_by plan v Halt = v.blocks
blocks_by plan v (Expire b) = v.blocks
blocks_by plan v (Accept b s) = v.blocks
blocks_by plan v Shut = v.blocks

abbrev pub blocks_after : PlanView → MachineView → Event → List BlockProgress
blocks_after plan v e = fold noted (blocks_by plan v e) (submits plan v e)

abbrev pub ended_after : MachineView → Event → List Bool
ended_after v (Start w b) = v.ended
ended_after v (Acted w run i) = v.ended
ended_after v (Wake w b) = v.ended
ended_after v (End w b) = slice_set v.ended b.0 true
ended_after v (Deliver w s) = v.ended
ended_after v (DeliverEnd w s) = v.ended
ended_after v (Tick t) = v.ended
ended_after v (Ready s n) = v.ended
ended_after v (FeedEnd s) = v.ended
ended_after v (Misuse w c run i) = v.ended
ended_after v Halt = v.ended
ended_after v (Expire b) = v.ended
ended_after v (Accept b s) = v.ended
ended_after v Shut = v.ended

-- ## Handlers

-- what is pending at source s, beside the due times that no delivery took
abbrev pub pending_in : MachineView → ℕ → ℕ
pending_in v s = pending_at v.sources s + due_count_at v.timers s - (handler_at v s).taken

-- the delivery takes all that is pending, and its run has made no act
abbrev pub delivered : MachineView → ℕ → HandlerProgress
delivered v s = record { done = 0; taken = due_count_at v.timers s; given = pending_in v s }

-- a handler has made one act more
abbrev pub handled : MachineView → Run → List HandlerProgress
handled v (Block b) = v.handlers
handled v (Source s) = slice_set v.handlers s.0 (record (handler_at v s.0) { done = (handler_at v s.0).done + 1 })

abbrev pub handlers_after : MachineView → Event → List HandlerProgress
handlers_after v (Start w b) = v.handlers
handlers_after v (Acted w run i) = handled v run
handlers_after v (Wake w b) = v.handlers
handlers_after v (End w b) = v.handlers
handlers_after v (Deliver w s) = slice_set v.handlers s.0 (delivered v s.0)
handlers_after v (DeliverEnd w s) = v.handlers
handlers_after v (Tick t) = v.handlers
handlers_after v (Ready s n) = v.handlers
handlers_after v (FeedEnd s) = v.handlers
handlers_after v (Misuse w c run i) = v.handlers
handlers_after v Halt = v.handlers
handlers_after v (Expire b) = v.handlers
handlers_after v (Accept b s) = v.handlers
handlers_after v Shut = v.handlers

-- ## Marks

-- the object of the submission has to be looked at
abbrev pub marked : List Bool → Submission → List Bool
marked busy s = option_map_or (λ n. slice_set busy n.0 true) s.node busy

-- an object has to be looked at still: another block waits there, or something is pending
abbrev pub stays_busy : (waiting pending : ℕ) → Bool
stays_busy waiting pending = nat_lt 0 waiting || nat_lt 0 pending

-- the node from which a Start takes a block
abbrev pub unmarked : MachineView → Option Obj → List Bool
unmarked v None = v.busy
unmarked v (Some n) = slice_set v.busy n.0 (stays_busy (length (list_at v.lists n.0) - 1) (pending_in v n.0))

-- the source of a merge above 0 has to be looked at
abbrev pub busy_by : List Bool → Option Act → List Bool
busy_by busy act =
    option_map_or (λ m. if m.1 == 0 then busy else slice_set busy m.0.0 true) (effects_of act).merges busy

-- object s is a timer with a due time that no delivery took
abbrev pub has_due : TimersView → List HandlerProgress → ℕ → Bool
has_due timers handlers s = nat_lt (slice_index_or handlers s undelivered).taken (due_count_at timers s)

abbrev pub busy_at_event : PlanView → MachineView → Event → List Bool
busy_at_event plan v (Start w b) = unmarked v (block_at v b.0).node
busy_at_event plan v (Acted w run i) = busy_by v.busy (act_at plan run i)
busy_at_event plan v (Wake w b) = v.busy
busy_at_event plan v (End w b) = v.busy
busy_at_event plan v (Deliver w s) = slice_set v.busy s.0 (stays_busy (length (list_at v.lists s.0)) 0)
busy_at_event plan v (DeliverEnd w s) = v.busy
busy_at_event plan v (Tick t) = marked_by v.timers t v.busy
busy_at_event plan v (Ready s n) = slice_set v.busy s.0 true
busy_at_event plan v (FeedEnd s) = v.busy
busy_at_event plan v (Misuse w c run i) = v.busy
busy_at_event plan v Halt = v.busy
busy_at_event plan v (Expire b) = v.busy
busy_at_event plan v (Accept b s) = v.busy
busy_at_event plan v Shut = v.busy

abbrev pub busy_after : PlanView → MachineView → Event → List Bool
busy_after plan v e = fold marked (busy_at_event plan v e) (submits plan v e)

-- ## The whole

-- the view after the event
abbrev pub after : PlanView → MachineView → Event → MachineView
after plan v e = record {
  plan = v.plan;
  refs = refs_after plan v e;
  lists = lists_after plan v e;
  tree = tree_after plan v e;
  holds = holds_after plan v e;
  drains = drains_after plan v e;
  groups = groups_after plan v e;
  semas = semas_after plan v e;
  waits = waits_after plan v e;
  sources = sources_after plan v e;
  timers = timers_after plan v e;
  sleepers = sleepers_after plan v e;
  waiters = waiters_after plan v e;
  appliers = appliers_after plan v e;
  strips = strips_after v e;
  marks = marks_after plan v e;
  accepted = accepted_after v e;
  shut = shut_after v e;
  blocks = blocks_after plan v e;
  ended = ended_after v e;
  wakeable = wakeable_after plan v e;
  ahead = ahead_after plan v e;
  ripe = ripe_after plan v e;
  handlers = handlers_after v e;
  busy = busy_after plan v e;
  live = live_after plan v e;
  workers = workers_after plan v e;
  running = running_after plan v e;
  left = left_after plan v e;
  misused = v.misused || is_misuse e;
  halted = v.halted || is_halt e;
  len = v.len + 1;
}
