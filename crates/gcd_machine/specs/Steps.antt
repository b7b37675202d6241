-- What each private step of a machine changes. The steps of one event together make `after` of gcd_refinement.
use Rattle.std.specs.Prelude.{ℕ, ◌+◌, ◌-◌, ◌==◌, Bool, true, false, not, ◌&&◌, if◌then◌else◌, List, [], ◌++◌, length, take, map, fold, Option, Some, None, slice_get, slice_set}
use Rattle.std.specs.Option.{option_map_or}
use Rattle.std.specs.List.{range_with_len}
use Rattle.gcd_plan.specs.PlanView.{cancel_block}
use Rattle.gcd_plan.specs.Kinds.{has_kind, is_read_kind}
use Rattle.gcd_plan.specs.declared.act.Act.{Act}
use Rattle.gcd_plan.specs.declared.act.Act.TheVariants.{Async, Barrier, Sync, BarrierSync, GroupAsync, Notify, Enter, Leave, GroupWait, GroupWaitFor, Signal, Wait, WaitFor, Suspend, Resume, Activate, Target, Merge, Cancel, Retain, Release, Apply, CancelBlock, WaitBlock, NotifyBlock}
use Rattle.gcd_plan.specs.declared.numbers.Blk.{Blk}
use Rattle.gcd_plan.specs.declared.numbers.Obj.{Obj}
use Rattle.gcd_plan.specs.declared.numbers.Run.{Run}
use Rattle.gcd_plan.specs.declared.numbers.Run.TheVariants.{Block, Source}
use Rattle.gcd_plan.specs.declared.reason.Reason.{Reason}
use Rattle.gcd_plan.specs.declared.reason.Reason.TheVariants.{Block as EndOf, Group as Empty, Strip, Rank}
use Rattle.gcd_event.specs.declared.event.Event.{Event}
use Rattle.gcd_event.specs.declared.event.Event.TheVariants.{Start, Act as Acted, Wake, End, Deliver, DeliverEnd, Tick, Ready, FeedEnd, Misuse, Halt, Expire, Accept, Shut}
use Rattle.gcd_history.specs.Runs.{act_at}
use Rattle.gcd_lists.specs.ListsView.{list_at, span}
use Rattle.gcd_group.specs.GroupsView.{count_at, entered_at, due_at, with_one_more, with_one_less, with_entered, with_notify}
use Rattle.gcd_sema.specs.SemasView.{waits_at, signals_at, has_value_at, with_wait, with_signals}
use Rattle.gcd_sync.specs.WaitsView.{reason_at, with_parked, with_woken, with_expired}
use Rattle.gcd_hold.specs.HoldsView.{hold_at, is_active_at, with_hold, with_active}
use Rattle.gcd_source.specs.SourcesView.{is_cancelled_at, merged_at, with_pending, with_cancelled as with_cancelled_source}
use Rattle.gcd_timer.specs.TimersView.{with_activated, with_cancelled as with_cancelled_timer, marked_by}
use Rattle.gcd_apply.specs.StripsView.{left_at, with_done}
use Rattle.gcd_blockobj.specs.MarksView.{has_ended_at, with_cancelled as with_cancelled_block, with_begun, with_ended, with_notify as with_block_notify}
use Rattle.gcd_refinement.specs.MachineView.{MachineView, block_at, ended_at, refs_at, applier_at}
use Rattle.gcd_refinement.specs.declared.progress.BlockProgress.{BlockProgress}
use Rattle.gcd_refinement.specs.Submits.{sleepers_at, done_by}
use Rattle.gcd_refinement.specs.After.{opened, closed, targeted, barrier_began, barrier_ended, with_block, with_wakeable, handled, delivered as delivery, stays_busy, unmarked, all_fired, semas_expired}
use Rattle.gcd_refinement.specs.AfterSleepers.{popped, pushed_on, bed_of, removed, none_waiting}
use Rattle.gcd_refinement.specs.AfterStrips.{all_told}
use Rattle.gcd_refinement.specs.AfterLimits.{laid_ahead, laid_ripe, still_ahead, is_ripe_by, without_limit, without_ripe, limit_in_view}

-- ## Workers

-- worker w has the run
abbrev pub taken_up : MachineView → ℕ → Run → MachineView
taken_up m w run = record m { workers = slice_set m.workers w (Some run); running = m.running + 1 }

-- worker w is free
abbrev pub set_free : MachineView → ℕ → MachineView
set_free m w = record m { workers = slice_set m.workers w None; running = m.running - 1 }

-- ## Runs on a node

-- the first block on the node has left its list
abbrev pub taken_off : MachineView → Obj → MachineView
taken_off m n = record m { lists = popped m.lists (Some n); busy = unmarked m (Some n) }

-- the first block on the node has left its list, and its run is open there
abbrev pub begun_on : MachineView → Obj → (barrier : Bool) → MachineView
begun_on m n barrier = record (taken_off m n) { tree = opened m.tree (Some n); drains = barrier_began m.drains (Some n) barrier }

-- a run that was open on the node has closed
abbrev pub closed_on : MachineView → Obj → (barrier : Bool) → MachineView
closed_on m n barrier = record m { tree = closed m.tree (Some n); drains = barrier_ended m.drains (Some n) barrier }

-- the run of a block is open on its node, if it has one, or has closed there
abbrev pub run_begun : MachineView → Option Obj → (barrier : Bool) → MachineView
run_begun m node barrier = option_map_or (λ n. begun_on m n barrier) node m

abbrev pub run_closed : MachineView → Option Obj → (barrier : Bool) → MachineView
run_closed m node barrier = option_map_or (λ n. closed_on m n barrier) node m

-- ## Submissions

-- the block waits behind all others on the node
abbrev pub submitted : MachineView → Obj → Blk → (barrier : Bool) → MachineView
submitted m n b barrier = record m {
  lists = pushed_on m.lists n b barrier;
  blocks = with_block m.blocks b.0 (λ x. record x { node = Some n; barrier = barrier });
  busy = slice_set m.busy n.0 true;
  left = m.left + 1;
}

-- the block is noted as submitted on the node, and not as a barrier
abbrev pub noted_on : Obj → List BlockProgress → ℕ → List BlockProgress
noted_on n blocks b = with_block blocks b (λ x. record x { node = Some n; barrier = false })

-- so many blocks from the first on wait behind all others on the node, in the order of their numbers
abbrev pub span_submitted : MachineView → Obj → (first count : ℕ) → MachineView
span_submitted m n first count = record m {
  lists = record m.lists { lists = slice_set m.lists.lists n.0 (list_at m.lists n.0 ++ span first count) };
  blocks = fold (noted_on n) m.blocks (range_with_len first count);
  busy = if count == 0 then m.busy else slice_set m.busy n.0 true;
  left = m.left + count;
}

-- the blocks of strip a wait behind all others on the node
abbrev pub strip_submitted : MachineView → Obj → (a : ℕ) → MachineView
strip_submitted m n a = option_map_or (λ s. span_submitted m n s.first s.count) (slice_get m.plan.strips a) m

-- ## Wakes

-- the waits of these blocks are over: each may wake, and has no limit ahead
abbrev pub all_over : MachineView → List Blk → MachineView
all_over m blocks = record m {
  wakeable = fold with_wakeable m.wakeable blocks;
  ahead = fold without_limit m.ahead blocks;
  ripe = fold without_ripe m.ripe blocks;
}

-- block b has no limit ahead
abbrev pub unlimited : MachineView → Blk → MachineView
unlimited m b = record m { ahead = without_limit m.ahead b }

-- the wait of block b is over
abbrev pub let_go : MachineView → Blk → MachineView
let_go m b = record m { wakeable = with_wakeable m.wakeable b; ahead = without_limit m.ahead b; ripe = without_ripe m.ripe b }

-- the wait of block b has this limit, if it has one: it is ahead, or the wait may expire at once
abbrev pub limited : MachineView → Blk → Option ℕ → MachineView
limited m b limit = record m { ahead = laid_ahead m b limit; ripe = laid_ripe m b limit }

-- block b sleeps at the object behind all others there
abbrev pub laid_down : MachineView → Obj → Blk → MachineView
laid_down m o b = record m { sleepers = pushed_on m.sleepers o b false }

-- the first block that sleeps at the object may wake
abbrev pub first_let_go : MachineView → Obj → MachineView
first_let_go m o = record (all_over m (take 1 (sleepers_at m (Some o)))) { sleepers = popped m.sleepers (Some o) }

-- each block that sleeps at the object may wake
abbrev pub all_let_go : MachineView → Obj → MachineView
all_let_go m o = record (all_over m (sleepers_at m (Some o))) {
  sleepers = record m.sleepers { lists = slice_set m.sleepers.lists o.0 [] };
}

-- ## Acts

-- the run has made one act more
abbrev pub acted : MachineView → Run → MachineView
acted m (Block b) = record m { blocks = with_block m.blocks b.0 (λ x. record x { done = x.done + 1 }) }
acted m (Source s) = record m { handlers = handled m (Source s) }

-- block b waits for this, with this limit or without one, and its worker w is free
abbrev pub parked : MachineView → ℕ → Blk → Reason → (limit : Option ℕ) → MachineView
parked m w b why limit = set_free (record m { waits = with_parked m.waits b.0 why limit }) w

-- block b waits for the end of block c
abbrev pub called_by : MachineView → ℕ → Blk → Blk → MachineView
called_by m w b c =
    parked (record m { blocks = with_block m.blocks c.0 (λ x. record x { caller = Some b }) }) w b (EndOf c) None

-- block b waits for group g, or may wake at once where the group is empty
abbrev pub waited_for_group : MachineView → ℕ → Blk → Obj → (limit : Option ℕ) → MachineView
waited_for_group m w b g limit =
    parked (if count_at m.groups g.0 == 0 then let_go m b else limited (laid_down m g b) b limit) w b (Empty g m.len) limit

-- block b waits for semaphore s, or may wake at once where its wait passes
abbrev pub waited_for_semaphore : MachineView → ℕ → Blk → Obj → (limit : Option ℕ) → MachineView
waited_for_semaphore m w b s limit =
    parked (record (if has_value_at m.semas s.0 then let_go m b else limited (laid_down m s b) b limit) {
      semas = with_wait m.semas s.0;
    }) w b (Rank s (waits_at m.semas s.0 + 1)) limit

-- block b waits for the blocks of strip a, or may wake at once where each has ended
abbrev pub waited_for_strip : MachineView → ℕ → Blk → (a : ℕ) → MachineView
waited_for_strip m w b a =
    parked (if left_at m.strips a == 0 then let_go m b else record m { appliers = slice_set m.appliers a (Some b) }) w b (Strip a) None

-- block b waits for the end of block c, or may wake at once where that has come
abbrev pub waited_for_block : MachineView → ℕ → Blk → Blk → MachineView
waited_for_block m w b c =
    parked (if ended_at m c.0 then let_go m b else record m { waiters = pushed_on m.waiters (record { 0 = c.0 }) b false }) w b (EndOf c) None

-- ## Activation and cancellation

-- object o, which was inactive, is active: its timer begins, and its feed is live
abbrev pub made_active : MachineView → Obj → MachineView
made_active m o = record m {
  timers = with_activated m.timers o.0;
  live = if has_kind is_read_kind m.plan o.0 && not (is_cancelled_at m.sources o.0) then slice_set m.live o.0 true else m.live;
}

-- source s, which was not cancelled, is cancelled: its timer ends, and its feed is live no more
abbrev pub made_cancelled : MachineView → Obj → MachineView
made_cancelled m s = record m {
  sources = with_cancelled_source m.sources s.0;
  timers = with_cancelled_timer m.timers s.0;
  live = slice_set m.live s.0 false;
}

-- object o is active
abbrev pub activated : MachineView → Obj → MachineView
activated m o = record (if is_active_at m.holds o.0 then m else made_active m o) { holds = with_active m.holds o.0 }

-- a suspend of object o less, or an inactive source is active
abbrev pub resumed : MachineView → Obj → MachineView
resumed m o = if hold_at m.holds o.0 == 0 then activated m o else record m { holds = with_hold m.holds o.0 (hold_at m.holds o.0 - 1) }

-- the block that the source submits at its cancellation waits on the source, if there is one
abbrev pub cancel_submitted : MachineView → Obj → MachineView
cancel_submitted m s = option_map_or (λ b. submitted m s b false) (cancel_block m.plan s.0) m

-- source s is cancelled
abbrev pub cancelled : MachineView → Obj → MachineView
cancelled m s = if is_cancelled_at m.sources s.0 then m else cancel_submitted (made_cancelled m s) s

-- the value is pending at source s
abbrev pub merged : MachineView → Obj → ℕ → MachineView
merged m s n = record m {
  sources = with_pending m.sources s.0 (merged_at m.sources s.0 n);
  busy = if n == 0 then m.busy else slice_set m.busy s.0 true;
}

-- ## Time

-- each wait whose limit time t has reached may expire, and its limit is ahead no more
abbrev pub ripened : MachineView → ℕ → MachineView
ripened m t = record m {
  ahead = map (still_ahead t) m.ahead;
  ripe = map (is_ripe_by m t) (range_with_len 0 (length m.ripe));
}

-- the time has come to t
abbrev pub come_to : MachineView → ℕ → MachineView
come_to m t = ripened (record m { timers = record m.timers { moment = t }; busy = marked_by m.timers t m.busy }) t

-- ## Groups

-- the notify blocks of group g that are due are submitted
abbrev pub fired_at : MachineView → Blk → MachineView
fired_at m b = submitted m (block_at m b.0).home b false

abbrev pub all_fired_at : MachineView → Obj → MachineView
all_fired_at m g = record (fold fired_at m (map (λ w. w.0) (take (due_at m.groups g.0) (list_at m.groups.notify g.0)))) {
  groups = all_fired m.groups g.0;
}

-- group g is empty: who sleeps there may wake, and its notify blocks are submitted
abbrev pub emptied : MachineView → Obj → MachineView
emptied m g = all_fired_at (all_let_go m g) g

-- group g has one member less
abbrev pub left_group : MachineView → Obj → MachineView
left_group m g =
    if count_at m.groups g.0 == 1
    then emptied (record m { groups = with_one_less m.groups g.0 (m.len + 1) }) g
    else record m { groups = with_one_less m.groups g.0 (m.len + 1) }

-- ## Ends of blocks

-- the notify blocks of block c are submitted, where it has ended
abbrev pub told_at : MachineView → Blk → MachineView
told_at m c =
    if has_ended_at m.marks c.0
    then record (fold fired_at m (map (λ w. w.0) (list_at m.marks.notify c.0))) { marks = all_told m.marks c.0 }
    else m

-- each block that waits for the end of block b by an act of its own may wake
abbrev pub waiters_let_go : MachineView → Blk → MachineView
waiters_let_go m b = record (all_over m (map (λ w. w.0) (list_at m.waiters b.0))) { waiters = none_waiting m.waiters b }

-- ## Events

-- worker w has started block b
abbrev pub started : MachineView → ℕ → Blk → MachineView
started m w b =
    let noted : MachineView = record m { blocks = with_block m.blocks b.0 (λ x. record x { started = true }); marks = with_begun m.marks b.0 } in
    taken_up (run_begun noted (block_at m b.0).node (block_at m b.0).barrier) w (Block b)

-- worker w goes on with block b
abbrev pub woken : MachineView → ℕ → Blk → MachineView
woken m w b = taken_up (record m { waits = with_woken m.waits b.0; wakeable = slice_set m.wakeable b.0 false }) w (Block b)

-- block b's wait for this has expired: it counts at its semaphore no more, and the block sleeps nowhere
abbrev pub wait_ended : MachineView → Blk → Option Reason → MachineView
wait_ended m b awaited = record m { semas = semas_expired m.semas awaited; sleepers = removed m.sleepers (bed_of awaited) b }

-- the wait of block b has expired, and the block may wake
abbrev pub expired : MachineView → Blk → MachineView
expired m b = let_go (wait_ended (record m { waits = with_expired m.waits b.0 }) b (reason_at m.waits b.0)) b

-- block b is over: its run has closed on its node, if it has one, and worker w is free
abbrev pub closed_block : MachineView → ℕ → Blk → MachineView
closed_block m w b =
    let over : MachineView = record m { ended = slice_set m.ended b.0 true; left = m.left - 1; marks = with_ended m.marks b.0 } in
    set_free (run_closed over (block_at m b.0).node (block_at m b.0).barrier) w

-- whoever waits for the end of block b may wake
abbrev pub caller_let_go : MachineView → Option Blk → MachineView
caller_let_go m caller = option_map_or (let_go m) caller m

-- the block that applied the strip may wake, if there is one
abbrev pub applier_let_go : MachineView → Option ℕ → MachineView
applier_let_go m None = m
applier_let_go m (Some a) = caller_let_go (record m { appliers = slice_set m.appliers a None }) (applier_at m a)

-- one block more of a strip has ended, if block b is of one; with the last the block that applied the strip may wake
abbrev pub strip_ended : MachineView → Blk → MachineView
strip_ended m b =
    let woken_for : MachineView = applier_let_go m (done_by m b) in
    record woken_for { strips = with_done woken_for.strips b.0 }

-- whoever waits for the end of block b may wake: its caller, those that wait by an act of their own, and where it is the last of a
-- strip the one that applied that
abbrev pub waits_ended : MachineView → Blk → Option Blk → MachineView
waits_ended m b caller = strip_ended (waiters_let_go (caller_let_go m caller) b) b

-- the group that counted the block has one member less, if there is one
abbrev pub member_left : MachineView → Option Obj → MachineView
member_left m group = option_map_or (left_group m) group m

abbrev pub ended : MachineView → ℕ → Blk → MachineView
ended m w b = member_left (waits_ended (told_at (closed_block m w b) b) b (block_at m b.0).caller) (block_at m b.0).group

-- block b has started and is over, and nothing that waited for its end has changed
abbrev pub passed : MachineView → Blk → MachineView
passed m b =
    let noted : MachineView = record m { blocks = with_block m.blocks b.0 (λ x. record x { started = true }); marks = with_begun m.marks b.0 } in
    let off : MachineView = option_map_or (taken_off noted) (block_at m b.0).node noted in
    record off { ended = slice_set off.ended b.0 true; left = off.left - 1; marks = with_ended off.marks b.0 }

-- worker w has handed what is pending at source s to its handler
abbrev pub delivered : MachineView → ℕ → Obj → MachineView
delivered m w s =
    taken_up (record m {
      handlers = slice_set m.handlers s.0 (delivery m s.0);
      sources = with_pending m.sources s.0 0;
      tree = opened m.tree (Some s);
      busy = slice_set m.busy s.0 (stays_busy (length (list_at m.lists s.0)) 0);
    }) w (Source s)

-- worker w has ended the run of the handler of source s
abbrev pub delivery_ended : MachineView → ℕ → Obj → MachineView
delivery_ended m w s = set_free (record m { tree = closed m.tree (Some s) }) w

-- block b of the intake is submitted on the intake's queue
abbrev pub accepted : MachineView → Blk → MachineView
accepted m b = option_map_or (λ i. submitted m i.queue b false) m.plan.intake m

-- one block more of the intake is accepted
abbrev pub accepted_one : MachineView → Blk → MachineView
accepted_one m b = accepted (record m { accepted = m.accepted + 1 }) b

-- ## Acts of a block and of a handler

-- the block submits a member of group g
abbrev pub member_submitted : MachineView → Obj → Obj → Blk → MachineView
member_submitted m g q b =
    submitted (record m {
      groups = with_one_more m.groups g.0 (m.len + 1);
      blocks = with_block m.blocks b.0 (λ x. record x { group = Some g });
    }) q b false

-- block b goes to q once group g is empty, at once where it is so
abbrev pub registered : MachineView → Obj → Obj → Blk → MachineView
registered m g q b =
    all_fired_at (record m {
      blocks = with_block m.blocks b.0 (λ x. record x { home = q });
      groups = with_notify m.groups g.0 b;
    }) g

-- block d goes to q once block c has ended, at once where it has
abbrev pub told_of : MachineView → Blk → Obj → Blk → MachineView
told_of m c q d =
    told_at (record m {
      blocks = with_block m.blocks d.0 (λ x. record x { home = q });
      marks = with_block_notify m.marks c.0 d;
    }) c

-- group g is left once more
abbrev pub left_by_act : MachineView → Obj → MachineView
left_by_act m g =
    let left : MachineView =
    record m { groups = with_entered (with_one_less m.groups g.0 (m.len + 1)) g.0 (entered_at m.groups g.0 - 1) } in
    if count_at m.groups g.0 == 1 then emptied left g else left

-- semaphore s is signalled
abbrev pub signalled_at : MachineView → Obj → MachineView
signalled_at m s = first_let_go (record m { semas = with_signals m.semas s.0 (signals_at m.semas s.0 + 1) }) s

-- one suspend more is outstanding on object o
abbrev pub suspended : MachineView → Obj → MachineView
suspended m o = record m { holds = with_hold m.holds o.0 (hold_at m.holds o.0 + 1) }

-- object o has another target, at once or as a request
abbrev pub retargeted : MachineView → Obj → Obj → MachineView
retargeted m o t = record m { tree = targeted m.tree (Some (Target o t)) }

-- what the act does, whoever makes it
abbrev pub effect_of : MachineView → Act → MachineView
effect_of m (Async q b) = submitted m q b false
effect_of m (Barrier q b) = submitted m q b true
effect_of m (Sync q b) = submitted m q b false
effect_of m (BarrierSync q b) = submitted m q b true
effect_of m (GroupAsync g q b) = member_submitted m g q b
effect_of m (Notify g q b) = registered m g q b
effect_of m (Enter g) =
    record m { groups = with_entered (with_one_more m.groups g.0 (m.len + 1)) g.0 (entered_at m.groups g.0 + 1) }
effect_of m (Leave g) = left_by_act m g
effect_of m (GroupWait g) = m
effect_of m (GroupWaitFor g ms) = m
effect_of m (Signal s) = signalled_at m s
effect_of m (Wait s) = m
effect_of m (WaitFor s ms) = m
effect_of m (Suspend o) = suspended m o
effect_of m (Resume o) = resumed m o
effect_of m (Activate o) = activated m o
effect_of m (Target o t) = retargeted m o t
effect_of m (Merge s n) = merged m s n
effect_of m (Cancel s) = cancelled m s
effect_of m (Retain o) = record m { refs = slice_set m.refs o.0 (refs_at m o.0 + 1) }
effect_of m (Release o) = record m { refs = slice_set m.refs o.0 (refs_at m o.0 - 1) }
effect_of m (Apply q a) = strip_submitted m q a
effect_of m (CancelBlock c) = record m { marks = with_cancelled_block m.marks c.0 }
effect_of m (WaitBlock c) = m
effect_of m (NotifyBlock c q d) = told_of m c q d

-- block b is parked where the act, which it makes, waits for something
abbrev pub parked_by_act : MachineView → ℕ → Blk → Act → MachineView
parked_by_act m w b (Async q c) = m
parked_by_act m w b (Barrier q c) = m
parked_by_act m w b (Sync q c) = called_by m w b c
parked_by_act m w b (BarrierSync q c) = called_by m w b c
parked_by_act m w b (GroupAsync g q c) = m
parked_by_act m w b (Notify g q c) = m
parked_by_act m w b (Enter g) = m
parked_by_act m w b (Leave g) = m
parked_by_act m w b (GroupWait g) = waited_for_group m w b g None
parked_by_act m w b (GroupWaitFor g ms) = waited_for_group m w b g (limit_in_view m (Some (GroupWaitFor g ms)))
parked_by_act m w b (Signal s) = m
parked_by_act m w b (Wait s) = waited_for_semaphore m w b s None
parked_by_act m w b (WaitFor s ms) = waited_for_semaphore m w b s (limit_in_view m (Some (WaitFor s ms)))
parked_by_act m w b (Suspend o) = m
parked_by_act m w b (Resume o) = m
parked_by_act m w b (Activate o) = m
parked_by_act m w b (Target o t) = m
parked_by_act m w b (Merge s n) = m
parked_by_act m w b (Cancel s) = m
parked_by_act m w b (Retain o) = m
parked_by_act m w b (Release o) = m
parked_by_act m w b (Apply q a) = waited_for_strip m w b a
parked_by_act m w b (CancelBlock c) = m
parked_by_act m w b (WaitBlock c) = waited_for_block m w b c
parked_by_act m w b (NotifyBlock c q d) = m

abbrev pub parked_in : MachineView → ℕ → Run → Act → MachineView
parked_in m w (Block b) act = parked_by_act m w b act
parked_in m w (Source s) act = m

-- the run has made the act
abbrev pub act_made : MachineView → ℕ → Run → Act → MachineView
act_made m w run act = effect_of (parked_in (acted m run) w run act) act

-- the same, if there is one
abbrev pub act_taken : MachineView → ℕ → Run → Option Act → MachineView
act_taken m w run act = option_map_or (act_made m w run) act m

-- ## The whole

-- what the event changes beside the number of events
abbrev pub changed : MachineView → Event → MachineView
changed m (Start w b) = started m w b
changed m (Acted w run i) = act_taken m w run (act_at m.plan run i)
changed m (Wake w b) = woken m w b
changed m (End w b) = ended m w b
changed m (Deliver w s) = delivered m w s
changed m (DeliverEnd w s) = delivery_ended m w s
changed m (Tick t) = come_to m t
changed m (Ready s n) = merged m s n
changed m (FeedEnd s) = cancelled m s
changed m (Misuse w c run i) = record m { misused = true }
changed m Halt = record m { halted = true }
changed m (Expire b) = expired m b
changed m (Accept b s) = accepted_one m b
changed m Shut = record m { shut = true }

abbrev pub stepped : MachineView → Event → MachineView
stepped m e = record (changed m e) { len = m.len + 1 }
