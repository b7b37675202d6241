-- When each private step of a machine may be made: what its parts and arrays ask, of the state before the step.
use Rattle.std.specs.Prelude.{◌≡◌, ◌<◌, ◌≤◌, ℕ, ◌+◌, ◌^◌, Bool, true, false, length, Some, None, Option, is_some, sum, option_map, slice_get}
use Rattle.gcd_plan.specs.PlanView.{IntakeView, StripView, cancel_block}
use Rattle.gcd_plan.specs.declared.act.Act.{Act}
use Rattle.gcd_plan.specs.declared.act.Act.TheVariants.{Async, Barrier, Sync, BarrierSync, GroupAsync, Notify, Enter, Leave, GroupWait, GroupWaitFor, Signal, Wait, WaitFor, Suspend, Resume, Activate, Target, Merge, Cancel, Retain, Release, Apply, CancelBlock, WaitBlock, NotifyBlock}
use Rattle.gcd_plan.specs.declared.numbers.Blk.{Blk}
use Rattle.gcd_plan.specs.declared.numbers.Obj.{Obj}
use Rattle.gcd_plan.specs.declared.numbers.Run.{Run}
use Rattle.gcd_plan.specs.declared.numbers.Run.TheVariants.{Block, Source}
use Rattle.gcd_plan.specs.declared.reason.Reason.{Reason}
use Rattle.gcd_plan.specs.declared.reason.Reason.TheVariants.{Block as EndOf, Group as Empty, Strip, Rank}
use Rattle.gcd_event.specs.declared.event.Event.{Event}
use Rattle.gcd_event.specs.declared.event.Event.TheVariants.{Start, Act as Acted, Wake, End, Deliver, DeliverEnd, Tick, Ready, FeedEnd, Misuse, Halt, Expire, Accept, Shut}
use Rattle.gcd_history.specs.Runs.{act_at}
use Rattle.gcd_lists.specs.ListsView.{place_of, list_at}
use Rattle.gcd_tree.specs.TreeView.{open_on_at, has_mover_at, is_node_at, would_cycle_at, has_child_at, open_beneath_at}
use Rattle.gcd_hold.specs.HoldsView.{hold_at, is_active_at, is_over_resumed_at}
use Rattle.gcd_drain.specs.DrainsView.{barriers_at}
use Rattle.gcd_group.specs.GroupsView.{count_at, entered_at, due_at}
use Rattle.gcd_sema.specs.SemasView.{waits_at, signals_at, room_at, is_expired_at, is_passed_at}
use Rattle.gcd_source.specs.SourcesView.{pending_at, is_cancelled_at, merged_at}
use Rattle.gcd_timer.specs.TimersView.{due_count_at, activated_at, cancelled_at}
use Rattle.gcd_sync.specs.WaitsView.{Fits, reason_at, limit_at}
use Rattle.gcd_refinement.specs.MachineView.{MachineView, at_worker, block_at, handler_at, refs_at, applier_at}
use Rattle.gcd_refinement.specs.Submits.{done_by}
use Rattle.gcd_refinement.specs.AfterSleepers.{bed_of}
use Rattle.gcd_refinement.specs.AfterLimits.{limit_in_view}
use Rattle.gcd_plan.specs.Limits.{max_blocks, max_objects}
use Rattle.gcd_machine.specs.Steps.{stepped}

-- ## Workers and wakes

-- worker w may take a run up
pub record CanTakeUp (m : MachineView) (w : ℕ) : Type 0 where
  pub worker : w < length m.workers
  pub room : m.running + 1 < 2 ^ 32

-- worker w, whose run is open and not parked, may be set free
pub record CanSetFree (m : MachineView) (w : ℕ) : Type 0 where
  pub worker : w < length m.workers
  pub running : 0 < m.running

-- limits are kept of block b, and this is one
pub record CanKeepLimit (m : MachineView) (b : Blk) (end : ℕ) : Type 0 where
  pub kept : b.0 < length m.waits.limits
  pub short : end + 1 < 2 ^ 32

-- worker w may park block b, with this limit or without one
pub record CanPark (m : MachineView) (w : ℕ) (b : Blk) (why : Reason) (limit : Option ℕ) : Type 0 where
  pub worker : CanSetFree m w
  pub blk : b.0 < length m.waits.reasons
  pub fits : Fits m.waits why
  pub keeps : (end : ℕ) → limit ≡ Some end → CanKeepLimit m b end

-- block b, which sleeps nowhere, may sleep at the object
pub record CanLayDown (m : MachineView) (o : Obj) (b : Blk) : Type 0 where
  pub object : o.0 < length m.sleepers.lists
  pub blk : b.0 < m.sleepers.blocks
  pub awake : place_of m.sleepers b.0 ≡ None

-- the wait of block b may be over
pub record CanLetGo (m : MachineView) (b : Blk) : Type 0 where
  pub wakeable : b.0 < length m.wakeable
  pub ripe : b.0 < length m.ripe

-- blocks may sleep at the object
pub record CanWakeAt (m : MachineView) (o : Obj) : Type 0 where
  pub object : o.0 < length m.sleepers.lists
  pub blocks : m.sleepers.blocks ≤ length m.wakeable
  pub ripe : m.sleepers.blocks ≤ length m.ripe

-- the limit of block b's wait may be ahead
pub record CanBeAhead (m : MachineView) (b : Blk) (end : ℕ) : Type 0 where
  pub kept : b.0 < length m.ahead
  pub short : end + 1 < 2 ^ 32

-- ## Nodes

-- what is pending at the source is a number that fits
pub record HasPending (m : MachineView) (s : Obj) : Type 0 where
  pub source : s.0 < length m.sources.kinds
  pub timer : s.0 < length m.timers.kinds
  pub handler : s.0 < length m.handlers
  pub taken : (handler_at m s.0).taken ≤ due_count_at m.timers s.0
  pub room : pending_at m.sources s.0 + due_count_at m.timers s.0 < 2 ^ 64

-- a run may open on the node
pub record CanOpen (m : MachineView) (n : Obj) : Type 0 where
  pub node : n.0 < length m.tree.targets
  pub still : has_mover_at m.tree n.0 ≡ false
  pub runs : sum m.tree.open_on + 1 < 2 ^ 32

-- a run is open on the node
pub record CanClose (m : MachineView) (n : Obj) : Type 0 where
  pub node : n.0 < length m.tree.targets
  pub is_open : 0 < open_on_at m.tree n.0

-- the first block on the node may leave its list
pub record CanTakeOff (m : MachineView) (n : Obj) : Type 0 where
  pub list : n.0 < length m.lists.lists
  pub marked : n.0 < length m.busy
  pub pending : HasPending m n

-- the run of a block, a barrier or not, may open on the node
pub record CanBegin (m : MachineView) (n : Obj) (barrier : Bool) : Type 0 where
  pub off : CanTakeOff m n
  pub opens : CanOpen m n
  pub fenced : n.0 < length m.drains.barriers
  pub barriers : barrier ≡ true → barriers_at m.drains n.0 + 1 < 2 ^ 32

-- the run of a block, a barrier or not, is open on the node
pub record CanCloseOn (m : MachineView) (n : Obj) (barrier : Bool) : Type 0 where
  pub closes : CanClose m n
  pub fenced : n.0 < length m.drains.barriers
  pub barriers : barrier ≡ true → 0 < barriers_at m.drains n.0

-- the block, which waits nowhere, may wait on the node
pub record CanSubmit (m : MachineView) (n : Obj) (b : Blk) : Type 0 where
  pub node : n.0 < length m.lists.lists
  pub listed : b.0 < m.lists.blocks
  pub nowhere : place_of m.lists b.0 ≡ None
  pub blk : b.0 < length m.blocks
  pub marked : n.0 < length m.busy
  pub room : m.left + 1 < 2 ^ 32

-- so many blocks from the first on, which wait nowhere, may wait on the node
pub record CanSubmitSpan (m : MachineView) (n : Obj) (first count : ℕ) : Type 0 where
  pub node : n.0 < length m.lists.lists
  pub listed : first + count ≤ m.lists.blocks
  pub short : first + count < 2 ^ 32
  pub nowhere : (b : ℕ) → first ≤ b → b < first + count → place_of m.lists b ≡ None
  pub blocks : first + count ≤ length m.blocks
  pub marked : n.0 < length m.busy
  pub room : m.left + count < 2 ^ 32

-- the blocks of strip a may wait on the node
pub record CanSubmitStrip (m : MachineView) (n : Obj) (a : ℕ) : Type 0 where
  pub blocks : (s : StripView) → slice_get m.plan.strips a ≡ Some s → CanSubmitSpan m n s.first s.count

-- ## Groups

-- each notify block has a home, and waits on no node
pub record HaveHomes (m : MachineView) : Type 0 where
  pub homes : (b : ℕ) → (block_at m b).home.0 < length m.lists.lists
  pub nowhere : (b : ℕ) → is_some (place_of m.groups.notify b) ≡ true → place_of m.lists b ≡ None
  pub listed : m.groups.notify.blocks ≡ m.lists.blocks
  pub blocks : m.groups.notify.blocks ≡ length m.blocks
  pub marked : length m.busy ≡ length m.lists.lists

-- the notify blocks of group g that are due may be submitted
pub record CanFire (m : MachineView) (g : Obj) : Type 0 where
  pub group : g.0 < length m.groups.counts
  pub homes : HaveHomes m
  pub room : m.left + due_at m.groups g.0 < 2 ^ 32

-- who sleeps at group g may wake, and its notify blocks that are due may be submitted
pub record CanEmpty (m : MachineView) (g : Obj) : Type 0 where
  pub wakes : CanWakeAt m g
  pub fires : CanFire m g

-- group g may come to be empty in this event: who sleeps there may wake, and all its notify blocks may be submitted
pub record CanComeEmpty (m : MachineView) (g : Obj) : Type 0 where
  pub group : g.0 < length m.groups.counts
  pub position : m.len + 1 < 2 ^ 32
  pub wakes : CanWakeAt m g
  pub homes : HaveHomes m
  pub room : m.left + length (list_at m.groups.notify g.0) < 2 ^ 32

-- group g counts a block
pub record CanLeave (m : MachineView) (g : Obj) : Type 0 where
  pub counted : entered_at m.groups g.0 < count_at m.groups g.0
  pub comes_empty : CanComeEmpty m g

-- group g was entered
pub record CanLeaveByAct (m : MachineView) (g : Obj) : Type 0 where
  pub entered : 0 < entered_at m.groups g.0
  pub comes_empty : CanComeEmpty m g

-- group g may count one more
pub record CanEnter (m : MachineView) (g : Obj) : Type 0 where
  pub group : g.0 < length m.groups.counts
  pub room : count_at m.groups g.0 + 1 < 2 ^ 32
  pub position : m.len + 1 < 2 ^ 32

-- the block may be submitted as a member of group g
pub record CanSubmitMember (m : MachineView) (g : Obj) (q : Obj) (b : Blk) : Type 0 where
  pub group : CanEnter m g
  pub low : g.0 < max_objects
  pub submits : CanSubmit m q b

-- the block, which is of no group and waits nowhere, may be told of group g at q, of which no block is due
pub record CanRegister (m : MachineView) (g : Obj) (q : Obj) (b : Blk) : Type 0 where
  pub group : g.0 < length m.groups.counts
  pub homes : HaveHomes m
  pub home : q.0 < length m.lists.lists
  pub low : q.0 < max_objects
  pub blk : b.0 < length m.blocks
  pub of_no_group : place_of m.groups.notify b.0 ≡ None
  pub nowhere : place_of m.lists b.0 ≡ None
  pub fired : due_at m.groups g.0 ≡ 0
  pub room : m.left + (length (list_at m.groups.notify g.0) + 1) < 2 ^ 32

-- ## Ends of blocks

-- each block that is to be submitted after the end of another has a home, and waits on no node
pub record HaveHomesAtEnd (m : MachineView) : Type 0 where
  pub homes : (b : ℕ) → (block_at m b).home.0 < length m.lists.lists
  pub nowhere : (b : ℕ) → is_some (place_of m.marks.notify b) ≡ true → place_of m.lists b ≡ None
  pub listed : m.marks.notify.blocks ≤ m.lists.blocks
  pub blocks : m.marks.notify.blocks ≤ length m.blocks
  pub marked : length m.busy ≡ length m.lists.lists

-- the notify blocks of block c may be submitted
pub record CanTell (m : MachineView) (c : Blk) : Type 0 where
  pub homes : HaveHomesAtEnd m
  pub room : m.left + length (list_at m.marks.notify c.0) < 2 ^ 32

-- block d, which is told of no block and waits nowhere, may be told of block c at q
pub record CanTellOf (m : MachineView) (c : Blk) (q : Obj) (d : Blk) : Type 0 where
  pub awaited : c.0 < length m.marks.notify.lists
  pub waiting : d.0 < m.marks.notify.blocks
  pub waits_for_none : place_of m.marks.notify d.0 ≡ None
  pub homes : HaveHomesAtEnd m
  pub home : q.0 < length m.lists.lists
  pub low : q.0 < max_objects
  pub blk : d.0 < length m.blocks
  pub nowhere : place_of m.lists d.0 ≡ None
  pub room : m.left + (length (list_at m.marks.notify c.0) + 1) < 2 ^ 32

-- each block that waits for the end of another may wake
pub record CanLetWaitersGo (m : MachineView) : Type 0 where
  pub blocks : m.waiters.blocks ≤ length m.wakeable
  pub ripe : m.waiters.blocks ≤ length m.ripe

-- the block that applied the strip may wake, if there is one
pub record CanLetApplierGo (m : MachineView) (last : Option ℕ) : Type 0 where
  pub strip : (a : ℕ) → last ≡ Some a → a < length m.appliers
  pub applier : (a : ℕ) (c : Blk) → last ≡ Some a → applier_at m a ≡ Some c → CanLetGo m c

-- group g may count one less once the notify blocks of block b are submitted, which are none of its own
pub record CanLeaveTold (m : MachineView) (b : Blk) (g : Obj) : Type 0 where
  pub leaves : CanLeave m g
  pub apart : (c : ℕ) → is_some (place_of m.marks.notify c) ≡ true → place_of m.groups.notify c ≡ None
  pub room : m.left + length (list_at m.marks.notify b.0) + length (list_at m.groups.notify g.0) < 2 ^ 32

-- whoever waits for the end of block b may wake
pub record CanEndWaits (m : MachineView) (b : Blk) (called_by : Option Blk) : Type 0 where
  pub caller : (c : Blk) → called_by ≡ Some c → CanLetGo m c
  pub waiters : CanLetWaitersGo m
  pub applier : CanLetApplierGo m (done_by m b)

-- ## Semaphores

-- semaphore s may be signalled
pub record CanSignal (m : MachineView) (s : Obj) : Type 0 where
  pub semaphore : s.0 < length m.semas.waits
  pub room : signals_at m.semas s.0 + 1 < 2 ^ 32
  pub wakes : CanWakeAt m s

-- ## Activation and cancellation

-- object o was never activated
pub record CanMakeActive (m : MachineView) (o : Obj) : Type 0 where
  pub timer : o.0 < length m.timers.kinds
  pub never : activated_at m.timers o.0 ≡ None
  pub known : o.0 < length m.plan.objects
  pub source : o.0 < length m.sources.kinds
  pub live : o.0 < length m.live

-- object o is active, or was never activated
pub record CanActivate (m : MachineView) (o : Obj) : Type 0 where
  pub object : o.0 < length m.holds.holds
  pub inactive : is_active_at m.holds o.0 ≡ false → CanMakeActive m o

-- object o is suspended, or is an inactive source
pub record CanResume (m : MachineView) (o : Obj) : Type 0 where
  pub object : o.0 < length m.holds.holds
  pub no_misuse : is_over_resumed_at m.holds o.0 ≡ false
  pub inactive : hold_at m.holds o.0 ≡ 0 → is_active_at m.holds o.0 ≡ false → CanMakeActive m o

-- object o may be suspended
pub record CanSuspend (m : MachineView) (o : Obj) : Type 0 where
  pub object : o.0 < length m.holds.holds
  pub room : hold_at m.holds o.0 + 1 < 2 ^ 32

-- source s was never cancelled
pub record CanMakeCancelled (m : MachineView) (s : Obj) : Type 0 where
  pub source : s.0 < length m.sources.kinds
  pub timer : s.0 < length m.timers.kinds
  pub never : cancelled_at m.timers s.0 ≡ None
  pub known : s.0 < length m.plan.objects
  pub live : s.0 < length m.live

-- source s is cancelled, or may be, and its cancellation block may be submitted
pub record CanCancel (m : MachineView) (s : Obj) : Type 0 where
  pub source : s.0 < length m.sources.kinds
  pub first : is_cancelled_at m.sources s.0 ≡ false → CanMakeCancelled m s
  pub submits : is_cancelled_at m.sources s.0 ≡ false → (b : Blk) → cancel_block m.plan s.0 ≡ Some b → CanSubmit m s b

-- the value may be merged into source s
pub record CanMerge (m : MachineView) (s : Obj) (n : ℕ) : Type 0 where
  pub source : s.0 < length m.sources.kinds
  pub room : merged_at m.sources s.0 n < 2 ^ 64
  pub marked : s.0 < length m.busy

-- ## Targets and references

-- object o may have the target t
pub record CanTarget (m : MachineView) (o : Obj) (t : Obj) : Type 0 where
  pub object : o.0 < length m.tree.targets
  pub target : t.0 < length m.tree.targets
  pub node : is_node_at m.tree o.0 ≡ true
  pub no_cycle : would_cycle_at m.tree o.0 t.0 ≡ false
  pub quiet : has_child_at m.tree o.0 ≡ true → open_beneath_at m.tree o.0 ≡ 0

-- object o may have one reference more
pub record CanRetain (m : MachineView) (o : Obj) : Type 0 where
  pub object : o.0 < length m.refs
  pub live : 0 < refs_at m o.0
  pub room : refs_at m o.0 + 1 < 2 ^ 32

-- object o has a reference
pub record CanRelease (m : MachineView) (o : Obj) : Type 0 where
  pub object : o.0 < length m.refs
  pub live : 0 < refs_at m o.0

-- ## Acts

-- what the act does may be done, whoever makes it
abbrev pub CanHaveEffect : MachineView → Act → Type 0
CanHaveEffect m (Async q b) = CanSubmit m q b
CanHaveEffect m (Barrier q b) = CanSubmit m q b
CanHaveEffect m (Sync q b) = CanSubmit m q b
CanHaveEffect m (BarrierSync q b) = CanSubmit m q b
CanHaveEffect m (GroupAsync g q b) = CanSubmitMember m g q b
CanHaveEffect m (Notify g q b) = CanRegister m g q b
CanHaveEffect m (Enter g) = CanEnter m g
CanHaveEffect m (Leave g) = CanLeaveByAct m g
CanHaveEffect m (GroupWait g) = Unit {0}
CanHaveEffect m (GroupWaitFor g ms) = Unit {0}
CanHaveEffect m (Signal s) = CanSignal m s
CanHaveEffect m (Wait s) = Unit {0}
CanHaveEffect m (WaitFor s ms) = Unit {0}
CanHaveEffect m (Suspend o) = CanSuspend m o
CanHaveEffect m (Resume o) = CanResume m o
CanHaveEffect m (Activate o) = CanActivate m o
CanHaveEffect m (Target o t) = CanTarget m o t
CanHaveEffect m (Merge s n) = CanMerge m s n
CanHaveEffect m (Cancel s) = CanCancel m s
CanHaveEffect m (Retain o) = CanRetain m o
CanHaveEffect m (Release o) = CanRelease m o
CanHaveEffect m (Apply q a) = CanSubmitStrip m q a
CanHaveEffect m (CancelBlock c) = Unit {0}
CanHaveEffect m (WaitBlock c) = Unit {0}
CanHaveEffect m (NotifyBlock c q d) = CanTellOf m c q d

-- block b may wait for the end of block c
pub record CanCall (m : MachineView) (w : ℕ) (b : Blk) (c : Blk) : Type 0 where
  pub called : c.0 < length m.blocks
  pub low : b.0 < max_blocks
  pub parks : CanPark m w b (EndOf c) None

-- block b may wait for group g, with this limit or without one
pub record CanWaitForGroup (m : MachineView) (w : ℕ) (b : Blk) (g : Obj) (limit : Option ℕ) : Type 0 where
  pub group : g.0 < length m.groups.counts
  pub over : CanLetGo m b
  pub sleeps : CanLayDown m g b
  pub ahead : (end : ℕ) → limit ≡ Some end → CanBeAhead m b end
  pub parks : CanPark m w b (Empty g m.len) limit

-- block b may wait for semaphore s, with this limit or without one
pub record CanWaitForSemaphore (m : MachineView) (w : ℕ) (b : Blk) (s : Obj) (limit : Option ℕ) : Type 0 where
  pub semaphore : s.0 < length m.semas.waits
  pub room : waits_at m.semas s.0 < room_at m.semas s.0
  pub over : CanLetGo m b
  pub sleeps : CanLayDown m s b
  pub ahead : (end : ℕ) → limit ≡ Some end → CanBeAhead m b end
  pub parks : CanPark m w b (Rank s (waits_at m.semas s.0 + 1)) limit

-- block b may wait for the blocks of strip a
pub record CanWaitForStrip (m : MachineView) (w : ℕ) (b : Blk) (a : ℕ) : Type 0 where
  pub strip : a < length m.appliers
  pub over : CanLetGo m b
  pub parks : CanPark m w b (Strip a) None

-- block b, which waits for the end of no block by an act of its own, may wait for that of block c
pub record CanWaitForBlock (m : MachineView) (w : ℕ) (b : Blk) (c : Blk) : Type 0 where
  pub known : c.0 < length m.ended
  pub awaited : c.0 < length m.waiters.lists
  pub waiting : b.0 < m.waiters.blocks
  pub waits_for_none : place_of m.waiters b.0 ≡ None
  pub over : CanLetGo m b
  pub parks : CanPark m w b (EndOf c) None

-- block b may be parked where the act waits for something
abbrev pub CanParkBy : MachineView → ℕ → Blk → Act → Type 0
CanParkBy m w b (Async q c) = Unit {0}
CanParkBy m w b (Barrier q c) = Unit {0}
CanParkBy m w b (Sync q c) = CanCall m w b c
CanParkBy m w b (BarrierSync q c) = CanCall m w b c
CanParkBy m w b (GroupAsync g q c) = Unit {0}
CanParkBy m w b (Notify g q c) = Unit {0}
CanParkBy m w b (Enter g) = Unit {0}
CanParkBy m w b (Leave g) = Unit {0}
CanParkBy m w b (GroupWait g) = CanWaitForGroup m w b g None
CanParkBy m w b (GroupWaitFor g ms) = CanWaitForGroup m w b g (limit_in_view m (Some (GroupWaitFor g ms)))
CanParkBy m w b (Signal s) = Unit {0}
CanParkBy m w b (Wait s) = CanWaitForSemaphore m w b s None
CanParkBy m w b (WaitFor s ms) = CanWaitForSemaphore m w b s (limit_in_view m (Some (WaitFor s ms)))
CanParkBy m w b (Suspend o) = Unit {0}
CanParkBy m w b (Resume o) = Unit {0}
CanParkBy m w b (Activate o) = Unit {0}
CanParkBy m w b (Target o t) = Unit {0}
CanParkBy m w b (Merge s n) = Unit {0}
CanParkBy m w b (Cancel s) = Unit {0}
CanParkBy m w b (Retain o) = Unit {0}
CanParkBy m w b (Release o) = Unit {0}
CanParkBy m w b (Apply q a) = CanWaitForStrip m w b a
CanParkBy m w b (CancelBlock c) = Unit {0}
CanParkBy m w b (WaitBlock c) = CanWaitForBlock m w b c
CanParkBy m w b (NotifyBlock c q d) = Unit {0}

-- the same of a run; a handler waits for nothing
abbrev pub CanParkIn : MachineView → ℕ → Run → Act → Type 0
CanParkIn m w (Block b) act = CanParkBy m w b act
CanParkIn m w (Source s) act = Unit {0}

-- the run may have made one act more
pub record CanCountBlock (m : MachineView) (b : Blk) : Type 0 where
  pub blk : b.0 < length m.blocks
  pub room : (block_at m b.0).done + 1 < 2 ^ 16

pub record CanCountHandler (m : MachineView) (s : Obj) : Type 0 where
  pub source : s.0 < length m.handlers
  pub room : (handler_at m s.0).done + 1 < 2 ^ 32

abbrev pub CanCount : MachineView → Run → Type 0
CanCount m (Block b) = CanCountBlock m b
CanCount m (Source s) = CanCountHandler m s

-- the run may make the act
pub record CanDo (m : MachineView) (w : ℕ) (run : Run) (act : Act) : Type 0 where
  pub counts : CanCount m run
  pub parks : CanParkIn m w run act
  pub effect : CanHaveEffect m act

-- the run may make its act of this index, if there is one
pub record CanAct (m : MachineView) (w : ℕ) (run : Run) (i : ℕ) : Type 0 where
  pub acts : (act : Act) → act_at m.plan run i ≡ Some act → CanDo m w run act

-- ## Events

-- worker w may start block b
pub record CanStart (m : MachineView) (w : ℕ) (b : Blk) : Type 0 where
  pub worker : CanTakeUp m w
  pub blk : b.0 < length m.blocks
  pub node : (n : Obj) → (block_at m b.0).node ≡ Some n → CanBegin m n (block_at m b.0).barrier

-- worker w may go on with block b
pub record CanWake (m : MachineView) (w : ℕ) (b : Blk) : Type 0 where
  pub worker : CanTakeUp m w
  pub blk : b.0 < length m.waits.reasons
  pub wakeable : b.0 < length m.wakeable

-- the wait on semaphore s of this rank has begun, and has neither passed nor expired
pub record IsWaiting (m : MachineView) (s : ℕ) (rank : ℕ) : Type 0 where
  pub low : 1 ≤ rank
  pub begun : rank ≤ waits_at m.semas s
  pub not_passed : is_passed_at m.semas s rank ≡ false
  pub not_expired : is_expired_at m.semas s rank ≡ false

-- block b's wait for this, which has begun and neither passed nor expired, may end: the block sleeps where it waits
pub record CanEndWait (m : MachineView) (b : Blk) (awaited : Option Reason) : Type 0 where
  pub listed : b.0 < m.sleepers.blocks
  pub objects : length m.sleepers.lists ≡ length m.semas.waits
  pub known : (o : Obj) → bed_of awaited ≡ Some o → o.0 < length m.sleepers.lists
  pub asleep : option_map (λ at. at.0) (place_of m.sleepers b.0) ≡ bed_of awaited
  pub semaphore : (s : Obj) (k : ℕ) → awaited ≡ Some (Rank s k) → IsWaiting m s.0 k

-- the wait of block b, which is parked with a limit, may expire
pub record CanExpire (m : MachineView) (b : Blk) : Type 0 where
  pub blk : b.0 < length m.waits.reasons
  pub over : CanLetGo m b
  pub limited : is_some (limit_at m.waits b.0) ≡ true
  pub ends : CanEndWait m b (reason_at m.waits b.0)

-- block b may be over, and worker w free
pub record CanCloseBlock (m : MachineView) (w : ℕ) (b : Blk) : Type 0 where
  pub worker : CanSetFree m w
  pub blk : b.0 < length m.blocks
  pub ended : b.0 < length m.ended
  pub left : 0 < m.left
  pub node : (n : Obj) → (block_at m b.0).node ≡ Some n → CanCloseOn m n (block_at m b.0).barrier

-- worker w may end block b
pub record CanEnd (m : MachineView) (w : ℕ) (b : Blk) : Type 0 where
  pub closes : CanCloseBlock m w b
  pub tells : CanTell m b
  pub waits : CanEndWaits m b (block_at m b.0).caller
  pub group : (g : Obj) → (block_at m b.0).group ≡ Some g → CanLeaveTold m b g

-- worker w may hand what is pending at source s to its handler
pub record CanDeliver (m : MachineView) (w : ℕ) (s : Obj) : Type 0 where
  pub worker : CanTakeUp m w
  pub list : s.0 < length m.lists.lists
  pub opens : CanOpen m s
  pub marked : s.0 < length m.busy
  pub pending : HasPending m s

-- worker w may end the run of the handler of source s
pub record CanEndDelivery (m : MachineView) (w : ℕ) (s : Obj) : Type 0 where
  pub worker : CanSetFree m w
  pub closes : CanClose m s

-- the time may come to t
pub record CanTick (m : MachineView) (t : ℕ) : Type 0 where
  pub forward : m.timers.moment ≤ t
  pub within : t ≤ m.timers.until
  pub limits : length m.ahead ≤ length m.ripe
  pub marked : length m.busy ≡ length m.timers.kinds

-- one block more of the intake may be accepted: block b
pub record CanAccept (m : MachineView) (b : Blk) : Type 0 where
  pub room : m.accepted + 1 < 2 ^ 32
  pub submits : (i : IntakeView) → m.plan.intake ≡ Some i → CanSubmit m i.queue b

-- what the event changes beside the number of events may be changed
abbrev pub CanChange : MachineView → Event → Type 0
CanChange m (Start w b) = CanStart m w b
CanChange m (Acted w run i) = CanAct m w run i
CanChange m (Wake w b) = CanWake m w b
CanChange m (End w b) = CanEnd m w b
CanChange m (Deliver w s) = CanDeliver m w s
CanChange m (DeliverEnd w s) = CanEndDelivery m w s
CanChange m (Tick t) = CanTick m t
CanChange m (Ready s n) = CanMerge m s n
CanChange m (FeedEnd s) = CanCancel m s
CanChange m (Misuse w c run i) = Unit {0}
CanChange m Halt = Unit {0}
CanChange m (Expire b) = CanExpire m b
CanChange m (Accept b s) = CanAccept m b
CanChange m Shut = Unit {0}

-- the event may be taken
pub record CanTake (m : MachineView) (e : Event) : Type 0 where
  pub room : m.len + 1 < 2 ^ 32
  pub changes : CanChange m e

-- ## A start and an end at once

-- block b may have started and be over
pub record CanPass (m : MachineView) (b : Blk) : Type 0 where
  pub blk : b.0 < length m.blocks
  pub ended : b.0 < length m.ended
  pub left : 0 < m.left
  pub node : (n : Obj) → (block_at m b.0).node ≡ Some n → CanTakeOff m n

-- worker w, which has no run, may start block b and then end it
pub record CanRun (m : MachineView) (w : ℕ) (b : Blk) : Type 0 where
  pub free : at_worker m w ≡ None
  pub starts : CanTake m (Start w b)
  pub ends : CanTake (stepped m (Start w b)) (End w b)

-- some worker may
pub record MayRun (m : MachineView) (b : Blk) : Type 0 where
  pub worker : ℕ
  pub can : CanRun m worker b
