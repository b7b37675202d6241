-- The whole view of a machine: the views of its parts, and the arrays that it keeps itself.
use Rattle.std.specs.Prelude.{ℕ, Bool, false, List, [], length, replicate, Option, None, slice_index, slice_index_or}
use Rattle.gcd_plan.specs.PlanView.{PlanView}
use Rattle.gcd_plan.specs.Limits.{max_workers}
use Rattle.gcd_plan.specs.declared.numbers.Blk.{Blk}
use Rattle.gcd_plan.specs.declared.numbers.Run.{Run}
use Rattle.gcd_refinement.specs.declared.progress.BlockProgress.{BlockProgress}
use Rattle.gcd_refinement.specs.declared.progress.HandlerProgress.{HandlerProgress}
use Rattle.gcd_lists.specs.ListsView.{ListsView}
use Rattle.gcd_tree.specs.TreeView.{TreeView, tree_of}
use Rattle.gcd_hold.specs.HoldsView.{HoldsView, holds_of}
use Rattle.gcd_drain.specs.DrainsView.{DrainsView, drains_of}
use Rattle.gcd_group.specs.GroupsView.{GroupsView, groups_of}
use Rattle.gcd_sema.specs.SemasView.{SemasView, semas_of}
use Rattle.gcd_sync.specs.WaitsView.{WaitsView, waits_of}
use Rattle.gcd_source.specs.SourcesView.{SourcesView, sources_of}
use Rattle.gcd_timer.specs.TimersView.{TimersView, timers_of, next_due_at}
use Rattle.gcd_sets.specs.Least.{earlier, least}
use Rattle.gcd_apply.specs.StripsView.{StripsView, strips_of}
use Rattle.gcd_plan.specs.Needs.{limit_room, mark_room, park_room}
use Rattle.gcd_blockobj.specs.MarksView.{MarksView, marks_of}

-- the plan; the parts: references, what waits on nodes, targets, holds, barriers, groups, semaphores, parked blocks, sources, timers;
-- by semaphore and group the blocks that sleep there; where marks are kept, by block those that wait for its end by an act of their
-- own; by strip the block that applied it and sleeps; how many blocks of each strip have not ended; what is kept of blocks as
-- objects; how many blocks of the intake are accepted, and whether it is shut; by block what it has come to, whether it has ended, and whether what it
-- is parked for has come or its wait has expired, where limits are kept the limit of its wait if that is not over and the limit is
-- ahead, and whether its wait may expire; by object what is kept of a source, whether it has to be looked at, and whether it is a live read source;
-- by worker the run that it has; how many runs are open and not parked, and how many blocks are submitted and not ended;
-- whether the last event is a misuse, or a halt; how many events have come
pub record MachineView : Type 0 where
  pub plan : PlanView
  pub refs : List ℕ
  pub lists : ListsView
  pub tree : TreeView
  pub holds : HoldsView
  pub drains : DrainsView
  pub groups : GroupsView
  pub semas : SemasView
  pub waits : WaitsView
  pub sources : SourcesView
  pub timers : TimersView
  pub sleepers : ListsView
  pub waiters : ListsView
  pub appliers : List (Option Blk)
  pub strips : StripsView
  pub marks : MarksView
  pub accepted : ℕ
  pub shut : Bool
  pub blocks : List BlockProgress
  pub ended : List Bool
  pub wakeable : List Bool
  pub ahead : List (Option ℕ)
  pub ripe : List Bool
  pub handlers : List HandlerProgress
  pub busy : List Bool
  pub live : List Bool
  pub workers : List (Option Run)
  pub running : ℕ
  pub left : ℕ
  pub misused : Bool
  pub halted : Bool
  pub len : ℕ

-- a block that nobody has submitted
abbrev pub idle : BlockProgress
idle = record { node = None; barrier = false; started = false; done = 0; group = None; home = record { 0 = 0 }; caller = None }

-- a source that nothing was delivered to
abbrev pub undelivered : HandlerProgress
undelivered = record { done = 0; taken = 0; given = 0 }

-- what block b has come to, whether it has ended, and whether what it is parked for has come or its wait has expired
abbrev pub block_at : MachineView → ℕ → BlockProgress
block_at v b = slice_index_or v.blocks b idle

abbrev pub ended_at : MachineView → ℕ → Bool
ended_at v b = slice_index_or v.ended b false

abbrev pub is_wakeable_at : MachineView → ℕ → Bool
is_wakeable_at v b = slice_index_or v.wakeable b false

-- the limit of block b's wait, where it is ahead and the wait is not over, and whether its wait may expire
abbrev pub ahead_at : MachineView → ℕ → Option ℕ
ahead_at v b = slice_index_or v.ahead b None

abbrev pub is_ripe_at : MachineView → ℕ → Bool
is_ripe_at v b = slice_index_or v.ripe b false

-- the next due time: of a timer, or of a wait that is not over
abbrev pub next_due_in : MachineView → Option ℕ
next_due_in v = earlier (next_due_at v.timers) (least v.ahead)

-- what is kept of source s, and whether object o has to be looked at for a Start or a Deliver
abbrev pub handler_at : MachineView → ℕ → HandlerProgress
handler_at v s = slice_index_or v.handlers s undelivered

abbrev pub busy_at : MachineView → ℕ → Bool
busy_at v o = slice_index_or v.busy o false

-- read source s is live
abbrev pub live_at : MachineView → ℕ → Bool
live_at v s = slice_index_or v.live s false

-- the block that applied strip a and sleeps
abbrev pub applier_at : MachineView → ℕ → Option Blk
applier_at v a = slice_index_or v.appliers a None

-- the run that worker w has
abbrev pub at_worker : MachineView → ℕ → Option Run
at_worker v w = slice_index_or v.workers w None

-- the references on object o
abbrev pub refs_at : MachineView → ℕ → ℕ
refs_at v o = slice_index v.refs o

-- nothing waits on any object of the plan
abbrev pub lists_of : PlanView → ListsView
lists_of plan = record { lists = replicate (length plan.objects) []; blocks = length plan.blocks }

-- nobody sleeps at any object
abbrev pub sleepers_of : PlanView → ListsView
sleepers_of plan = record { lists = replicate (length plan.objects) []; blocks = park_room plan }

-- nobody waits for the end of a block of which marks are kept
abbrev pub waiters_of : PlanView → ListsView
waiters_of plan = record { lists = replicate (mark_room plan) []; blocks = mark_room plan }

-- the view that a new machine has: nothing has happened, and main is submitted
abbrev pub machine_of : PlanView → MachineView
machine_of plan = record {
  plan = plan;
  refs = replicate (length plan.objects) 1;
  lists = lists_of plan;
  tree = tree_of plan;
  holds = holds_of plan;
  drains = drains_of plan;
  groups = groups_of plan;
  semas = semas_of plan;
  waits = waits_of plan;
  sources = sources_of plan;
  timers = timers_of plan;
  sleepers = sleepers_of plan;
  waiters = waiters_of plan;
  appliers = replicate (length plan.strips) None;
  strips = strips_of plan;
  marks = marks_of plan;
  accepted = 0;
  shut = false;
  blocks = replicate (length plan.blocks) idle;
  ended = replicate (length plan.blocks) false;
  wakeable = replicate (length plan.blocks) false;
  ahead = replicate (limit_room plan) None;
  ripe = replicate (length plan.blocks) false;
  handlers = replicate (length plan.objects) undelivered;
  busy = replicate (length plan.objects) false;
  live = replicate (length plan.objects) false;
  workers = replicate max_workers None;
  running = 0;
  left = 1;
  misused = false;
  halted = false;
  len = 0;
}
