-- Why an event may not come next, as what a machine keeps tells it: each word as near to the code as its case split. That it is
-- the definition's answer is proved of every machine that stands for a history.
use Rattle.std.specs.Prelude.{ℕ, ◌==◌, nat_lt, nat_le, Bool, false, not, ◌&&◌, ◌||◌, if◌then◌else◌, List, [], ◌∷◌, Option, Some, None, is_some, is_none, option_map, option_and_then, slice_get}
use Rattle.std.specs.Option.{option_map_or}
use Rattle.std.specs.List.{list_any}
use Rattle.gcd_plan.specs.PlanView.{starts_active}
use Rattle.gcd_plan.specs.Kinds.{has_kind, is_semaphore_kind, is_node}
use Rattle.gcd_plan.specs.StartRule.{first_of}
use Rattle.gcd_plan.specs.MisuseCodes.{code_of}
use Rattle.gcd_plan.specs.declared.act.Act.{Act}
use Rattle.gcd_plan.specs.declared.act.Act.TheVariants.{Async, Barrier, Sync, BarrierSync, GroupAsync, Notify, Enter, Leave, GroupWait, GroupWaitFor, Signal, Wait, WaitFor, Suspend, Resume, Activate, Target, Merge, Cancel, Retain, Release, Apply, CancelBlock, WaitBlock, NotifyBlock}
use Rattle.gcd_plan.specs.declared.misuse_code.MisuseCode.TheVariants.{OverResume, UnbalancedLeave, TargetCycle, TargetAfterActivation, TargetWhileTargeted, UseAfterRelease, ReleaseWhileSuspended, ReleaseBelowFirstValue}
use Rattle.gcd_plan.specs.declared.numbers.Blk.{Blk}
use Rattle.gcd_plan.specs.declared.numbers.Obj.{Obj}
use Rattle.gcd_plan.specs.declared.numbers.Run.{Run}
use Rattle.gcd_plan.specs.declared.numbers.Run.TheVariants.{Block, Source}
use Rattle.gcd_plan.specs.declared.why.Why.{Why}
use Rattle.gcd_plan.specs.declared.why.Why.TheVariants.{Over, NoSuch, Busy, Unready, NotOwn, NotNext, IsMisuse, NotParked, Waiting, NotDue, NotLive, NotMisuse, Came}
use Rattle.gcd_event.specs.declared.event.Event.{Event}
use Rattle.gcd_event.specs.declared.event.Event.TheVariants.{Start, Act as Acted, Wake, End, Deliver, DeliverEnd, Tick, Ready, FeedEnd, Misuse, Halt, Expire, Accept, Shut}
use Rattle.gcd_history.specs.Runs.{act_at}
use Rattle.gcd_history.specs.Misuses.{named, first_code}
use Rattle.gcd_history.specs.Permitted.{is_known}
use Rattle.gcd_lists.specs.ListsView.{list_at}
use Rattle.gcd_tree.specs.TreeView.{would_cycle_at, has_child_at}
use Rattle.gcd_hold.specs.HoldsView.{hold_at, is_active_at, is_over_resumed_at}
use Rattle.gcd_group.specs.GroupsView.{entered_at}
use Rattle.gcd_sema.specs.SemasView.{is_below_first_at as is_below_first_in}
use Rattle.gcd_sync.specs.WaitsView.{reason_at, limit_at, may_wake_in}
use Rattle.gcd_source.specs.SourcesView.{pending_at, is_cancelled_at}
use Rattle.gcd_drain.specs.Rule.{start_fault_of, run_fault_of}
use Rattle.gcd_refinement.specs.MachineView.{MachineView, block_at, handler_at, at_worker, refs_at, live_at, next_due_in}
use Rattle.gcd_blockobj.specs.MarksView.{is_cancelled_at as is_block_cancelled_at}
use Rattle.gcd_refinement.specs.Ties.{is_run, next_in}
use Rattle.gcd_refinement.specs.After.{has_due}

-- ## Runs

-- how many acts the run has made
abbrev pub done_at : MachineView → Run → ℕ
done_at m (Block b) = (block_at m b.0).done
done_at m (Source s) = (handler_at m s.0).done

-- the run is a cancelled block's
abbrev pub is_cancelled_run_at : MachineView → Run → Bool
is_cancelled_run_at m (Block b) = is_block_cancelled_at m.marks b.0
is_cancelled_run_at m (Source s) = false

-- the act of the run at i; a cancelled block has none
abbrev pub act_due_at : MachineView → Run → ℕ → Option Act
act_due_at m run i = if is_cancelled_run_at m run then None else act_at m.plan run i

-- the run's next act, if one is left
abbrev pub next_act_at : MachineView → Run → Option Act
next_act_at m run = act_due_at m run (done_at m run)

-- the act at i is the run's next
abbrev pub is_next_at : MachineView → Run → ℕ → Bool
is_next_at m run i = i == done_at m run && is_some (act_due_at m run i)

-- worker w has a run
abbrev pub is_busy_at : MachineView → ℕ → Bool
is_busy_at m w = is_some (at_worker m w)

-- worker w has this run
abbrev pub is_own_at : MachineView → ℕ → Run → Bool
is_own_at m w run = is_run run (at_worker m w)

-- ## Misuses

-- object o has no reference left; root has none to lose
abbrev pub is_released_at : MachineView → ℕ → Bool
is_released_at m o = not (o == 0) && refs_at m o == 0

-- object o is a node that is held or inactive
abbrev pub is_held_node_at : MachineView → ℕ → Bool
is_held_node_at m o = is_node m.plan o && (nat_lt 0 (hold_at m.holds o) || not (is_active_at m.holds o))

-- s is a semaphore whose value is below its first value
abbrev pub is_below_first_at : MachineView → ℕ → Bool
is_below_first_at m s = has_kind is_semaphore_kind m.plan s && is_below_first_in m.semas s

-- the object, if there is one
abbrev pub named_by : Option Obj → List ℕ
named_by None = []
named_by (Some o) = o.0 ∷ []

-- what may be wrong with the act beside a name that is released: each code with its test, the lowest first
abbrev pub act_misuses_at : MachineView → Act → List (ℕ × Bool)
act_misuses_at m (Async q b) = []
act_misuses_at m (Barrier q b) = []
act_misuses_at m (Sync q b) = []
act_misuses_at m (BarrierSync q b) = []
act_misuses_at m (GroupAsync g q b) = []
act_misuses_at m (Notify g q b) = []
act_misuses_at m (Enter g) = []
act_misuses_at m (Leave g) = (code_of UnbalancedLeave, entered_at m.groups g.0 == 0) ∷ []
act_misuses_at m (GroupWait g) = []
act_misuses_at m (GroupWaitFor g ms) = []
act_misuses_at m (Signal s) = []
act_misuses_at m (Wait s) = []
act_misuses_at m (WaitFor s ms) = []
act_misuses_at m (Suspend o) = []
act_misuses_at m (Resume o) = (code_of OverResume, is_over_resumed_at m.holds o.0) ∷ []
act_misuses_at m (Activate o) = []
act_misuses_at m (Target o t) =
    (code_of TargetCycle, would_cycle_at m.tree o.0 t.0)
    ∷ (code_of TargetAfterActivation, not (starts_active m.plan o.0) && is_active_at m.holds o.0)
    ∷ (code_of TargetWhileTargeted, starts_active m.plan o.0 && has_child_at m.tree o.0)
    ∷ []
act_misuses_at m (Merge s n) = []
act_misuses_at m (Cancel s) = []
act_misuses_at m (Retain o) = []
act_misuses_at m (Release o) =
    (code_of ReleaseWhileSuspended, refs_at m o.0 == 1 && is_held_node_at m o.0)
    ∷ (code_of ReleaseBelowFirstValue, refs_at m o.0 == 1 && is_below_first_at m o.0)
    ∷ []
act_misuses_at m (Apply q a) = []
act_misuses_at m (CancelBlock c) = []
act_misuses_at m (WaitBlock c) = []
act_misuses_at m (NotifyBlock c q d) = []

-- the code of the misuse, if the act is one now
abbrev pub misuse_by : MachineView → Act → Option ℕ
misuse_by m act = first_code ((code_of UseAfterRelease, list_any (is_released_at m) (named act)) ∷ act_misuses_at m act)

-- the code of the misuse that the run's act at i is now
abbrev pub misuse_of_run : MachineView → Run → ℕ → Option ℕ
misuse_of_run m run i = option_and_then (misuse_by m) (act_at m.plan run i)

-- ## Events

-- why a block that no worker has yet may not start; main waits on no node
abbrev pub block_fault_at : MachineView → ℕ → Option Why
block_fault_at m b =
    if b == 0
    then (if (block_at m b).started then Some Unready else None)
    else start_fault_of m.drains m.lists m.tree m.holds b

-- something is pending at source s: a value, or a due time that no delivery took
abbrev pub has_pending_at : MachineView → ℕ → Bool
has_pending_at m s = nat_lt 0 (pending_at m.sources s) || has_due m.timers m.handlers s

-- so it is, and the source is not cancelled
abbrev pub is_pending_at : MachineView → ℕ → Bool
is_pending_at m s = has_pending_at m s && not (is_cancelled_at m.sources s)

-- why the handler of source s may not run
abbrev pub source_fault_at : MachineView → ℕ → Option Why
source_fault_at m s = if is_pending_at m s then run_fault_of m.drains m.tree m.holds s else Some Unready

-- time may come to t
abbrev pub may_tick_at : MachineView → ℕ → Bool
may_tick_at m t =
    nat_lt m.timers.moment t && (nat_le t m.plan.until && option_map_or (λ due. nat_le due t) (next_due_in m) false)

-- block b is parked, and what it waits for has come, or its wait has expired
abbrev pub may_wake_at : MachineView → ℕ → Bool
may_wake_at m b = may_wake_in m.waits m.groups m.semas m.strips m.ended b

-- block b is parked with a limit, and time has come to it
abbrev pub is_at_limit_at : MachineView → ℕ → Bool
is_at_limit_at m b = option_map_or (λ end. nat_le end m.timers.moment) (limit_at m.waits b) false

-- the plan has an intake, and it is not shut
abbrev pub is_intake_open_at : MachineView → Bool
is_intake_open_at m = is_some m.plan.intake && not m.shut

-- the next block of the intake is another one than b
abbrev pub is_not_next_in : MachineView → ℕ → Bool
is_not_next_in m b = not (option_map_or (λ c. c.0 == b) (next_in m.plan m) false)

-- why an event that the plan knows may not come next, if the run goes on
abbrev pub fault_at : MachineView → Event → Option Why
fault_at m (Start w b) = if is_busy_at m w then Some Busy else block_fault_at m b.0
fault_at m (Acted w run i) =
    first_of ((NotOwn, not (is_own_at m w run)) ∷ (NotNext, not (is_next_at m run i)) ∷ (IsMisuse, is_some (misuse_of_run m run i)) ∷ [])
fault_at m (Wake w b) =
    first_of ((Busy, is_busy_at m w) ∷ (NotParked, is_none (reason_at m.waits b.0)) ∷ (Waiting, not (may_wake_at m b.0)) ∷ [])
fault_at m (End w b) =
    first_of ((NotOwn, not (is_own_at m w (Block b))) ∷ (NotNext, is_some (next_act_at m (Block b))) ∷ [])
fault_at m (Deliver w s) = if is_busy_at m w then Some Busy else source_fault_at m s.0
fault_at m (DeliverEnd w s) =
    first_of ((NotOwn, not (is_own_at m w (Source s))) ∷ (NotNext, is_some (next_act_at m (Source s))) ∷ [])
fault_at m (Tick t) = if may_tick_at m t then None else Some NotDue
fault_at m (Ready s n) = if live_at m s.0 then None else Some NotLive
fault_at m (FeedEnd s) = if live_at m s.0 then None else Some NotLive
fault_at m (Misuse w c run i) =
    first_of ((NotOwn, not (is_own_at m w run)) ∷ (NotNext, not (is_next_at m run i))
    ∷ (NotMisuse, not (option_map_or (λ code. code == c) (misuse_of_run m run i) false)) ∷ [])
fault_at m Halt = None
fault_at m (Expire b) =
    first_of ((NotParked, is_none (reason_at m.waits b.0)) ∷ (NotDue, not (is_at_limit_at m b.0)) ∷ (Came, may_wake_at m b.0) ∷ [])
fault_at m (Accept b s) = first_of ((NotLive, is_none (next_in m.plan m)) ∷ (NotNext, is_not_next_in m b.0) ∷ [])
fault_at m Shut = if is_intake_open_at m then None else Some NotLive

-- the first reason why the event may not come next
abbrev pub why_by : MachineView → Event → Option Why
why_by m e = if m.misused || m.halted then Some Over else (if is_known m.plan e then fault_at m e else Some NoSuch)

-- ## What else is told

-- the first block that waits on object n
abbrev pub first_waiting_at : MachineView → ℕ → Option Blk
first_waiting_at m n = option_map (λ w. w.0) (slice_get (list_at m.lists n) 0)
