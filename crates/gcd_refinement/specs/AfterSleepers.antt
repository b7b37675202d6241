-- How an event changes who sleeps where: at a semaphore or a group, for the end of a block, and for the blocks of a strip.
use Rattle.std.specs.Prelude.{ℕ, ◌==◌, Bool, false, if◌then◌else◌, List, [], ◌∷◌, ◌++◌, drop, Option, Some, None, slice_set}
use Rattle.std.specs.Option.{option_map_or}
use Rattle.gcd_plan.specs.Effects.{effects_of, Awaits, goes_on, end_of_own, end_of, empty_group, turn_at, ends_of}
use Rattle.gcd_plan.specs.PlanView.{PlanView}
use Rattle.gcd_plan.specs.declared.act.Act.{Act}
use Rattle.gcd_plan.specs.declared.numbers.Blk.{Blk}
use Rattle.gcd_plan.specs.declared.numbers.Obj.{Obj}
use Rattle.gcd_plan.specs.declared.numbers.Run.{Run}
use Rattle.gcd_plan.specs.declared.numbers.Run.TheVariants.{Block, Source}
use Rattle.gcd_plan.specs.declared.reason.Reason.{Reason}
use Rattle.gcd_plan.specs.declared.reason.Reason.TheVariants.{Block as EndOf, Group as Empty, Strip, Rank}
use Rattle.gcd_event.specs.declared.event.Event.{Event}
use Rattle.gcd_event.specs.declared.event.Event.TheVariants.{Start, Act as Acted, Wake, End, Deliver, DeliverEnd, Tick, Ready, FeedEnd, Misuse, Halt, Expire, Accept, Shut}
use Rattle.gcd_history.specs.Runs.{act_at}
use Rattle.gcd_lists.specs.ListsView.{ListsView, list_at, without}
use Rattle.gcd_group.specs.GroupsView.{count_at}
use Rattle.gcd_sema.specs.SemasView.{has_value_at}
use Rattle.gcd_sync.specs.WaitsView.{reason_at}
use Rattle.gcd_apply.specs.StripsView.{left_at}
use Rattle.gcd_refinement.specs.MachineView.{MachineView, ended_at}
use Rattle.gcd_refinement.specs.Submits.{emptied_by, done_by}

-- ## Lists

-- the lists without the first that waits on the node, if there is one
abbrev pub popped : ListsView → Option Obj → ListsView
popped lists None = lists
popped lists (Some n) = record lists { lists = slice_set lists.lists n.0 (drop 1 (list_at lists n.0)) }

-- the lists with the block behind all that wait on the node
abbrev pub pushed_on : ListsView → Obj → Blk → Bool → ListsView
pushed_on lists n b barrier = record lists { lists = slice_set lists.lists n.0 (list_at lists n.0 ++ (b, barrier) ∷ []) }

-- ## Who sleeps at an object

-- block b goes to sleep behind all that sleep at the object, where what it waits for has not come
abbrev pub asleep_for : MachineView → Blk → Awaits → ListsView
asleep_for v b goes_on = v.sleepers
asleep_for v b (end_of_own c) = v.sleepers
asleep_for v b (end_of c) = v.sleepers
asleep_for v b (empty_group g) = if count_at v.groups g.0 == 0 then v.sleepers else pushed_on v.sleepers g b false
asleep_for v b (turn_at s) = if has_value_at v.semas s.0 then v.sleepers else pushed_on v.sleepers s b false
asleep_for v b (ends_of a) = v.sleepers

-- the blocks that sleep at an object, behind which a block goes to sleep where what it waits for has not come
abbrev pub asleep : MachineView → Blk → Option Act → ListsView
asleep v b act = option_map_or (λ s. popped v.sleepers (Some s)) (effects_of act).signals (asleep_for v b (effects_of act).awaits)

-- a handler waits for nothing, but may signal
abbrev pub asleep_by_handler : MachineView → Option Act → ListsView
asleep_by_handler v act = option_map_or (λ s. popped v.sleepers (Some s)) (effects_of act).signals v.sleepers

abbrev pub asleep_by : MachineView → Run → Option Act → ListsView
asleep_by v (Block b) act = asleep v b act
asleep_by v (Source s) act = asleep_by_handler v act

-- the object at which a block sleeps that waits for this
abbrev pub bed_of : Option Reason → Option Obj
bed_of None = None
bed_of (Some (EndOf b)) = None
bed_of (Some (Empty g position)) = Some g
bed_of (Some (Strip a)) = None
bed_of (Some (Rank s k)) = Some s

-- the lists without block b, which is on the object's, if there is one
abbrev pub removed : ListsView → Option Obj → Blk → ListsView
removed lists None b = lists
removed lists (Some o) b = record lists { lists = slice_set lists.lists o.0 (without b.0 (list_at lists o.0)) }

abbrev pub asleep_after : PlanView → MachineView → Event → ListsView
asleep_after plan v (Start w b) = v.sleepers
asleep_after plan v (Acted w run i) = asleep_by v run (act_at plan run i)
asleep_after plan v (Wake w b) = v.sleepers
asleep_after plan v (End w b) = v.sleepers
asleep_after plan v (Deliver w s) = v.sleepers
asleep_after plan v (DeliverEnd w s) = v.sleepers
asleep_after plan v (Tick t) = v.sleepers
asleep_after plan v (Ready s n) = v.sleepers
asleep_after plan v (FeedEnd s) = v.sleepers
asleep_after plan v (Misuse w c run i) = v.sleepers
asleep_after plan v Halt = v.sleepers
asleep_after plan v (Expire b) = removed v.sleepers (bed_of (reason_at v.waits b.0)) b
asleep_after plan v (Accept b s) = v.sleepers
asleep_after plan v Shut = v.sleepers

-- nobody sleeps at the object any more, if there is one
abbrev pub all_woken : ListsView → Option Obj → ListsView
all_woken sleepers None = sleepers
all_woken sleepers (Some g) = record sleepers { lists = slice_set sleepers.lists g.0 [] }

abbrev pub sleepers_after : PlanView → MachineView → Event → ListsView
sleepers_after plan v e = all_woken (asleep_after plan v e) (emptied_by plan v e)

-- ## Who waits for the end of a block, and for the blocks of a strip

-- block b waits behind all that wait for the end of the block, where that has not ended
abbrev pub waiting_for : MachineView → Blk → Awaits → ListsView
waiting_for v b goes_on = v.waiters
waiting_for v b (end_of_own c) = v.waiters
waiting_for v b (end_of c) = if ended_at v c.0 then v.waiters else pushed_on v.waiters (record { 0 = c.0 }) b false
waiting_for v b (empty_group g) = v.waiters
waiting_for v b (turn_at s) = v.waiters
waiting_for v b (ends_of a) = v.waiters

-- the lists of those that wait for the ends of blocks, with block b behind all that wait for one that has not ended
abbrev pub waiting_by : MachineView → Blk → Option Act → ListsView
waiting_by v b act = waiting_for v b (effects_of act).awaits

-- nobody waits for the end of the block any more
abbrev pub none_waiting : ListsView → Blk → ListsView
none_waiting waiters b = record waiters { lists = slice_set waiters.lists b.0 [] }

abbrev pub waiters_after : PlanView → MachineView → Event → ListsView
waiters_after plan v (Start w b) = v.waiters
waiters_after plan v (Acted w (Block b) i) = waiting_by v b (act_at plan (Block b) i)
waiters_after plan v (Acted w (Source s) i) = v.waiters
waiters_after plan v (Wake w b) = v.waiters
waiters_after plan v (End w b) = none_waiting v.waiters b
waiters_after plan v (Deliver w s) = v.waiters
waiters_after plan v (DeliverEnd w s) = v.waiters
waiters_after plan v (Tick t) = v.waiters
waiters_after plan v (Ready s n) = v.waiters
waiters_after plan v (FeedEnd s) = v.waiters
waiters_after plan v (Misuse w c run i) = v.waiters
waiters_after plan v Halt = v.waiters
waiters_after plan v (Expire b) = v.waiters
waiters_after plan v (Accept b s) = v.waiters
waiters_after plan v Shut = v.waiters

-- block b waits for the strip, where a block of it has not ended
abbrev pub applied_for : MachineView → Blk → Awaits → List (Option Blk)
applied_for v b goes_on = v.appliers
applied_for v b (end_of_own c) = v.appliers
applied_for v b (end_of c) = v.appliers
applied_for v b (empty_group g) = v.appliers
applied_for v b (turn_at s) = v.appliers
applied_for v b (ends_of a) = if left_at v.strips a == 0 then v.appliers else slice_set v.appliers a (Some b)

-- for each strip the block that applied it and sleeps: block b, where a block of the strip has not ended
abbrev pub applied_by : MachineView → Blk → Option Act → List (Option Blk)
applied_by v b act = applied_for v b (effects_of act).awaits

-- nobody sleeps for the strip any more, if there is one
abbrev pub none_applying : List (Option Blk) → Option ℕ → List (Option Blk)
none_applying appliers None = appliers
none_applying appliers (Some a) = slice_set appliers a None

abbrev pub appliers_after : PlanView → MachineView → Event → List (Option Blk)
appliers_after plan v (Start w b) = v.appliers
appliers_after plan v (Acted w (Block b) i) = applied_by v b (act_at plan (Block b) i)
appliers_after plan v (Acted w (Source s) i) = v.appliers
appliers_after plan v (Wake w b) = v.appliers
appliers_after plan v (End w b) = none_applying v.appliers (done_by v b)
appliers_after plan v (Deliver w s) = v.appliers
appliers_after plan v (DeliverEnd w s) = v.appliers
appliers_after plan v (Tick t) = v.appliers
appliers_after plan v (Ready s n) = v.appliers
appliers_after plan v (FeedEnd s) = v.appliers
appliers_after plan v (Misuse w c run i) = v.appliers
appliers_after plan v Halt = v.appliers
appliers_after plan v (Expire b) = v.appliers
appliers_after plan v (Accept b s) = v.appliers
appliers_after plan v Shut = v.appliers
