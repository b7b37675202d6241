-- What an event submits, empties and wakes, told by the view that stands before it.
use Rattle.std.specs.Prelude.{ℕ, ◌==◌, false, if◌then◌else◌, List, [], ◌∷◌, ◌++◌, map, take, Option, Some, None, option_to_list, option_and_then}
use Rattle.std.specs.Option.{option_map_or}
use Rattle.gcd_plan.specs.Effects.{effects_of, Submits, nothing, at_once, strip_to, once_empty, once_ended, Awaits, goes_on, end_of_own, end_of, empty_group, turn_at, ends_of}
use Rattle.gcd_plan.specs.PlanView.{PlanView, cancel_block}
use Rattle.gcd_plan.specs.declared.act.Act.{Act}
use Rattle.gcd_plan.specs.declared.numbers.Blk.{Blk}
use Rattle.gcd_plan.specs.declared.numbers.Obj.{Obj}
use Rattle.gcd_plan.specs.declared.numbers.Run.{Run}
use Rattle.gcd_plan.specs.declared.numbers.Run.TheVariants.{Block, Source}
use Rattle.gcd_event.specs.declared.event.Event.{Event}
use Rattle.gcd_event.specs.declared.event.Event.TheVariants.{Start, Act as Acted, Wake, End, Deliver, DeliverEnd, Tick, Ready, FeedEnd, Misuse, Halt, Expire, Accept, Shut}
use Rattle.gcd_history.specs.declared.submission.Submission.{Submission}
use Rattle.gcd_history.specs.Runs.{act_at, act_of}
use Rattle.gcd_history.specs.Submitted.{on_node, submitted_by, accepted_by, cancels}
use Rattle.gcd_lists.specs.ListsView.{list_at}
use Rattle.gcd_hold.specs.HoldsView.{hold_at, is_active_at}
use Rattle.gcd_group.specs.GroupsView.{count_at}
use Rattle.gcd_sema.specs.SemasView.{has_value_at}
use Rattle.gcd_source.specs.SourcesView.{is_cancelled_at}
use Rattle.gcd_apply.specs.StripsView.{left_at, strip_at}
use Rattle.gcd_blockobj.specs.MarksView.{has_ended_at}
use Rattle.gcd_refinement.specs.MachineView.{MachineView, block_at, ended_at, applier_at}
use Rattle.gcd_refinement.specs.Ties.{notify_submission}

-- ## Groups

-- the group that the act leaves
abbrev pub left_by : Option Act → Option Obj
left_by act = (effects_of act).leaves

-- the group that counts one less after the event: that of a block which ends, or the one that an act leaves
abbrev pub lessened : PlanView → MachineView → Event → Option Obj
lessened plan v (Start w b) = None
lessened plan v (Acted w run i) = left_by (act_at plan run i)
lessened plan v (Wake w b) = None
lessened plan v (End w b) = (block_at v b.0).group
lessened plan v (Deliver w s) = None
lessened plan v (DeliverEnd w s) = None
lessened plan v (Tick t) = None
lessened plan v (Ready s n) = None
lessened plan v (FeedEnd s) = None
lessened plan v (Misuse w c run i) = None
lessened plan v Halt = None
lessened plan v (Expire b) = None
lessened plan v (Accept b s) = None
lessened plan v Shut = None

-- the group, where it counts just one
abbrev pub last_of : MachineView → Option Obj → Option Obj
last_of v None = None
last_of v (Some g) = if count_at v.groups g.0 == 1 then Some g else None

-- the group that the event empties
abbrev pub emptied_by : PlanView → MachineView → Event → Option Obj
emptied_by plan v e = last_of v (lessened plan v e)

-- ## What the event submits

-- what a cancellation submits: the source's cancellation block, at the first
abbrev pub at_cancel : PlanView → MachineView → Option Obj → List Submission
at_cancel plan v None = []
at_cancel plan v (Some s) =
    if is_cancelled_at v.sources s.0 then [] else option_map_or (λ b. on_node s b false) (cancel_block plan s.0) []

-- the notify blocks of a group that is emptied, in the order of registration
abbrev pub at_empty : MachineView → Option Obj → List Submission
at_empty v None = []
at_empty v (Some g) = map (notify_submission v) (list_at v.groups.notify g.0)

-- what is submitted at once, of a block that waits for a group to be empty
abbrev pub at_notify_of : MachineView → Submits → List Submission
at_notify_of v nothing = []
at_notify_of v (at_once q b barrier) = []
at_notify_of v (strip_to q a) = []
at_notify_of v (once_empty g q b) = if count_at v.groups g.0 == 0 then on_node q b false else []
at_notify_of v (once_ended c q b) = []

-- the notify block that the act registers at an empty group
abbrev pub at_notify : MachineView → Option Act → List Submission
at_notify v act = at_notify_of v (effects_of act).submits

-- the notify blocks of a block that ends, in the order of registration
abbrev pub at_end : MachineView → Event → List Submission
at_end v (Start w b) = []
at_end v (Acted w run i) = []
at_end v (Wake w b) = []
at_end v (End w b) = map (notify_submission v) (list_at v.marks.notify b.0)
at_end v (Deliver w s) = []
at_end v (DeliverEnd w s) = []
at_end v (Tick t) = []
at_end v (Ready s n) = []
at_end v (FeedEnd s) = []
at_end v (Misuse w c run i) = []
at_end v Halt = []
at_end v (Expire b) = []
at_end v (Accept b s) = []
at_end v Shut = []

-- what is submitted at once, of a block that waits for the end of another
abbrev pub at_told_of : MachineView → Submits → List Submission
at_told_of v nothing = []
at_told_of v (at_once q b barrier) = []
at_told_of v (strip_to q a) = []
at_told_of v (once_empty g q b) = []
at_told_of v (once_ended c q d) = if has_ended_at v.marks c.0 then on_node q d false else []

-- the notify block that the act registers at a block that has ended
abbrev pub at_told : MachineView → Option Act → List Submission
at_told v act = at_told_of v (effects_of act).submits

-- what the event submits, in order; all but one of the seven are empty, but that an End may have notify blocks of both kinds
abbrev pub submits : PlanView → MachineView → Event → List Submission
submits plan v e =
    submitted_by plan (act_of plan e)
    ++ accepted_by plan e
    ++ at_cancel plan v (cancels plan e)
    ++ at_end v e
    ++ at_told v (act_of plan e)
    ++ at_empty v (emptied_by plan v e)
    ++ at_notify v (act_of plan e)

-- ## What the event activates and cancels

-- the object, where it is inactive
abbrev pub if_inactive : MachineView → Obj → Option Obj
if_inactive v o = if is_active_at v.holds o.0 then None else Some o

-- the object that the act makes active, where it was not: of an Activate, or of a Resume at hold 0
abbrev pub activated_by : MachineView → Option Act → Option Obj
activated_by v act =
    option_map_or (λ o. if hold_at v.holds o.0 == 0 then if_inactive v o else None) (effects_of act).resumes
    (option_and_then (if_inactive v) (effects_of act).activates)

-- the source that the event cancels, where it was not cancelled before
abbrev pub newly_cancelled : MachineView → Option Obj → Option Obj
newly_cancelled v None = None
newly_cancelled v (Some s) = if is_cancelled_at v.sources s.0 then None else Some s

-- ## Whose wait is over

-- the blocks that sleep at an object
abbrev pub sleepers_at : MachineView → Option Obj → List Blk
sleepers_at v None = []
sleepers_at v (Some o) = map (λ w. w.0) (list_at v.sleepers o.0)

-- block b, where what it waits for has come as the wait begins
abbrev pub come_for : MachineView → Blk → Awaits → List Blk
come_for v b goes_on = []
come_for v b (end_of_own c) = []
come_for v b (end_of c) = if ended_at v c.0 then b ∷ [] else []
come_for v b (empty_group g) = if count_at v.groups g.0 == 0 then b ∷ [] else []
come_for v b (turn_at s) = if has_value_at v.semas s.0 then b ∷ [] else []
come_for v b (ends_of a) = if left_at v.strips a == 0 then b ∷ [] else []

-- block b, where its act waits for what has come already: a semaphore with a value above 0, an empty group, the blocks of a strip of
-- which none is left, or the end of a block that has ended
abbrev pub come_at_once : MachineView → Blk → Option Act → List Blk
come_at_once v b act = come_for v b (effects_of act).awaits

abbrev pub come_to_run : MachineView → Run → Option Act → List Blk
come_to_run v (Block b) act = come_at_once v b act
come_to_run v (Source s) act = []

-- the block that a signal lets go on: the first that sleeps there
abbrev pub signalled : MachineView → Option Act → List Blk
signalled v act = option_map_or (λ s. take 1 (sleepers_at v (Some s))) (effects_of act).signals []

-- the strip of which block b is the last that has not ended
abbrev pub done_by : MachineView → Blk → Option ℕ
done_by v b = option_and_then (λ a. if left_at v.strips a == 1 then Some a else None) (strip_at v.strips b.0)

-- who waits for the end of block b: the one that submitted it and waits, those that wait for it, and where it is the last of a
-- strip the one that applied that
abbrev pub let_go_by : MachineView → Blk → List Blk
let_go_by v b =
    option_to_list (block_at v b.0).caller
    ++ map (λ w. w.0) (list_at v.waiters b.0)
    ++ option_to_list (option_and_then (applier_at v) (done_by v b))

-- the blocks that may wake after the event, and might not before
abbrev pub come_by : PlanView → MachineView → Event → List Blk
come_by plan v (Start w b) = []
come_by plan v (Acted w run i) =
    come_to_run v run (act_at plan run i)
    ++ signalled v (act_at plan run i)
    ++ sleepers_at v (emptied_by plan v (Acted w run i))
come_by plan v (Wake w b) = []
come_by plan v (End w b) = let_go_by v b ++ sleepers_at v (emptied_by plan v (End w b))
come_by plan v (Deliver w s) = []
come_by plan v (DeliverEnd w s) = []
come_by plan v (Tick t) = []
come_by plan v (Ready s n) = []
come_by plan v (FeedEnd s) = []
come_by plan v (Misuse w c run i) = []
come_by plan v Halt = []
come_by plan v (Expire b) = b ∷ []
come_by plan v (Accept b s) = []
come_by plan v Shut = []
