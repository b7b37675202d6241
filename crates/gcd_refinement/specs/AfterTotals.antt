-- How an event changes the numbers and flags of the view, and which run each worker has.
use Rattle.std.specs.Prelude.{ℕ, ◌+◌, ◌-◌, Bool, true, false, not, ◌&&◌, if◌then◌else◌, List, length, Option, Some, None, slice_set}
use Rattle.gcd_plan.specs.PlanView.{PlanView}
use Rattle.gcd_plan.specs.Kinds.{has_kind, is_read_kind}
use Rattle.gcd_plan.specs.declared.numbers.Obj.{Obj}
use Rattle.gcd_plan.specs.declared.numbers.Run.{Run}
use Rattle.gcd_plan.specs.declared.numbers.Run.TheVariants.{Block, Source}
use Rattle.gcd_event.specs.declared.event.Event.{Event}
use Rattle.gcd_event.specs.declared.event.Event.TheVariants.{Start, Act as Acted, Wake, End, Deliver, DeliverEnd, Tick, Ready, FeedEnd, Misuse, Halt, Expire, Accept, Shut}
use Rattle.gcd_history.specs.Runs.{act_at, act_of}
use Rattle.gcd_history.specs.Submitted.{cancels}
use Rattle.gcd_history.specs.Parked.{is_parking}
use Rattle.gcd_source.specs.SourcesView.{is_cancelled_at}
use Rattle.gcd_refinement.specs.MachineView.{MachineView}
use Rattle.gcd_refinement.specs.Submits.{submits, activated_by, newly_cancelled}

-- an act that parks frees its worker
abbrev pub workers_after : PlanView → MachineView → Event → List (Option Run)
workers_after plan v (Start w b) = slice_set v.workers w (Some (Block b))
workers_after plan v (Acted w run i) = if is_parking (act_at plan run i) then slice_set v.workers w None else v.workers
workers_after plan v (Wake w b) = slice_set v.workers w (Some (Block b))
workers_after plan v (End w b) = slice_set v.workers w None
workers_after plan v (Deliver w s) = slice_set v.workers w (Some (Source s))
workers_after plan v (DeliverEnd w s) = slice_set v.workers w None
workers_after plan v (Tick t) = v.workers
workers_after plan v (Ready s n) = v.workers
workers_after plan v (FeedEnd s) = v.workers
workers_after plan v (Misuse w c run i) = v.workers
workers_after plan v Halt = v.workers
workers_after plan v (Expire b) = v.workers
workers_after plan v (Accept b s) = v.workers
workers_after plan v Shut = v.workers

abbrev pub running_after : PlanView → MachineView → Event → ℕ
running_after plan v (Start w b) = v.running + 1
running_after plan v (Acted w run i) = if is_parking (act_at plan run i) then v.running - 1 else v.running
running_after plan v (Wake w b) = v.running + 1
running_after plan v (End w b) = v.running - 1
running_after plan v (Deliver w s) = v.running + 1
running_after plan v (DeliverEnd w s) = v.running - 1
running_after plan v (Tick t) = v.running
running_after plan v (Ready s n) = v.running
running_after plan v (FeedEnd s) = v.running
running_after plan v (Misuse w c run i) = v.running
running_after plan v Halt = v.running
running_after plan v (Expire b) = v.running
running_after plan v (Accept b s) = v.running
running_after plan v Shut = v.running

abbrev pub is_end : Event → Bool
is_end (Start w b) = false
is_end (Acted w run i) = false
is_end (Wake w b) = false
is_end (End w b) = true
is_end (Deliver w s) = false
is_end (DeliverEnd w s) = false
is_end (Tick t) = false
is_end (Ready s n) = false
is_end (FeedEnd s) = false
is_end (Misuse w c run i) = false
is_end Halt = false
is_end (Expire b) = false
is_end (Accept b s) = false
is_end Shut = false

abbrev pub left_after : PlanView → MachineView → Event → ℕ
left_after plan v e = v.left + length (submits plan v e) - (if is_end e then 1 else 0)

-- a read source that is activated and not cancelled is live, and one that is cancelled is so no more
abbrev pub live_begun : PlanView → MachineView → Option Obj → List Bool
live_begun plan v None = v.live
live_begun plan v (Some o) =
    if has_kind is_read_kind plan o.0 && not (is_cancelled_at v.sources o.0) then slice_set v.live o.0 true else v.live

abbrev pub live_ended : List Bool → Option Obj → List Bool
live_ended live None = live
live_ended live (Some s) = slice_set live s.0 false

abbrev pub live_after : PlanView → MachineView → Event → List Bool
live_after plan v e = live_ended (live_begun plan v (activated_by v (act_of plan e))) (newly_cancelled v (cancels plan e))

abbrev pub is_misuse : Event → Bool
is_misuse (Start w b) = false
is_misuse (Acted w run i) = false
is_misuse (Wake w b) = false
is_misuse (End w b) = false
is_misuse (Deliver w s) = false
is_misuse (DeliverEnd w s) = false
is_misuse (Tick t) = false
is_misuse (Ready s n) = false
is_misuse (FeedEnd s) = false
is_misuse (Misuse w c run i) = true
is_misuse Halt = false
is_misuse (Expire b) = false
is_misuse (Accept b s) = false
is_misuse Shut = false

abbrev pub is_halt : Event → Bool
is_halt (Start w b) = false
is_halt (Acted w run i) = false
is_halt (Wake w b) = false
is_halt (End w b) = false
is_halt (Deliver w s) = false
is_halt (DeliverEnd w s) = false
is_halt (Tick t) = false
is_halt (Ready s n) = false
is_halt (FeedEnd s) = false
is_halt (Misuse w c run i) = false
is_halt Halt = true
is_halt (Expire b) = false
is_halt (Accept b s) = false
is_halt Shut = false
