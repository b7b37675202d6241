-- How an event changes what is kept of strips, of blocks as objects, and of the intake.
use Rattle.std.specs.Prelude.{ℕ, ◌+◌, Bool, true, false, ◌||◌, if◌then◌else◌, [], Option, slice_set}
use Rattle.std.specs.Option.{option_map_or}
use Rattle.gcd_plan.specs.Effects.{effects_of, Submits, nothing, at_once, strip_to, once_empty, once_ended}
use Rattle.gcd_plan.specs.PlanView.{PlanView}
use Rattle.gcd_plan.specs.declared.act.Act.{Act}
use Rattle.gcd_event.specs.declared.event.Event.{Event}
use Rattle.gcd_event.specs.declared.event.Event.TheVariants.{Start, Act as Acted, Wake, End, Deliver, DeliverEnd, Tick, Ready, FeedEnd, Misuse, Halt, Expire, Accept, Shut}
use Rattle.gcd_history.specs.Runs.{act_at}
use Rattle.gcd_apply.specs.StripsView.{StripsView, with_done}
use Rattle.gcd_blockobj.specs.MarksView.{MarksView, has_ended_at, with_cancelled, with_begun, with_ended, with_notify}
use Rattle.gcd_refinement.specs.MachineView.{MachineView}

-- ## Strips

abbrev pub strips_after : MachineView → Event → StripsView
strips_after v (Start w b) = v.strips
strips_after v (Acted w run i) = v.strips
strips_after v (Wake w b) = v.strips
strips_after v (End w b) = with_done v.strips b.0
strips_after v (Deliver w s) = v.strips
strips_after v (DeliverEnd w s) = v.strips
strips_after v (Tick t) = v.strips
strips_after v (Ready s n) = v.strips
strips_after v (FeedEnd s) = v.strips
strips_after v (Misuse w c run i) = v.strips
strips_after v Halt = v.strips
strips_after v (Expire b) = v.strips
strips_after v (Accept b s) = v.strips
strips_after v Shut = v.strips

-- ## Blocks as objects

-- no block waits for the end of block b any more
abbrev pub all_told : MarksView → ℕ → MarksView
all_told marks b = record marks { notify = record marks.notify { lists = slice_set marks.notify.lists b [] } }

-- all that wait for the end of block b are told, where it has ended
abbrev pub told_if_ended : MarksView → ℕ → MarksView
told_if_ended marks b = if has_ended_at marks b then all_told marks b else marks

-- a notify block is registered at the end of another
abbrev pub marks_for : MarksView → Submits → MarksView
marks_for marks nothing = marks
marks_for marks (at_once q b barrier) = marks
marks_for marks (strip_to q a) = marks
marks_for marks (once_empty g q b) = marks
marks_for marks (once_ended c q d) = told_if_ended (with_notify marks c.0 d) c.0

abbrev pub marks_by : MarksView → Option Act → MarksView
marks_by marks act =
    option_map_or (λ c. with_cancelled marks c.0) (effects_of act).cancels_block (marks_for marks (effects_of act).submits)

abbrev pub marks_after : PlanView → MachineView → Event → MarksView
marks_after plan v (Start w b) = with_begun v.marks b.0
marks_after plan v (Acted w run i) = marks_by v.marks (act_at plan run i)
marks_after plan v (Wake w b) = v.marks
marks_after plan v (End w b) = all_told (with_ended v.marks b.0) b.0
marks_after plan v (Deliver w s) = v.marks
marks_after plan v (DeliverEnd w s) = v.marks
marks_after plan v (Tick t) = v.marks
marks_after plan v (Ready s n) = v.marks
marks_after plan v (FeedEnd s) = v.marks
marks_after plan v (Misuse w c run i) = v.marks
marks_after plan v Halt = v.marks
marks_after plan v (Expire b) = v.marks
marks_after plan v (Accept b s) = v.marks
marks_after plan v Shut = v.marks

-- ## The intake

abbrev pub accepted_after : MachineView → Event → ℕ
accepted_after v (Start w b) = v.accepted
accepted_after v (Acted w run i) = v.accepted
accepted_after v (Wake w b) = v.accepted
accepted_after v (End w b) = v.accepted
accepted_after v (Deliver w s) = v.accepted
accepted_after v (DeliverEnd w s) = v.accepted
accepted_after v (Tick t) = v.accepted
accepted_after v (Ready s n) = v.accepted
accepted_after v (FeedEnd s) = v.accepted
accepted_after v (Misuse w c run i) = v.accepted
accepted_after v Halt = v.accepted
accepted_after v (Expire b) = v.accepted
accepted_after v (Accept b s) = v.accepted + 1
accepted_after v Shut = v.accepted

abbrev pub is_shut_by : Event → Bool
is_shut_by (Start w b) = false
is_shut_by (Acted w run i) = false
is_shut_by (Wake w b) = false
is_shut_by (End w b) = false
is_shut_by (Deliver w s) = false
is_shut_by (DeliverEnd w s) = false
is_shut_by (Tick t) = false
is_shut_by (Ready s n) = false
is_shut_by (FeedEnd s) = false
is_shut_by (Misuse w c run i) = false
is_shut_by Halt = false
is_shut_by (Expire b) = false
is_shut_by (Accept b s) = false
is_shut_by Shut = true

abbrev pub shut_after : MachineView → Event → Bool
shut_after v e = v.shut || is_shut_by e
