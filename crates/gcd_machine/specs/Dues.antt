-- What is due at a moment.
use Rattle.std.specs.Prelude.{◌≡◌, ℕ, Bool, true, List, reverse, Some}
use Rattle.gcd_plan.specs.PlanView.{PlanView}
use Rattle.gcd_event.specs.declared.event.Event.{Event}
use Rattle.gcd_history.specs.Due.{is_limit_of}
use Rattle.gcd_history.specs.Timers.{is_due}
use Rattle.gcd_timer.specs.TimersView.{is_due_at}
use Rattle.gcd_refinement.specs.MachineView.{MachineView, ahead_at}
use Rattle.gcd_machine.specs.declared.due_by.DueBy.{DueBy}
use Rattle.gcd_machine.specs.declared.due_by.DueBy.TheVariants.{Timer, Wait}

-- t is a due time of the timer, or the limit of the block's wait, which is not over (dispatch_source_set_timer(3),
-- dispatch_group_wait(3), dispatch_semaphore_wait(3))
abbrev pub is_due_by : PlanView → List Event → ℕ → DueBy → Bool
is_due_by plan h t (Timer s) = is_due plan (reverse h) s.0 t
is_due_by plan h t (Wait b) = is_limit_of plan (reverse h) t b.0

-- that by what the machine keeps
abbrev pub IsDueIn : MachineView → ℕ → DueBy → Type 0
IsDueIn m t (Timer s) = is_due_at m.timers s.0 t ≡ true
IsDueIn m t (Wait b) = ahead_at m b.0 ≡ Some t
