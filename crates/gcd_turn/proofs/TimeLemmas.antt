-- Due times, and what was answered.
use Rattle.std.proofs.Common.{◌≡◌, ◌≤◌, ◌<◌, ◌+◌, ◌||◌, ℕ, false, List, Some, Result, Ok, Err, arith, reverse}
use Rattle.std.specs.Prelude.{OnOk, is_err}
use Rattle.gcd_plan.specs.PlanView.{PlanView}
use Rattle.gcd_event.specs.declared.event.Event.{Event}
use Rattle.gcd_history.specs.History.{next_due_of}
use Rattle.gcd_history.specs.Timers.{is_any_due, now}
use Rattle.gcd_history.specs.Due.{is_any_limit, next_due}
use Rattle.gcd_refinement.proofs.Limits.NextDue.{found_low}

-- the next due time is above 0
pub due_is_ahead : (plan : PlanView) (h : List Event) (due : ℕ) → next_due_of plan h ≡ Some due → 0 < due
unfolding next_due_of next_due
due_is_ahead plan h due is =
    let past : List Event = reverse h in
    let low : now past + 1 ≤ due = found_low (λ t. is_any_due plan past t || is_any_limit plan past t) (now past + 1) _ due is in omega arith

-- what holds where the answer is no error
pub on_ok : {A E : Type 0} → (P : Type 0) (r : Result A E) → is_err r ≡ false → OnOk r P → P
on_ok P (Ok a) h p = p
on_ok P (Err e) h p = cc
