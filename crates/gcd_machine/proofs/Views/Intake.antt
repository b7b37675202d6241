-- Whether the intake is open, and which of its blocks is next, as what a machine keeps tells it.
use Rattle.std.proofs.Common.{◌≡◌, not, ◌&&◌, List, is_some, ap, ◌∙◌}
use Rattle.gcd_plan.specs.PlanView.{PlanView}
use Rattle.gcd_event.specs.declared.event.Event.{Event}
use Rattle.gcd_history.specs.Intake.{is_intake_open, next_of_intake}
use Rattle.gcd_refinement.specs.MachineView.{MachineView}
use Rattle.gcd_refinement.specs.Stands.{IsTied}
use Rattle.gcd_refinement.specs.Ties.{next_in}
use Rattle.gcd_machine.specs.Judged.{is_intake_open_at}

pub open_is : (plan : PlanView) (past : List Event) (m : MachineView) → IsTied plan past m → is_intake_open_at m ≡ is_intake_open plan past
open_is plan past m tied = ap (λ (p : PlanView). is_some p.intake && not m.shut) tied.same_plan ∙ tied.intake.is_open

pub next_in_is : (plan : PlanView) (past : List Event) (m : MachineView) → IsTied plan past m → next_in m.plan m ≡ next_of_intake plan past
next_in_is plan past m tied = ap (λ p. next_in p m) tied.same_plan ∙ tied.intake.next
