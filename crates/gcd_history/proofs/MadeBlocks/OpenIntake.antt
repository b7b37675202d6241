-- What is known of an intake that is open, and of one that is not.
use Rattle.std.proofs.Common.{◌≡◌, true, false, not, cond, List, Some, None, find, refl, ap}
use Rattle.gcd_plan.specs.PlanView.{PlanView}
use Rattle.gcd_plan.specs.Made.{intake_blocks}
use Rattle.gcd_plan.specs.declared.numbers.Blk.{Blk}
use Rattle.gcd_event.specs.declared.event.Event.{Event}
use Rattle.gcd_history.specs.Intake.{is_accepted, is_intake_open, next_of_intake}

-- where the intake is not open no block comes next
pub none_next : (plan : PlanView) (past : List Event) → is_intake_open plan past ≡ false → next_of_intake plan past ≡ None
unfolding next_of_intake
none_next plan past closed = ap (λ v. cond v (find (λ b. not (is_accepted past b.0)) (intake_blocks plan)) None) closed

-- where one comes next the intake is open, and the block is its first that is not accepted
pub next_is_first : (plan : PlanView) (past : List Event) (b : Blk) → next_of_intake plan past ≡ Some b → (is_intake_open plan past ≡ true) × (find (λ c. not (is_accepted past c.0)) (intake_blocks plan) ≡ Some b)
unfolding next_of_intake
next_is_first plan past b h =
    elim (is_intake_open plan past) as (λ v. cond v (find (λ c. not (is_accepted past c.0)) (intake_blocks plan)) None ≡ Some b → (v ≡ true) × (find (λ c. not (is_accepted past c.0)) (intake_blocks plan) ≡ Some b)) [
      | true ↦ λ k. (refl, k)
      | false ↦ λ k. cc
    ] h
