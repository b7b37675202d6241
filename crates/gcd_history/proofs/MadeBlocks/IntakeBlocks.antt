-- A block of the intake is submitted by its Accept alone, so it has begun only where it is accepted.
use Rattle.std.proofs.Common.{◌≡◌, ⊎_elim, ℕ, true, cond, ◌==◌, List, ap, arith, is_some}
use Rattle.std.proofs.lemmas.Bool.{cases_Bool, ne_eqb}
use Rattle.gcd_plan.specs.PlanView.{PlanView}
use Rattle.gcd_plan.specs.Made.{is_of_intake}
use Rattle.gcd_plan.specs.Validity.{IsPlan}
use Rattle.gcd_event.specs.declared.event.Event.{Event}
use Rattle.gcd_history.specs.Runs.{is_started}
use Rattle.gcd_history.specs.Intake.{accepts, is_accepted}
use Rattle.gcd_history.specs.Submitted.{submitted, submission_of}
use Rattle.gcd_history.specs.Permitted.{IsLawful}
use Rattle.gcd_plan.proofs.Sums.{count_by_none, count_by_some}
use Rattle.gcd_history.proofs.Lists.{any_from_find}
use Rattle.gcd_history.proofs.MadeBlocks.Spans.{intake_inside}
use Rattle.gcd_history.proofs.Blocks.SubmittedOnce.{is_of, made_by, block_gives, plan_gives, kept_within, nowhere, not_of_intake}
use Rattle.gcd_history.proofs.Blocks.StartedOnce.{submitted_from_started}

submitted_accepted : (plan : PlanView) (past : List Event) → IsPlan plan → IsLawful plan past → (b : ℕ) → is_of_intake plan b ≡ true → is_some (submission_of plan past b) ≡ true → is_accepted past b ≡ true
submitted_accepted plan past valid h b of some =
    let one = count_by_some (is_of b) (submitted plan past) (any_from_find (is_of b) (submitted plan past) some) in
    let kept = kept_within plan past valid h b in
    let all = plan_gives plan past b (made_by plan past b) (block_gives plan past b) in
    let none = nowhere plan b (not_of_intake plan b valid of) valid in
    let behind = (intake_inside plan b valid of).behind in
    let zero : cond {A = ℕ} (0 == b) 1 0 ≡ 0 = ap (λ v. cond {A = ℕ} v 1 0) (ne_eqb 0 b (λ same. omega (arith, same, behind))) in
    ⊎_elim
    (λ yes. yes)
    (λ no. let nothing = count_by_none (accepts b) past no in absurd (omega (arith, one, kept, all, none, zero, nothing)))
    (cases_Bool (is_accepted past b))

-- and begins where it is
pub started_accepted : (plan : PlanView) (past : List Event) → IsPlan plan → IsLawful plan past → (b : ℕ) → is_of_intake plan b ≡ true → is_started past b ≡ true → is_accepted past b ≡ true
started_accepted plan past valid h b of begun = submitted_accepted plan past valid h b of (submitted_from_started plan past h b begun)
