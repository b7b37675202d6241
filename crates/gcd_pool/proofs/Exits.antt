-- How a history that has ended has ended.
use Rattle.std.proofs.Common.{ℕ, List, ⊎_elim, inl, inr}
use Rattle.std.proofs.lemmas.Bool.{both_ways}
use Rattle.gcd_plan.specs.PlanView.{PlanView}
use Rattle.gcd_event.specs.declared.event.Event.{Event}
use Rattle.gcd_history.specs.Ends.{HasEnded, IsFull, IsGoingOn, is_halted}
use Rattle.gcd_pool.specs.Duties.{HasExit}
use Rattle.gcd_pool.specs.declared.duty.Exit.{Exit}
use Rattle.gcd_pool.specs.declared.duty.Exit.TheVariants.{Quiescent, Halted, Full}

-- one that has ended and is neither quiescent nor halted is full
pub ended_going_on : (most : ℕ) (plan : PlanView) (h : List Event) → HasEnded most plan h → IsGoingOn plan h → IsFull most plan h
ended_going_on most plan h ended going = ⊎_elim
    (λ quiet. absurd (going.unquiet quiet))
    (λ others. ⊎_elim
    (λ halted. absurd (both_ways (is_halted h) going.unhalted halted))
    (λ whole. record { whole = whole; going_on = going })
    others)
    ended

-- who knows how it has ended knows that it has
pub exit_ended : (most : ℕ) (plan : PlanView) (h : List Event) (exit : Exit) → HasExit most plan h exit → HasEnded most plan h
exit_ended most plan h Quiescent is = inl is
exit_ended most plan h Halted is = inr (inl is)
exit_ended most plan h Full is = inr (inr is.whole)
