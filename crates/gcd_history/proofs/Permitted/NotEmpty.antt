-- A history that has ended is not empty.
use Rattle.std.proofs.Common.{◌≡◌, ℕ, ◌≤◌, Bool, true, List, [], ◌∷◌, length, refl, ◌∙◌, arith, ⊎_elim}
use Rattle.std.proofs.lemmas.Bool.{both_ways, lt-ltb}
use Rattle.gcd_plan.specs.PlanView.{PlanView}
use Rattle.gcd_plan.specs.Validity.{IsPlan}
use Rattle.gcd_plan.proofs.Within.{has_main}
use Rattle.gcd_event.specs.declared.event.Event.{Event}
use Rattle.gcd_event.specs.declared.event.Event.TheVariants.{Start}
use Rattle.gcd_history.specs.Parked.{is_busy}
use Rattle.gcd_history.specs.Permitted.{permitted, is_ready, has_block}
use Rattle.gcd_history.specs.Ends.{HasEnded, IsHalted, IsQuiescent, is_halted}

main_by : (plan : PlanView) (known : Bool) → has_block plan 0 ≡ known → known ≡ true → permitted plan [] (Start 0 (record { 0 = 0 })) ≡ true
unfolding is_busy is_ready
main_by plan known is so = rw (is ∙ so) refl

-- main may start from the outset
main_starts : (plan : PlanView) → IsPlan plan → permitted plan [] (Start 0 (record { 0 = 0 })) ≡ true
main_starts plan valid = main_by plan true (lt-ltb 0 (length plan.blocks) (has_main plan.blocks valid.main)) refl

not_quiet : (plan : PlanView) → IsPlan plan → IsQuiescent plan [] → ⊥
unfolding IsQuiescent
not_quiet plan valid quiet = both_ways (permitted plan [] (Start 0 (record { 0 = 0 }))) (quiet.no_work (Start 0 (record { 0 = 0 })) refl) (main_starts plan valid)

not_halted : IsHalted [] → ⊥
unfolding is_halted
not_halted halted = cc

pub ended_is_not_empty : (most : ℕ) (plan : PlanView) (h : List Event) → 1 ≤ most → IsPlan plan → HasEnded most plan h → 1 ≤ length h
ended_is_not_empty most plan [] some valid ended =
    ⊎_elim
    (λ quiet. absurd (not_quiet plan valid quiet))
    (λ other. ⊎_elim (λ halted. absurd (not_halted halted)) (λ full. omega (arith, full, some)) other)
    ended
ended_is_not_empty most plan (e ∷ h) some valid ended = omega arith
