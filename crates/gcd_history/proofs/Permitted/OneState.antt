-- A history has come to at most one state, and a lawful history of a valid plan to one.
use Rattle.std.proofs.Common.{◌≡◌, ◌⊎◌, ⊎_elim, true, false, List, ◌∷◌, reverse, refl}
use Rattle.std.proofs.lemmas.Bool.{both_ways, or_left, or_right, or_cases, cases_Bool}
use Rattle.gcd_plan.specs.PlanView.{PlanView}
use Rattle.gcd_event.specs.declared.event.Event.{Event}
use Rattle.gcd_event.specs.declared.event.Event.TheVariants.{Misuse}
use Rattle.gcd_history.specs.declared.state.State.{State}
use Rattle.gcd_history.specs.declared.state.State.TheVariants.{Drained, Stuck, Misused, Halted, Live}
use Rattle.gcd_history.specs.Permitted.{ends_in_misuse as misuse_last, ends_in_halt as halt_last, is_halted as halted_after}
use Rattle.gcd_plan.specs.Validity.{IsPlan}
use Rattle.gcd_history.specs.History.{IsLawful}
use Rattle.gcd_history.specs.Laws.{HasSomeState}
use Rattle.gcd_history.specs.Ends.{is_halted, ends_in_misuse, ends_in_halt, IsQuiescent, all_ended, HasState}
use Rattle.gcd_history.proofs.Permitted.Lawful.{lawful_after}
use Rattle.gcd_history.proofs.Permitted.Quiet.{quiet_or_not}

after_misuse : (past : List Event) → misuse_last past ≡ true → halted_after past ≡ true
after_misuse past h = or_left (misuse_last past) (halt_last past) h

after_halt : (past : List Event) → halt_last past ≡ true → halted_after past ≡ true
after_halt past h = or_right (misuse_last past) (halt_last past) h

not_both : (past : List Event) → misuse_last past ≡ true → halt_last past ≡ true → ⊥
not_both (Misuse w c r i ∷ past) h k = both_ways false refl k
not_both past h k = both_ways false refl h

misused_is_halted : (h : List Event) → ends_in_misuse h ≡ true → is_halted h ≡ true
unfolding ends_in_misuse is_halted
misused_is_halted h last = after_misuse (reverse h) last

stopped_is_halted : (h : List Event) → ends_in_halt h ≡ true → is_halted h ≡ true
unfolding ends_in_halt is_halted
stopped_is_halted h last = after_halt (reverse h) last

one_end : (h : List Event) → ends_in_misuse h ≡ true → ends_in_halt h ≡ true → ⊥
unfolding ends_in_misuse ends_in_halt
one_end h misuse halt = not_both (reverse h) misuse halt

quiet_goes_on : (plan : PlanView) (h : List Event) → IsQuiescent plan h → is_halted h ≡ true → ⊥
unfolding IsQuiescent is_halted
quiet_goes_on plan h quiet halted = both_ways (halted_after (reverse h)) quiet.goes_on halted

-- two states of one history are one
pub one_state : (plan : PlanView) (h : List Event) (s t : State) → HasState plan h s → HasState plan h t → s ≡ t
one_state plan h Drained Drained a b = refl
one_state plan h Drained Stuck a b = absurd (both_ways (all_ended plan h) b.left a.ended)
one_state plan h Drained Misused a b = absurd (quiet_goes_on plan h a.quiescent (misused_is_halted h b))
one_state plan h Drained Halted a b = absurd (quiet_goes_on plan h a.quiescent (stopped_is_halted h b))
one_state plan h Drained Live a b = absurd (b.unquiet a.quiescent)
one_state plan h Stuck Drained a b = absurd (both_ways (all_ended plan h) a.left b.ended)
one_state plan h Stuck Stuck a b = refl
one_state plan h Stuck Misused a b = absurd (quiet_goes_on plan h a.quiescent (misused_is_halted h b))
one_state plan h Stuck Halted a b = absurd (quiet_goes_on plan h a.quiescent (stopped_is_halted h b))
one_state plan h Stuck Live a b = absurd (b.unquiet a.quiescent)
one_state plan h Misused Drained a b = absurd (quiet_goes_on plan h b.quiescent (misused_is_halted h a))
one_state plan h Misused Stuck a b = absurd (quiet_goes_on plan h b.quiescent (misused_is_halted h a))
one_state plan h Misused Misused a b = refl
one_state plan h Misused Halted a b = absurd (one_end h a b)
one_state plan h Misused Live a b = absurd (both_ways (is_halted h) b.unhalted (misused_is_halted h a))
one_state plan h Halted Drained a b = absurd (quiet_goes_on plan h b.quiescent (stopped_is_halted h a))
one_state plan h Halted Stuck a b = absurd (quiet_goes_on plan h b.quiescent (stopped_is_halted h a))
one_state plan h Halted Misused a b = absurd (one_end h b a)
one_state plan h Halted Halted a b = refl
one_state plan h Halted Live a b = absurd (both_ways (is_halted h) b.unhalted (stopped_is_halted h a))
one_state plan h Live Drained a b = absurd (a.unquiet b.quiescent)
one_state plan h Live Stuck a b = absurd (a.unquiet b.quiescent)
one_state plan h Live Misused a b = absurd (both_ways (is_halted h) a.unhalted (misused_is_halted h b))
one_state plan h Live Halted a b = absurd (both_ways (is_halted h) a.unhalted (stopped_is_halted h b))
one_state plan h Live Live a b = refl

-- ## Some state

halted_has : (plan : PlanView) (h : List Event) → is_halted h ≡ true → HasSomeState plan h
unfolding is_halted ends_in_misuse ends_in_halt
halted_has plan h halted =
    ⊎_elim
    (λ misuse. record { state = Misused; come_to = misuse })
    (λ halt. record { state = Halted; come_to = halt })
    (or_cases (misuse_last (reverse h)) (halt_last (reverse h)) halted)

quiet_has : (plan : PlanView) (h : List Event) → IsQuiescent plan h → HasSomeState plan h
quiet_has plan h quiet =
    ⊎_elim
    (λ ended. record { state = Drained; come_to = record { quiescent = quiet; ended = ended } })
    (λ left. record { state = Stuck; come_to = record { quiescent = quiet; left = left } })
    (cases_Bool (all_ended plan h))

quiescent_or_not : (plan : PlanView) (h : List Event) → IsPlan plan → IsLawful plan h → is_halted h ≡ false → IsQuiescent plan h ⊎ (IsQuiescent plan h → ⊥)
unfolding IsQuiescent is_halted
quiescent_or_not plan h valid lawful on = quiet_or_not plan (reverse h) valid (lawful_after plan h lawful) on

-- a lawful history of a valid plan has a state
pub some_state : (plan : PlanView) (h : List Event) → IsPlan plan → IsLawful plan h → HasSomeState plan h
some_state plan h valid lawful =
    ⊎_elim
    (λ halted. halted_has plan h halted)
    (λ on. ⊎_elim
    (λ quiet. quiet_has plan h quiet)
    (λ unquiet. record { state = Live; come_to = record { unhalted = on; unquiet = unquiet } })
    (quiescent_or_not plan h valid lawful on))
    (cases_Bool (is_halted h))
