-- Worked rows: the intake.
use Rattle.std.specs.Prelude.{◌≡◌, ℕ, List, [], ◌∷◌, map, Option, Some, None, refl, codes}
use Rattle.gcd_plan.specs.PlanView.{PlanView}
use Rattle.gcd_plan.specs.declared.why.Why.{Why}
use Rattle.gcd_plan.specs.declared.why.Why.TheVariants.{NoSuch, NotLive, NotNext}
use Rattle.gcd_event.specs.declared.event.Event.{Event}
use Rattle.gcd_event.specs.declared.event.Event.TheVariants.{Start, End, Accept, Shut}
use Rattle.gcd_history.specs.declared.state.State.TheVariants.{Drained, Live}
use Rattle.gcd_history.specs.History.{why}
use Rattle.gcd_history.specs.Report.{front_text}
use Rattle.gcd_history.proofs.Rows.Samples.{words, o, b, serial, plan_of, with_made, checked, told, text}
use Rattle.gcd_history.proofs.Rows.SampleLaws.{words_of_history}

-- queue q serial; intake q N; main
abbrev pub open_to : (count : ℕ) → PlanView
open_to count = with_made (plan_of (serial (codes "q") 0 ∷ []) [] []) (Some (record { queue = o 1; first = 1; count = count })) []

-- nothing comes from outside
shut_at_once : told (open_to 6) [] (Shut ∷ Start 0 (b 0) ∷ End 0 (b 0) ∷ []) ≡ text (codes "shut;start 0 main;end 0 main;events 3;drained;")
unfolding words
shut_at_once = refl

-- two jobs of two senders come
abbrev pub two_accepted : List Event
two_accepted = Accept (b 1) 1 ∷ Start 0 (b 0) ∷ Accept (b 2) 0 ∷ End 0 (b 0) ∷ Start 0 (b 1) ∷ End 0 (b 1) ∷ Shut ∷ Start 0 (b 2) ∷ End 0 (b 2) ∷ []

accepted_blocks_run_in_order : told (open_to 6) [] two_accepted
    ≡ text (codes "accept +1 1;start 0 main;accept +2 0;end 0 main;start 0 +1;end 0 +1;shut;start 0 +2;end 0 +2;events 9;drained;")
unfolding words
accepted_blocks_run_in_order = refl

accepted_is_lawful : checked (open_to 6) two_accepted ≡ (None, Drained)
unfolding words
accepted_is_lawful = refl

-- main has ended, and more may come
open_is_not_quiescent : checked (open_to 6) (Start 0 (b 0) ∷ End 0 (b 0) ∷ []) ≡ (None, Live)
unfolding words
open_is_not_quiescent = refl

-- why each of the events may not come next
abbrev refused_now : PlanView → List Event → List Event → List (Option Why)
refused_now plan h events = map (why plan h) events

first_comes_first : refused_now (open_to 2) [] (Accept (b 1) 63 ∷ Accept (b 2) 0 ∷ Accept (b 0) 0 ∷ Accept (b 3) 0 ∷ Accept (b 1) 64 ∷ Shut ∷ [])
    ≡ None ∷ Some NotNext ∷ Some NoSuch ∷ Some NoSuch ∷ Some NoSuch ∷ None ∷ []
unfolding words words_of_history
first_comes_first = refl

each_once : refused_now (open_to 2) (Accept (b 1) 0 ∷ []) (Accept (b 1) 0 ∷ Accept (b 2) 0 ∷ []) ≡ Some NotNext ∷ None ∷ []
unfolding words words_of_history
each_once = refl

all_accepted : refused_now (open_to 2) (Accept (b 1) 0 ∷ Accept (b 2) 0 ∷ []) (Accept (b 1) 0 ∷ Accept (b 2) 0 ∷ Shut ∷ []) ≡ Some NotLive ∷ Some NotLive ∷ None ∷ []
unfolding words words_of_history
all_accepted = refl

none_after_the_shut : refused_now (open_to 2) (Accept (b 1) 0 ∷ Shut ∷ []) (Accept (b 2) 0 ∷ Shut ∷ []) ≡ Some NotLive ∷ Some NotLive ∷ []
unfolding words words_of_history
none_after_the_shut = refl

without_an_intake : refused_now (plan_of [] [] []) [] (Accept (b 1) 0 ∷ Shut ∷ []) ≡ Some NoSuch ∷ Some NotLive ∷ []
unfolding words words_of_history
without_an_intake = refl

-- what is told of two senders, where each block's value is its number: the third block is open, and adds nothing
told_of_senders : front_text (open_to 6) 2 (λ n. n) Drained
    (Accept (b 1) 0 ∷ Accept (b 2) 1 ∷ Accept (b 3) 0 ∷ Start 0 (b 1) ∷ End 0 (b 1) ∷ Start 0 (b 2) ∷ End 0 (b 2) ∷ Start 0 (b 3) ∷ [])
    ≡ text (codes "sender 0 accepted 2 total 1;sender 1 accepted 1 total 2;drained;")
unfolding words
told_of_senders = refl
