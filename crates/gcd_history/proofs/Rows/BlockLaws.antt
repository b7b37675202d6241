-- Worked rows of the laws of strips, of cancelled blocks, of notify blocks and of the intake: for each law a lawful history of a
-- valid plan in which its premise holds, by computation.
use Rattle.std.proofs.Common.{◌≡◌, ℕ, zero, suc, ◌==◌, true, false, List, [], ◌∷◌, map, take, drop, Some, None, count_by, refl, subst}
use Rattle.std.specs.List.{filter_map, range_with_len, slice_get}
use Rattle.std.specs.Option.{IfSome}
use Rattle.std.proofs.lemmas.Option.{same_Some}
use Rattle.gcd_plan.specs.PlanView.{StripView}
use Rattle.gcd_plan.specs.Validity.{IsPlan, IsIntake, IsStrip}
use Rattle.gcd_plan.specs.declared.act.Act.TheVariants.{Apply}
use Rattle.gcd_plan.specs.declared.why.Why.TheVariants.{NotNext, Waiting}
use Rattle.gcd_event.specs.declared.event.Event.{Event}
use Rattle.gcd_event.specs.declared.event.Event.TheVariants.{Start, Act as Acted, Wake, End, Shut}
use Rattle.gcd_history.specs.Runs.{starts, ends, act_at}
use Rattle.gcd_history.specs.Intake.{accepted}
use Rattle.gcd_history.specs.History.{why, IsLawful, is_block_cancelled, is_ended, submitted_of}
use Rattle.gcd_history.proofs.Rows.Samples.{words, b, run, o, journal}
use Rattle.gcd_history.proofs.Rows.SampleLaws.{words_of_history, plan_with, plan_from, lawful_row}
use Rattle.gcd_history.proofs.Rows.Strips.{strip, applied}
use Rattle.gcd_history.proofs.Rows.Blocks.{noted_twice, cancelled_first}
use Rattle.gcd_history.proofs.Rows.Intake.{open_to, two_accepted}

-- ## 1 Where the block that applied a strip has woken, the strip has run

strip_fits : (a : ℕ) (s : StripView) → slice_get (strip 3 ∷ []) a ≡ Some s → IsStrip (applied 3) s
unfolding words
strip_fits zero s at = subst (IsStrip (applied 3)) (same_Some (strip 3) s at) (record { fits = refl; among = refl; blocks = refl })
strip_fits (suc a) s at = cc

applied_plan : IsPlan (applied 3)
unfolding words
applied_plan = plan_with (applied 3) refl refl refl refl tt strip_fits

applied_lawful : IsLawful (applied 3) (journal (applied 3))
unfolding words
applied_lawful = lawful_row (applied 3) (journal (applied 3)) refl

-- event 1 is the act, event 8 the Wake, and each of blocks 1 to 3 starts once and ends once from the one to the other
applied_premise : (slice_get (journal (applied 3)) 1 ≡ Some (Acted 0 (run 0) 0))
    × (act_at (applied 3) (run 0) 0 ≡ Some (Apply (o 1) 0))
    × (slice_get (journal (applied 3)) 8 ≡ Some (Wake 0 (b 0)))
    × (map (λ n. count_by (starts n) (drop 1 (take 8 (journal (applied 3))))) (1 ∷ 2 ∷ 3 ∷ []) ≡ 1 ∷ 1 ∷ 1 ∷ [])
    × (map (λ n. count_by (ends n) (drop 1 (take 8 (journal (applied 3))))) (1 ∷ 2 ∷ 3 ∷ []) ≡ 1 ∷ 1 ∷ 1 ∷ [])
unfolding words
applied_premise = (refl, refl, refl, refl, refl)

applied_refused : why (applied 3) (take 7 (journal (applied 3))) (Wake 1 (b 0)) ≡ Some Waiting
unfolding words words_of_history
applied_refused = refl

-- ## 2 A cancelled block makes no act, and may end at once

-- block c; block b; sync root c; main; cancel_block b; async root b
cancelled_plan : IsPlan cancelled_first
cancelled_plan = plan_from cancelled_first refl refl refl refl refl refl

cancelled_lawful : IsLawful cancelled_first (journal cancelled_first)
unfolding words
cancelled_lawful = lawful_row cancelled_first (journal cancelled_first) refl

-- b is cancelled from event 1 on, and may start at event 4; its End follows, and its act does not
cancelled_premise : (map (λ i. is_block_cancelled cancelled_first (take i (journal cancelled_first)) 2) (range_with_len 0 7) ≡ false ∷ false ∷ true ∷ true ∷ true ∷ true ∷ true ∷ [])
    × (why cancelled_first (take 4 (journal cancelled_first)) (Start 0 (b 2)) ≡ None)
    × (why cancelled_first (take 5 (journal cancelled_first)) (End 0 (b 2)) ≡ None)
    × (why cancelled_first (take 5 (journal cancelled_first)) (Acted 0 (run 2) 0) ≡ Some NotNext)
unfolding words words_of_history
cancelled_premise = (refl, refl, refl, refl)

-- ## 3 The block of a notify_block is submitted once after the End that it waits for

-- block b; block c; block d; main; notify_block b root c; async root b; notify_block b root d
noted_plan : IsPlan noted_twice
noted_plan = plan_from noted_twice refl refl refl refl refl refl

abbrev noted : List Event
noted = Start 0 (b 0) ∷ Acted 0 (run 0) 0 ∷ Acted 0 (run 0) 1 ∷ Start 1 (b 1) ∷ End 1 (b 1) ∷ Acted 0 (run 0) 2 ∷ []

noted_lawful : IsLawful noted_twice noted
unfolding words
noted_lawful = lawful_row noted_twice noted refl

-- c is submitted once from event 4 on, which is the End; d, of which the act is event 5, from that on
noted_premise : (map (λ i. count_by (λ s. s.blk.0 == 2) (submitted_of noted_twice (take i noted))) (range_with_len 0 7) ≡ 0 ∷ 0 ∷ 0 ∷ 0 ∷ 0 ∷ 1 ∷ 1 ∷ [])
    × (map (λ i. count_by (λ s. s.blk.0 == 3) (submitted_of noted_twice (take i noted))) (range_with_len 0 7) ≡ 0 ∷ 0 ∷ 0 ∷ 0 ∷ 0 ∷ 0 ∷ 1 ∷ [])
    × (map (λ i. is_ended (take i noted) 1) (range_with_len 0 7) ≡ false ∷ false ∷ false ∷ false ∷ false ∷ true ∷ true ∷ [])
unfolding words words_of_history
noted_premise = (refl, refl, refl)

-- ## 4 The blocks of the intake are accepted in order, each once, and none after the Shut

intake_fits : IfSome (open_to 6).intake (IsIntake (open_to 6))
unfolding words
intake_fits = record { fits = refl; among = refl; blocks = refl }

accepted_plan : IsPlan (open_to 6)
unfolding words
accepted_plan = plan_with (open_to 6) refl refl refl refl intake_fits (λ a s at. cc)

accepted_lawful : IsLawful (open_to 6) two_accepted
unfolding words
accepted_lawful = lawful_row (open_to 6) two_accepted refl

accepted_premise : (filter_map accepted two_accepted ≡ b 1 ∷ b 2 ∷ []) × (slice_get two_accepted 6 ≡ Some Shut)
accepted_premise = (refl, refl)
