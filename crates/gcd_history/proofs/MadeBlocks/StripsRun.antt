-- Where the block that applied a strip has woken, each block of the strip has run between the two events.
use Rattle.std.proofs.Common.{◌≡◌, ⊎_elim, ℕ, ◌+◌, ◌<◌, ◌≤◌, true, false, cond, List, ◌∷◌, ◌++◌, length, get_or, Some, None, count_by, refl, ap, ◌∙◌, arith}
use Rattle.std.specs.List.{list_all}
use Rattle.std.proofs.lemmas.Bool.{eq-eqb, or_cases, cases_Bool}
use Rattle.std.proofs.lemmas.List.Folds.{list_any_at}
use Rattle.gcd_plan.specs.PlanView.{PlanView}
use Rattle.gcd_plan.specs.Made.{strip_blocks}
use Rattle.gcd_plan.specs.Validity.{IsPlan}
use Rattle.gcd_plan.specs.declared.act.Act.TheVariants.{Apply}
use Rattle.gcd_plan.specs.declared.numbers.Blk.{Blk}
use Rattle.gcd_plan.specs.declared.numbers.Obj.{Obj}
use Rattle.gcd_plan.specs.declared.numbers.Run.TheVariants.{Block}
use Rattle.gcd_plan.specs.declared.reason.Reason.TheVariants.{Strip}
use Rattle.gcd_event.specs.declared.event.Event.{Event}
use Rattle.gcd_event.specs.declared.event.Event.TheVariants.{Act as Acted, Wake}
use Rattle.gcd_history.specs.Runs.{starts, ends, is_open, is_started, is_ended, act_at, act_of}
use Rattle.gcd_history.specs.Submitted.{submitted_by, submitted, new_submissions}
use Rattle.gcd_history.specs.Parked.{awaited_by, parked_by, awaited, has_come, has_run_out, is_over}
use Rattle.gcd_history.specs.Permitted.{IsLawful, why}
use Rattle.gcd_plan.proofs.Sums.{count_by-append, count_by_some, count_by_none}
use Rattle.gcd_history.proofs.Lists.{any_from_find}
use Rattle.gcd_history.proofs.Runs.Open.{same_run-refl}
use Rattle.gcd_history.proofs.Permitted.Reasons.{at_act, at_wake}
use Rattle.gcd_history.proofs.MadeBlocks.Spans.{has_number}
use Rattle.gcd_history.proofs.Blocks.StartedOnce.{open_from_has_run, submitted_from_started, started_once, ended_once, started_from_ended, unended_from_unstarted}
use Rattle.gcd_history.proofs.Blocks.SubmittedOnce.{is_of, strip_count, new_parts, submitted_once}
use Rattle.gcd_history.proofs.Waits.Pass.{front}
use Rattle.gcd_history.proofs.Waits.Woken.{parked_from, parked_on, came}

-- the act parks its block until the strip has run
parked_at_apply : (plan : PlanView) (past : List Event) (w n a : ℕ) (b : Blk) (q : Obj) → why plan past (Acted w (Block b) n) ≡ None → act_at plan (Block b) n ≡ Some (Apply q a) → awaited plan (Acted w (Block b) n ∷ past) (Block b) ≡ Some (Strip a)
parked_at_apply plan past w n a b q h at =
    let live : is_open past (Block b) ≡ true = open_from_has_run plan past w (Block b) (at_act plan past w (Block b) n h).own in
    let by : parked_by plan (Acted w (Block b) n ∷ past) (Block b) ≡ Some (Strip a) =
    ap (λ v. cond v (awaited_by plan past (act_at plan (Block b) n)) (parked_by plan past (Block b))) (same_run-refl (Block b)) ∙ ap (awaited_by plan past) at in
    parked_from plan (Acted w (Block b) n ∷ past) b (Strip a) live by

-- where the wait for a strip is over all its blocks have ended
all_from_over : (plan : PlanView) (past : List Event) (a : ℕ) → is_over plan past (Strip a) ≡ true → list_all (λ c. is_ended past c.0) (strip_blocks plan a) ≡ true
unfolding has_come has_run_out
all_from_over plan past a h = ⊎_elim (λ yes. yes) (λ no. cc) (or_cases (list_all (λ c. is_ended past c.0) (strip_blocks plan a)) false h)

-- so at a Wake of the block after the act they have
pub strip_ended : (plan : PlanView) (later past : List Event) (w v n a : ℕ) (b : Blk) (q : Obj) → IsLawful plan (later ++ Acted w (Block b) n ∷ past) → act_at plan (Block b) n ≡ Some (Apply q a)
    → why plan (later ++ Acted w (Block b) n ∷ past) (Wake v b) ≡ None → list_all (λ c. is_ended (later ++ Acted w (Block b) n ∷ past) c.0) (strip_blocks plan a) ≡ true
strip_ended plan later past w v n a b q h at woken =
    let e = Acted w (Block b) n in
    let one = front plan later (e ∷ past) h in
    let parked = parked_at_apply plan past w n a b q one.1 at in
    all_from_over plan (later ++ e ∷ past) a (⊎_elim
    (λ still. came plan (later ++ e ∷ past) b.0 (Strip a) still (at_wake plan (later ++ e ∷ past) v b woken).came)
    (λ come. come)
    (parked_on plan later (e ∷ past) h b (Strip a) parked))

-- the act submits each of them, so none was submitted before, and none has started
pub strip_unstarted : (plan : PlanView) (past : List Event) (w n a k : ℕ) (b d : Blk) (q : Obj) → IsPlan plan → IsLawful plan (Acted w (Block b) n ∷ past) → act_at plan (Block b) n ≡ Some (Apply q a) → k < length (strip_blocks plan a)
    → is_started past (get_or (strip_blocks plan a) k d).0 ≡ false
strip_unstarted plan past w n a k b d q valid h at within =
    let e = Acted w (Block b) n in
    let c = (get_or (strip_blocks plan a) k d).0 in
    let there : 1 ≤ count_by (has_number c) (strip_blocks plan a) = count_by_some (has_number c) (strip_blocks plan a) (list_any_at (has_number c) (strip_blocks plan a) k d within (eq-eqb c c refl)) in
    let own : count_by (is_of c) (submitted_by plan (act_of plan e)) ≡ count_by (has_number c) (strip_blocks plan a) = ap (λ o. count_by (is_of c) (submitted_by plan o)) at ∙ strip_count c q (strip_blocks plan a) in
    let parts = new_parts plan past e c in
    let split : count_by (is_of c) (submitted plan (e ∷ past)) ≡ count_by (is_of c) (submitted plan past) + count_by (is_of c) (new_submissions plan past e) = count_by-append (is_of c) (submitted plan past) (new_submissions plan past e) in
    let once = submitted_once plan (e ∷ past) valid h c in
    ⊎_elim
    (λ started.
    let some = count_by_some (is_of c) (submitted plan past) (any_from_find (is_of c) (submitted plan past) (submitted_from_started plan past h.0 c started)) in
    absurd (omega (arith, there, own, parts, split, once, some)))
    (λ fresh. fresh)
    (cases_Bool (is_started past c))

-- a block that had not started, and has ended, has started once and ended once since
pub record RunsSince (later past : List Event) (c : ℕ) : Type 0 where
  pub starts_once : count_by (starts c) later ≡ 1
  pub ends_once : count_by (ends c) later ≡ 1

pub runs_since : (plan : PlanView) (later past : List Event) (c : ℕ) → IsLawful plan (later ++ past) → is_started past c ≡ false → is_ended (later ++ past) c ≡ true → RunsSince later past c
runs_since plan later past c h fresh ended =
    let before = front plan later past h in
    let no_start : count_by (starts c) past ≡ 0 = count_by_none (starts c) past fresh in
    let no_end : count_by (ends c) past ≡ 0 = count_by_none (ends c) past (unended_from_unstarted plan past before c fresh) in
    let started = count_by_some (starts c) (later ++ past) (started_from_ended plan (later ++ past) h c ended) in
    let done = count_by_some (ends c) (later ++ past) ended in
    let one = started_once plan (later ++ past) h c in
    let two = ended_once plan (later ++ past) h c in
    let three = count_by-append (starts c) later past in
    let four = count_by-append (ends c) later past in
    record { starts_once = omega (arith, no_start, started, one, three); ends_once = omega (arith, no_end, done, two, four) }
