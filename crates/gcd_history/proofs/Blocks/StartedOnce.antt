-- Each block starts at most once, after its submission, and ends at most once.
use Rattle.std.proofs.Common.{◌≡◌, ⊎_elim, ℕ, ◌≤◌, Bool, true, false, not, ◌&&◌, ◌||◌, ◌==◌, List, [], ◌∷◌, Some, None, is_some, find, refl, ap, sym, ◌∙◌, subst, arith, count_by}
use Rattle.std.specs.Option.{option_or}
use Rattle.std.proofs.lemmas.Bool.{eqb-true, or_cases, or_right, and_parts, both_ways, cases_Bool, not-true}
use Rattle.std.proofs.lemmas.List.Folds.{find-append}
use Rattle.gcd_plan.specs.PlanView.{PlanView}
use Rattle.gcd_plan.specs.declared.numbers.Blk.{Blk}
use Rattle.gcd_plan.specs.declared.numbers.Run.{Run}
use Rattle.gcd_plan.specs.declared.numbers.Run.TheVariants.{Block}
use Rattle.gcd_event.specs.declared.event.Event.{Event}
use Rattle.gcd_event.specs.declared.event.Event.TheVariants.{Start, End, Deliver, DeliverEnd}
use Rattle.gcd_history.specs.declared.submission.Submission.{Submission}
use Rattle.gcd_history.specs.Runs.{opens, is_open, starts, is_started, ends, is_ended}
use Rattle.gcd_history.specs.Submitted.{submitted, new_submissions, submission_of}
use Rattle.gcd_history.specs.Parked.{has_run}
use Rattle.gcd_history.specs.Permitted.{why, IsLawful}
use Rattle.gcd_history.proofs.Lists.{count_more}
use Rattle.gcd_plan.proofs.Options.{some_from_is_some}
use Rattle.gcd_history.proofs.Runs.Open.{closes, is_open-step}
use Rattle.gcd_history.proofs.Permitted.Reasons.{at_start, at_end}

-- the events that open a block's run are its Starts, and those that close it are its Ends
pub opens-starts : (e : Event) (b : Blk) → opens e (Block b) ≡ starts b.0 e
opens-starts (Start w c) b = refl
opens-starts (Deliver w s) b = refl
opens-starts e b = refl

pub closes-ends : (e : Event) (b : Blk) → closes e (Block b) ≡ ends b.0 e
closes-ends (End w c) b = refl
closes-ends (DeliverEnd w s) b = refl
closes-ends e b = refl

-- an open block has started
open_step : (s o c i : Bool) → (s || (not c && i)) ≡ true → (i ≡ true → o ≡ true) → (s || o) ≡ true
open_step true o c i h k = refl
open_step false o true i h k = cc
open_step false o false i h k = k h

pub started_from_open : (past : List Event) (b : Blk) → is_open past (Block b) ≡ true → is_started past b.0 ≡ true
started_from_open [] b h = h
started_from_open (e ∷ past) b h =
    let step : (starts b.0 e || (not (closes e (Block b)) && is_open past (Block b))) ≡ true =
    ap (λ v. v || (not (closes e (Block b)) && is_open past (Block b))) (sym (opens-starts e b)) ∙ sym (is_open-step e past (Block b)) ∙ h in
    open_step (starts b.0 e) (is_started past b.0) (closes e (Block b)) (is_open past (Block b)) step (started_from_open past b)

pub open_from_has_run : (plan : PlanView) (past : List Event) (w : ℕ) (r : Run) → has_run plan past w r ≡ true → is_open past r ≡ true
unfolding has_run
open_from_has_run plan past w r h = (and_parts (is_open past r) _ h).0

-- what was submitted stays so
pub submission_of-kept : (plan : PlanView) (e : Event) (past : List Event) (b : ℕ) (s : Submission) → submission_of plan past b ≡ Some s → submission_of plan (e ∷ past) b ≡ Some s
submission_of-kept plan e past b s h =
    find-append (λ t. t.blk.0 == b) (submitted plan past) (new_submissions plan past e)
    ∙ ap (λ o. option_or o (find (λ t. t.blk.0 == b) (new_submissions plan past e))) h

-- the event that starts the block finds it submitted, and not started
pub at_its_start : (plan : PlanView) (past : List Event) (b : ℕ) (e : Event) → why plan past e ≡ None → starts b e ≡ true → (is_some (submission_of plan past b) ≡ true) × (is_started past b ≡ false)
at_its_start plan past b (Start w c) h now =
    let same : c.0 ≡ b = eqb-true c.0 b now in
    let facts = at_start plan past w c h in
    (subst (λ n. is_some (submission_of plan past n) ≡ true) same facts.submitted_one, subst (λ n. is_started past n ≡ false) same facts.fresh)
at_its_start plan past b _ h now = cc

-- a block starts only after its submission
pub submitted_from_started : (plan : PlanView) (past : List Event) → IsLawful plan past → (b : ℕ) → is_started past b ≡ true → is_some (submission_of plan past b) ≡ true
submitted_from_started plan [] h b started = cc
submitted_from_started plan (e ∷ past) h b started =
    let before : is_some (submission_of plan past b) ≡ true = ⊎_elim (λ now. (at_its_start plan past b e h.1 now).0) (submitted_from_started plan past h.0 b) (or_cases (starts b e) (is_started past b) started) in
    let s = some_from_is_some (submission_of plan past b) before in
    ap is_some (submission_of-kept plan e past b s.0 s.1)

-- a block starts at most once
pub started_once : (plan : PlanView) (past : List Event) → IsLawful plan past → (b : ℕ) → count_by (starts b) past ≤ 1
started_once plan [] h b = omega arith
started_once plan (e ∷ past) h b = count_more (starts b) e past (λ now. (at_its_start plan past b e h.1 now).1) (started_once plan past h.0 b)

-- an event that is no End ends no block
pub ends_none : (e : Event) → ((w : ℕ) (c : Blk) → e ≡ End w c → ⊥) → (b : ℕ) → ends b e ≡ false
ends_none (End w c) other b = absurd (other w c refl)
ends_none _ other b = refl

-- the event that ends the block finds it open
pub at_its_end : (plan : PlanView) (past : List Event) (b : ℕ) (e : Event) → why plan past e ≡ None → ends b e ≡ true → is_open past (Block (record { 0 = b })) ≡ true
at_its_end plan past b (End w c) h now =
    let same : c.0 ≡ b = eqb-true c.0 b now in
    let here : is_open past (Block c) ≡ true = open_from_has_run plan past w (Block c) (at_end plan past w c h).own in
    subst (λ n. is_open past (Block (record { 0 = n })) ≡ true) same here
at_its_end plan past b _ h now = cc

-- a block that has ended has started
pub started_from_ended : (plan : PlanView) (past : List Event) → IsLawful plan past → (b : ℕ) → is_ended past b ≡ true → is_started past b ≡ true
started_from_ended plan [] h b ended = cc
started_from_ended plan (e ∷ past) h b ended =
    or_right (starts b e) (is_started past b) (⊎_elim
    (λ now. started_from_open past (record { 0 = b }) (at_its_end plan past b e h.1 now))
    (started_from_ended plan past h.0 b)
    (or_cases (ends b e) (is_ended past b) ended))

-- a block that is not started has not ended
pub unended_from_unstarted : (plan : PlanView) (past : List Event) → IsLawful plan past → (b : ℕ) → is_started past b ≡ false → is_ended past b ≡ false
unended_from_unstarted plan past h b fresh =
    ⊎_elim (λ ended. absurd (both_ways (is_started past b) fresh (started_from_ended plan past h b ended))) (λ none. none) (cases_Bool (is_ended past b))

start_is_no_end : (e : Event) (b : ℕ) → starts b e ≡ true → ends b e ≡ false
start_is_no_end (End w c) b now = cc
start_is_no_end e b now = refl

either_false : (x y : Bool) → x ≡ false → y ≡ false → (x || y) ≡ false
either_false x y p q = ap (λ v. v || y) p ∙ q

-- a block that is open has not ended
pub open_not_ended : (plan : PlanView) (past : List Event) → IsLawful plan past → (b : Blk) → is_open past (Block b) ≡ true → is_ended past b.0 ≡ false
open_not_ended plan [] h b live = refl
open_not_ended plan (e ∷ past) h b live =
    let step : (starts b.0 e || (not (ends b.0 e) && is_open past (Block b))) ≡ true =
    ap (λ v. v || (not (ends b.0 e) && is_open past (Block b))) (sym (opens-starts e b))
    ∙ ap (λ v. opens e (Block b) || (not v && is_open past (Block b))) (sym (closes-ends e b))
    ∙ sym (is_open-step e past (Block b)) ∙ live in
    ⊎_elim
    (λ now. either_false (ends b.0 e) (is_ended past b.0) (start_is_no_end e b.0 now)
    (unended_from_unstarted plan past h.0 b.0 (at_its_start plan past b.0 e h.1 now).1))
    (λ old.
    let parts = and_parts (not (ends b.0 e)) (is_open past (Block b)) old in
    either_false (ends b.0 e) (is_ended past b.0) (not-true (ends b.0 e) parts.0) (open_not_ended plan past h.0 b parts.1))
    (or_cases (starts b.0 e) (not (ends b.0 e) && is_open past (Block b)) step)

-- a block ends at most once
pub ended_once : (plan : PlanView) (past : List Event) → IsLawful plan past → (b : ℕ) → count_by (ends b) past ≤ 1
ended_once plan [] h b = omega arith
ended_once plan (e ∷ past) h b = count_more (ends b) e past (λ now. open_not_ended plan past h.0 (record { 0 = b }) (at_its_end plan past b e h.1 now)) (ended_once plan past h.0 b)
