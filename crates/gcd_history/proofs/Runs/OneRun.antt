-- A worker has at most one run that is open and not parked.
use Rattle.std.proofs.Common.{◌≡◌, ◌⊎◌, inl, inr, ⊎_elim, ℕ, Bool, true, false, ◌&&◌, cond, ◌==◌, List, [], ◌∷◌, Some, None, is_none, refl, ap, sym, ◌∙◌, subst}
use Rattle.std.specs.List.{list_any}
use Rattle.std.specs.Option.{option_map_or}
use Rattle.std.proofs.lemmas.Bool.{eqb-true, and_parts, and_from, both_ways}
use Rattle.gcd_plan.specs.PlanView.{PlanView}
use Rattle.gcd_plan.specs.declared.numbers.Run.{Run}
use Rattle.gcd_plan.specs.declared.numbers.Run.TheVariants.{Block, Source}
use Rattle.gcd_event.specs.declared.event.Event.{Event}
use Rattle.gcd_event.specs.declared.event.Event.TheVariants.{Start, Act as Acted, Wake, End, Deliver, DeliverEnd}
use Rattle.gcd_history.specs.Runs.{same_run, open_runs, is_open, act_at, last_worker}
use Rattle.gcd_history.specs.Parked.{awaited_by, parked_by, has_run, is_busy}
use Rattle.gcd_history.specs.Permitted.{IsLawful, why}
use Rattle.gcd_history.specs.Choice.{worker_of}
use Rattle.gcd_history.specs.Facts.{gives_run}
use Rattle.gcd_history.proofs.Runs.Open.{same_run-true}
use Rattle.gcd_history.proofs.Permitted.Reasons.{at_start, at_act, at_wake, at_deliver}
use Rattle.gcd_history.proofs.Runs.OpenNodes.{open_cases, any_open}

-- the last worker of the run is w
abbrev pub is_last : List Event → Run → ℕ → Bool
is_last past r w = option_map_or (λ v. v == w) (last_worker past r) false

-- what makes a run the worker's
pub record RunFacts (plan : PlanView) (past : List Event) (w : ℕ) (r : Run) : Type 0 where
  pub live : is_open past r ≡ true
  pub unparked : is_none (parked_by plan past r) ≡ true
  pub last : is_last past r w ≡ true

pub run_facts : (plan : PlanView) (past : List Event) (w : ℕ) (r : Run) → has_run plan past w r ≡ true → RunFacts plan past w r
unfolding has_run
run_facts plan past w r h =
    let one = and_parts (is_open past r) _ h in
    let two = and_parts (is_none (parked_by plan past r)) (is_last past r w) one.1 in
    record { live = one.0; unparked = two.0; last = two.1 }

has_from : (plan : PlanView) (past : List Event) (w : ℕ) (r : Run) → is_open past r ≡ true → is_none (parked_by plan past r) ≡ true → is_last past r w ≡ true → has_run plan past w r ≡ true
unfolding has_run
has_from plan past w r live unparked last = and_from (is_open past r) _ live (and_from (is_none (parked_by plan past r)) (is_last past r w) unparked last)

-- worker w begins the run or wakes it
abbrev takes : ℕ → Event → Run → Bool
takes w (Start v b) run = v == w && same_run (Block b) run
takes w (Wake v b) run = v == w && same_run (Block b) run
takes w (Deliver v s) run = v == w && same_run (Source s) run
takes w _ run = false

-- who takes a run had none
took : (plan : PlanView) (e : Event) (past : List Event) → IsLawful plan (e ∷ past) → (w : ℕ) (r : Run) → takes w e r ≡ true → is_busy plan past w ≡ false
took plan (Start v b) past h w r now = subst (λ u. is_busy plan past u ≡ false) (eqb-true v w (and_parts (v == w) _ now).0) (at_start plan past v b h.1).idle
took plan (Wake v b) past h w r now = subst (λ u. is_busy plan past u ≡ false) (eqb-true v w (and_parts (v == w) _ now).0) (at_wake plan past v b h.1).idle
took plan (Deliver v s) past h w r now = subst (λ u. is_busy plan past u ≡ false) (eqb-true v w (and_parts (v == w) _ now).0) (at_deliver plan past v s h.1).idle
took plan e past h w r now = cc

-- an event that gives its worker a run finds the worker idle
pub gives_to_idle : (plan : PlanView) (past : List Event) (e : Event) → why plan past e ≡ None → gives_run e ≡ true → is_busy plan past (worker_of e) ≡ false
gives_to_idle plan past (Start v b) may gives = (at_start plan past v b may).idle
gives_to_idle plan past (Wake v b) may gives = (at_wake plan past v b may).idle
gives_to_idle plan past (Deliver v s) may gives = (at_deliver plan past v s may).idle
gives_to_idle plan past e may gives = cc

-- an event takes one run
takes_one : (e : Event) (w : ℕ) (r q : Run) → takes w e r ≡ true → takes w e q ≡ true → r ≡ q
takes_one (Start v b) w r q h k = sym (same_run-true (Block b) r (and_parts (v == w) _ h).1) ∙ same_run-true (Block b) q (and_parts (v == w) _ k).1
takes_one (Wake v b) w r q h k = sym (same_run-true (Block b) r (and_parts (v == w) _ h).1) ∙ same_run-true (Block b) q (and_parts (v == w) _ k).1
takes_one (Deliver v s) w r q h k = sym (same_run-true (Source s) r (and_parts (v == w) _ h).1) ∙ same_run-true (Source s) q (and_parts (v == w) _ k).1
takes_one e w r q h k = cc

-- an idle worker has no run
pub idle_has_none : (plan : PlanView) (past : List Event) (w : ℕ) (r : Run) → is_busy plan past w ≡ false → has_run plan past w r ≡ true → ⊥
unfolding is_busy
idle_has_none plan past w r idle own = both_ways (list_any (has_run plan past w) (open_runs past)) idle (any_open past (has_run plan past w) r (run_facts plan past w r own).live own)

abbrev Took : PlanView → Event → List Event → ℕ → Run → Type 0
Took plan e past w r = (takes w e r ≡ true) ⊎ (has_run plan past w r ≡ true)

-- a run that was open before the event, by its facts after it
open_before : (e : Event) (past : List Event) (r : Run) → is_open (e ∷ past) r ≡ true → (begun : Bool) → begun ≡ false → ((is_open (e ∷ past) r ≡ true) → (begun ≡ true) ⊎ (is_open past r ≡ true)) → is_open past r ≡ true
open_before e past r live begun none cases = ⊎_elim (λ now. absurd (both_ways begun none now)) (λ old. old) (cases live)

-- a worker's run was taken now, or was the worker's before
took_or_had : (plan : PlanView) (e : Event) (past : List Event) → IsLawful plan (e ∷ past) → (w : ℕ) (r : Run) → has_run plan (e ∷ past) w r ≡ true → Took plan e past w r
took_or_had plan (Start v c) past h w r own =
    let facts = run_facts plan (Start v c ∷ past) w r own in
    elim (same_run (Block c) r) as (λ k. same_run (Block c) r ≡ k → Took plan (Start v c) past w r) [
      | true ↦ λ same.
          let last : (v == w) ≡ true = sym (ap (λ k. option_map_or (λ u. u == w) (cond k (Some v) (last_worker past r)) false) same) ∙ facts.last in
          inl (and_from (v == w) (same_run (Block c) r) last same)
      | false ↦ λ other. inr (has_from plan past w r
          (open_before (Start v c) past r facts.live (same_run (Block c) r) other (open_cases (Start v c) past r))
          (sym (ap (λ k. is_none (cond k None (parked_by plan past r))) other) ∙ facts.unparked)
          (sym (ap (λ k. option_map_or (λ u. u == w) (cond k (Some v) (last_worker past r)) false) other) ∙ facts.last))
    ] refl
took_or_had plan (Wake v c) past h w r own =
    let facts = run_facts plan (Wake v c ∷ past) w r own in
    elim (same_run (Block c) r) as (λ k. same_run (Block c) r ≡ k → Took plan (Wake v c) past w r) [
      | true ↦ λ same.
          let last : (v == w) ≡ true = sym (ap (λ k. option_map_or (λ u. u == w) (cond k (Some v) (last_worker past r)) false) same) ∙ facts.last in
          inl (and_from (v == w) (same_run (Block c) r) last same)
      | false ↦ λ other. inr (has_from plan past w r
          facts.live
          (sym (ap (λ k. is_none (cond k None (parked_by plan past r))) other) ∙ facts.unparked)
          (sym (ap (λ k. option_map_or (λ u. u == w) (cond k (Some v) (last_worker past r)) false) other) ∙ facts.last))
    ] refl
took_or_had plan (Deliver v s) past h w r own =
    let facts = run_facts plan (Deliver v s ∷ past) w r own in
    elim (same_run (Source s) r) as (λ k. same_run (Source s) r ≡ k → Took plan (Deliver v s) past w r) [
      | true ↦ λ same.
          let last : (v == w) ≡ true = sym (ap (λ k. option_map_or (λ u. u == w) (cond k (Some v) (last_worker past r)) false) same) ∙ facts.last in
          inl (and_from (v == w) (same_run (Source s) r) last same)
      | false ↦ λ other. inr (has_from plan past w r
          (open_before (Deliver v s) past r facts.live (same_run (Source s) r) other (open_cases (Deliver v s) past r))
          (sym (ap (λ k. is_none (cond k None (parked_by plan past r))) other) ∙ facts.unparked)
          (sym (ap (λ k. option_map_or (λ u. u == w) (cond k (Some v) (last_worker past r)) false) other) ∙ facts.last))
    ] refl
took_or_had plan (Acted v q i) past h w r own =
    let facts = run_facts plan (Acted v q i ∷ past) w r own in
    elim (same_run q r) as (λ k. same_run q r ≡ k → Took plan (Acted v q i) past w r) [
      | true ↦ λ same.
          let mine : has_run plan past v r ≡ true = subst (λ k. has_run plan past v k ≡ true) (same_run-true q r same) (at_act plan past v q i h.1).own in
          inr (has_from plan past w r facts.live (run_facts plan past v r mine).unparked facts.last)
      | false ↦ λ other. inr (has_from plan past w r
          facts.live
          (sym (ap (λ k. is_none (cond k (awaited_by plan past (act_at plan q i)) (parked_by plan past r))) other) ∙ facts.unparked)
          facts.last)
    ] refl
took_or_had plan (End v c) past h w r own =
    let facts = run_facts plan (End v c ∷ past) w r own in
    inr (has_from plan past w r (open_before (End v c) past r facts.live false refl (open_cases (End v c) past r)) facts.unparked facts.last)
took_or_had plan (DeliverEnd v s) past h w r own =
    let facts = run_facts plan (DeliverEnd v s ∷ past) w r own in
    inr (has_from plan past w r (open_before (DeliverEnd v s) past r facts.live false refl (open_cases (DeliverEnd v s) past r)) facts.unparked facts.last)
took_or_had plan e past h w r own =
    let facts = run_facts plan (e ∷ past) w r own in
    inr (has_from plan past w r facts.live facts.unparked facts.last)

pub one_run : (plan : PlanView) (past : List Event) → IsLawful plan past → (w : ℕ) (r q : Run) → has_run plan past w r ≡ true → has_run plan past w q ≡ true → r ≡ q
one_run plan [] h w r q r_own q_own = absurd (both_ways false refl (run_facts plan [] w r r_own).live)
one_run plan (e ∷ past) h w r q r_own q_own =
    ⊎_elim
    (λ r_new. ⊎_elim
    (λ q_new. takes_one e w r q r_new q_new)
    (λ q_old. absurd (idle_has_none plan past w q (took plan e past h w r r_new) q_old))
    (took_or_had plan e past h w q q_own))
    (λ r_old. ⊎_elim
    (λ q_new. absurd (idle_has_none plan past w r (took plan e past h w q q_new) r_old))
    (λ q_old. one_run plan past h.0 w r q r_old q_old)
    (took_or_had plan e past h w q q_own))
    (took_or_had plan e past h w r r_own)
