-- The wait of a parked block is over before its Wake, and by the end of a drained run.
use Rattle.std.proofs.Common.{◌≡◌, ◌⊎◌, inl, inr, ⊎_elim, ℕ, ◌+◌, Option, true, false, not, ◌&&◌, cond, ◌==◌, List, [], ◌∷◌, ◌++◌, Some, None, is_none, refl, ap, sym, ◌∙◌, subst, arith}
use Rattle.std.specs.List.{list_any}
use Rattle.std.proofs.lemmas.Option.{same_Some}
use Rattle.std.specs.Option.{option_map_or}
use Rattle.std.proofs.lemmas.Bool.{eqb-true, eq-eqb, or_right, or_parts, and_parts, both_ways, cases_Bool}
use Rattle.gcd_plan.specs.PlanView.{PlanView}
use Rattle.gcd_plan.specs.declared.act.Act.{Act}
use Rattle.gcd_plan.specs.declared.act.Act.TheVariants.{Wait, WaitFor}
use Rattle.gcd_plan.specs.declared.numbers.Blk.{Blk}
use Rattle.gcd_plan.specs.declared.numbers.Obj.{Obj}
use Rattle.gcd_plan.specs.declared.numbers.Run.{Run}
use Rattle.gcd_plan.specs.declared.numbers.Run.TheVariants.{Block}
use Rattle.gcd_plan.specs.declared.reason.Reason.{Reason}
use Rattle.gcd_plan.specs.declared.reason.Reason.TheVariants.{Block as EndOf, Group, Strip, Rank}
use Rattle.gcd_event.specs.declared.event.Event.{Event}
use Rattle.gcd_event.specs.declared.event.Event.TheVariants.{Start, Act as Acted, Wake, End, Deliver, DeliverEnd}
use Rattle.gcd_history.specs.Runs.{same_run, opens, act_at, act_of, is_open, is_started, is_ended}
use Rattle.gcd_history.specs.Semas.{waits, wait_count}
use Rattle.gcd_history.specs.Parked.{awaited_by, parked_by, awaited, has_run, is_over, may_wake}
use Rattle.gcd_history.specs.Permitted.{IsLawful}
use Rattle.gcd_history.specs.Facts.{wakes}
use Rattle.gcd_history.specs.Choice.{all_ended}
use Rattle.gcd_history.specs.Submitted.{submitted, submission_of}
use Rattle.gcd_history.proofs.Lists.{found_passes}
use Rattle.gcd_plan.proofs.Sums.{count_by-cons}
use Rattle.gcd_plan.proofs.Options.{some_from_is_some}
use Rattle.gcd_history.proofs.Waits.StaysOver.{IsGiven, given_kept, over_kept}
use Rattle.gcd_history.proofs.Runs.Open.{closes, same_run-true, is_open-step}
use Rattle.gcd_history.proofs.Permitted.Reasons.{at_wake, at_act, at_end, at_start}
use Rattle.gcd_history.proofs.Blocks.StartedOnce.{started_from_open, submitted_from_started, open_not_ended}

-- an act makes its block wait for a given rank
rank_now : (plan : PlanView) (past : List Event) (w i : ℕ) (q : Run) (act : Act) (s : Obj) (r : Reason) → act_at plan q i ≡ Some act → waits s.0 (Some act) ≡ true → Some (Rank s (wait_count plan past s.0 + 1)) ≡ Some r → IsGiven plan (Acted w q i ∷ past) r
rank_now plan past w i q act s r at is h =
    let step = count_by-cons (λ d. waits s.0 (act_of plan d)) (Acted w q i) past in
    let one : cond {A = ℕ} (waits s.0 (act_at plan q i)) 1 0 ≡ 1 = ap (λ o. cond {A = ℕ} (waits s.0 o) 1 0) at ∙ ap (λ v. cond {A = ℕ} v 1 0) is in
    subst (IsGiven plan (Acted w q i ∷ past)) (same_Some _ _ h) (omega arith, omega (arith, step, one))

given_now : (plan : PlanView) (past : List Event) (w i : ℕ) (q : Run) (act : Option Act) (r : Reason) → act_at plan q i ≡ act → awaited_by plan past act ≡ Some r → IsGiven plan (Acted w q i ∷ past) r
given_now plan past w i q (Some (Wait s)) r at h = rank_now plan past w i q (Wait s) s r at (eq-eqb s.0 s.0 refl) h
given_now plan past w i q (Some (WaitFor s ms)) r at h = rank_now plan past w i q (WaitFor s ms) s r at (eq-eqb s.0 s.0 refl) h
given_now plan past w i q act (EndOf b) at h = tt
given_now plan past w i q act (Group g position) at h = tt
given_now plan past w i q act (Strip a) at h = tt
given_now plan past w i q act (Rank s k) at h = cc

-- where a block is parked, it is open, and its last act parked it
pub record ParkedFacts (plan : PlanView) (past : List Event) (b : Blk) (r : Reason) : Type 0 where
  pub live : is_open past (Block b) ≡ true
  pub by : parked_by plan past (Block b) ≡ Some r

pub parked_facts : (plan : PlanView) (past : List Event) (b : Blk) (r : Reason) → awaited plan past (Block b) ≡ Some r → ParkedFacts plan past b r
unfolding awaited
parked_facts plan past b r h =
    elim (is_open past (Block b)) as (λ v. is_open past (Block b) ≡ v → cond v (parked_by plan past (Block b)) None ≡ Some r → ParkedFacts plan past b r) [
      | true ↦ λ live by. record { live = live; by = by }
      | false ↦ λ shut none. cc
    ] refl h

given_by : (plan : PlanView) (past : List Event) (run : Run) (r : Reason) → parked_by plan past run ≡ Some r → IsGiven plan past r
given_by plan [] run r h = cc
given_by plan (Acted w q i ∷ past) run r h =
    elim (same_run q run) as (λ v. cond v (awaited_by plan past (act_at plan q i)) (parked_by plan past run) ≡ Some r → IsGiven plan (Acted w q i ∷ past) r) [
      | true ↦ λ now. given_now plan past w i q (act_at plan q i) r refl now
      | false ↦ λ before. given_kept plan (Acted w q i) past r (given_by plan past run r before)
    ] h
given_by plan (Wake w c ∷ past) run r h =
    elim (same_run (Block c) run) as (λ v. cond v None (parked_by plan past run) ≡ Some r → IsGiven plan (Wake w c ∷ past) r) [
      | true ↦ λ now. cc
      | false ↦ λ before. given_kept plan (Wake w c) past r (given_by plan past run r before)
    ] h
given_by plan (e ∷ past) run r h =
    elim (opens e run) as (λ v. cond v None (parked_by plan past run) ≡ Some r → IsGiven plan (e ∷ past) r) [
      | true ↦ λ now. cc
      | false ↦ λ before. given_kept plan e past r (given_by plan past run r before)
    ] h

-- what a parked block waits for is given
pub given_awaited : (plan : PlanView) (past : List Event) (b : Blk) (r : Reason) → awaited plan past (Block b) ≡ Some r → IsGiven plan past r
given_awaited plan past b r h = given_by plan past (Block b) r (parked_facts plan past b r h).by

pub parked_from : (plan : PlanView) (past : List Event) (b : Blk) (r : Reason) → is_open past (Block b) ≡ true → parked_by plan past (Block b) ≡ Some r → awaited plan past (Block b) ≡ Some r
unfolding awaited
parked_from plan past b r live by = ap (λ v. cond v (parked_by plan past (Block b)) None) live ∙ by

-- a parked run is nobody's
nobodys : (plan : PlanView) (past : List Event) (w : ℕ) (run : Run) (r : Reason) → parked_by plan past run ≡ Some r → has_run plan past w run ≡ true → ⊥
unfolding has_run
nobodys plan past w run r by own =
    let none = (and_parts (is_none (parked_by plan past run)) _ (and_parts (is_open past run) _ own).1).0 in
    both_ways (is_none (parked_by plan past run)) (ap is_none by) none

-- where b may wake, its wait is over
pub came : (plan : PlanView) (past : List Event) (b : ℕ) (r : Reason) → awaited plan past (Block (record { 0 = b })) ≡ Some r → may_wake plan past b ≡ true → is_over plan past r ≡ true
unfolding may_wake
came plan past b r is may = sym (ap (λ o. option_map_or (is_over plan past) o false) is) ∙ may

-- an open run that the event does not end is open after it
pub open_kept : (e : Event) (past : List Event) (run : Run) → is_open past run ≡ true → closes e run ≡ false → is_open (e ∷ past) run ≡ true
open_kept e past run live on = is_open-step e past run ∙ or_right (opens e run) (not (closes e run) && is_open past run) (ap (λ v. not v && is_open past run) on ∙ live)

-- a parked block stays so, one event on, if that is not its Wake
pub parked_kept : (plan : PlanView) (e : Event) (past : List Event) → IsLawful plan (e ∷ past) → (b : Blk) (r : Reason) → awaited plan past (Block b) ≡ Some r → wakes b.0 e ≡ false → awaited plan (e ∷ past) (Block b) ≡ Some r
parked_kept plan (Acted w q i) past h b r is none =
    let facts = parked_facts plan past b r is in
    elim (same_run q (Block b)) as (λ v. same_run q (Block b) ≡ v → awaited plan (Acted w q i ∷ past) (Block b) ≡ Some r) [
      | true ↦ λ same.
          let own : has_run plan past w (Block b) ≡ true = subst (λ k. has_run plan past w k ≡ true) (same_run-true q (Block b) same) (at_act plan past w q i h.1).own in
          absurd (nobodys plan past w (Block b) r facts.by own)
      | false ↦ λ other. parked_from plan (Acted w q i ∷ past) b r (open_kept (Acted w q i) past (Block b) facts.live refl)
          (ap (λ v. cond v (awaited_by plan past (act_at plan q i)) (parked_by plan past (Block b))) other ∙ facts.by)
    ] refl
parked_kept plan (Wake w c) past h b r is none =
    let facts = parked_facts plan past b r is in
    parked_from plan (Wake w c ∷ past) b r (open_kept (Wake w c) past (Block b) facts.live refl) (ap (λ v. cond v None (parked_by plan past (Block b))) none ∙ facts.by)
parked_kept plan (End w c) past h b r is none =
    let facts = parked_facts plan past b r is in
    elim (c.0 == b.0) as (λ v. c.0 == b.0 ≡ v → awaited plan (End w c ∷ past) (Block b) ≡ Some r) [
      | true ↦ λ same.
          let own : has_run plan past w (Block b) ≡ true = subst (λ n. has_run plan past w (Block (record { 0 = n })) ≡ true) (eqb-true c.0 b.0 same) (at_end plan past w c h.1).own in
          absurd (nobodys plan past w (Block b) r facts.by own)
      | false ↦ λ other. parked_from plan (End w c ∷ past) b r (open_kept (End w c) past (Block b) facts.live other) facts.by
    ] refl
parked_kept plan (Start w c) past h b r is none =
    let facts = parked_facts plan past b r is in
    elim (c.0 == b.0) as (λ v. c.0 == b.0 ≡ v → awaited plan (Start w c ∷ past) (Block b) ≡ Some r) [
      | true ↦ λ same.
          let fresh : is_started past b.0 ≡ false = subst (λ n. is_started past n ≡ false) (eqb-true c.0 b.0 same) (at_start plan past w c h.1).fresh in
          absurd (both_ways (is_started past b.0) fresh (started_from_open past b facts.live))
      | false ↦ λ other. parked_from plan (Start w c ∷ past) b r (open_kept (Start w c) past (Block b) facts.live refl)
          (ap (λ v. cond v None (parked_by plan past (Block b))) other ∙ facts.by)
    ] refl
parked_kept plan (Deliver w s) past h b r is none =
    let facts = parked_facts plan past b r is in
    parked_from plan (Deliver w s ∷ past) b r (open_kept (Deliver w s) past (Block b) facts.live refl) facts.by
parked_kept plan (DeliverEnd w s) past h b r is none =
    let facts = parked_facts plan past b r is in
    parked_from plan (DeliverEnd w s ∷ past) b r (open_kept (DeliverEnd w s) past (Block b) facts.live refl) facts.by
parked_kept plan e past h b r is none =
    let facts = parked_facts plan past b r is in
    parked_from plan (e ∷ past) b r facts.live facts.by

-- where the event is its Wake, its wait is over
pub came_at_wake : (plan : PlanView) (e : Event) (past : List Event) → IsLawful plan (e ∷ past) → (b : Blk) (r : Reason) → awaited plan past (Block b) ≡ Some r → wakes b.0 e ≡ true → is_over plan past r ≡ true
came_at_wake plan (Wake w c) past h b r is now =
    came plan past b.0 r is (subst (λ n. may_wake plan past n ≡ true) (eqb-true c.0 b.0 now) (at_wake plan past w c h.1).came)
came_at_wake plan e past h b r is now = cc

abbrev StillOrCome : PlanView → Event → List Event → Blk → Reason → Type 0
StillOrCome plan e past b r = (awaited plan (e ∷ past) (Block b) ≡ Some r) ⊎ (is_over plan (e ∷ past) r ≡ true)

-- one event on, a parked block is still parked, or its wait is over
parked_step : (plan : PlanView) (e : Event) (past : List Event) → IsLawful plan (e ∷ past) → (b : Blk) (r : Reason) → awaited plan past (Block b) ≡ Some r → StillOrCome plan e past b r
parked_step plan e past h b r is =
    ⊎_elim
    (λ now. inr (over_kept plan e past r (given_awaited plan past b r is) (came_at_wake plan e past h b r is now)))
    (λ other. inl (parked_kept plan e past h b r is other))
    (cases_Bool (wakes b.0 e))

given_on : (plan : PlanView) (later past : List Event) (r : Reason) → IsGiven plan past r → IsGiven plan (later ++ past) r
given_on plan [] past r given = given
given_on plan (e ∷ later) past r given = given_kept plan e (later ++ past) r (given_on plan later past r given)

-- and so over any number of events
pub parked_on : (plan : PlanView) (later past : List Event) → IsLawful plan (later ++ past) → (b : Blk) (r : Reason) → awaited plan past (Block b) ≡ Some r →
    (awaited plan (later ++ past) (Block b) ≡ Some r) ⊎ (is_over plan (later ++ past) r ≡ true)
parked_on plan [] past h b r is = inl is
parked_on plan (e ∷ later) past h b r is =
    ⊎_elim
    (λ still. parked_step plan e (later ++ past) h b r still)
    (λ come. inr (over_kept plan e (later ++ past) r (given_on plan later past r (given_awaited plan past b r is)) come))
    (parked_on plan later past h.0 b r is)

-- where each submitted block has ended, no block is parked
pub none_parked : (plan : PlanView) (past : List Event) → IsLawful plan past → all_ended plan past ≡ true → (b : Blk) → awaited plan past (Block b) ≡ None
unfolding awaited
none_parked plan past h ended b =
    elim (is_open past (Block b)) as (λ v. is_open past (Block b) ≡ v → cond v (parked_by plan past (Block b)) None ≡ None) [
      | true ↦ λ live.
          let s = some_from_is_some (submission_of plan past b.0) (submitted_from_started plan past h b.0 (started_from_open past b live)) in
          let found = found_passes (λ t. t.blk.0 == b.0) (λ t. is_ended past t.blk.0) (submitted plan past) s.0 s.1 ended in
          let done : is_ended past b.0 ≡ true = subst (λ n. is_ended past n ≡ true) (eqb-true s.0.blk.0 b.0 found.0) found.1 in
          absurd (both_ways (is_ended past b.0) (open_not_ended plan past h b live) done)
      | false ↦ λ shut. refl
    ] refl

-- a block that may wake may wake as long as no Wake of it comes
pub due_on : (plan : PlanView) (later past : List Event) → IsLawful plan (later ++ past) → (b : Blk) (r : Reason) → awaited plan past (Block b) ≡ Some r → is_over plan past r ≡ true → list_any (wakes b.0) later ≡ false →
    (awaited plan (later ++ past) (Block b) ≡ Some r) × (is_over plan (later ++ past) r ≡ true)
due_on plan [] past h b r is come none = (is, come)
due_on plan (e ∷ later) past h b r is come none =
    let parts = or_parts (wakes b.0 e) (list_any (wakes b.0) later) none in
    let before = due_on plan later past h.0 b r is come parts.1 in
    (parked_kept plan e (later ++ past) h b r before.0 parts.0, over_kept plan e (later ++ past) r (given_awaited plan (later ++ past) b r before.0) before.1)
