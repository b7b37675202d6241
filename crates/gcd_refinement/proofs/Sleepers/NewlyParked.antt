-- What an event parks a block for, and that nothing else parks it.
use Rattle.std.proofs.Common.{◌≡◌, ◌⊎◌, inl, inr, ⊎_elim, ℕ, ◌<◌, ◌==◌, true, false, not, ◌&&◌, ◌||◌, cond, List, [], ◌∷◌, length, Option, Some, None, refl, ap, sym, ◌∙◌, subst}
use Rattle.std.proofs.lemmas.Bool.{and_parts, eqb-true, ltb-true, both_ways, cases_Bool}
use Rattle.gcd_plan.specs.PlanView.{PlanView}
use Rattle.gcd_plan.specs.declared.numbers.Blk.{Blk}
use Rattle.gcd_plan.specs.declared.numbers.Run.{Run}
use Rattle.gcd_plan.specs.declared.numbers.Run.TheVariants.{Block, Source}
use Rattle.gcd_plan.specs.declared.reason.Reason.{Reason}
use Rattle.gcd_event.specs.declared.event.Event.{Event}
use Rattle.gcd_event.specs.declared.event.Event.TheVariants.{Act as Acted, Wake}
use Rattle.gcd_history.specs.Runs.{opens, act_at, is_open}
use Rattle.gcd_history.specs.Parked.{awaited_by, parked_by, awaited, is_over}
use Rattle.gcd_history.specs.Permitted.{is_index, IsLawful, is_worker, is_run_of}
use Rattle.gcd_history.specs.Facts.{wakes}
use Rattle.gcd_history.proofs.Permitted.Reasons.{allowed, at_act}
use Rattle.gcd_history.proofs.Runs.Open.{closes, is_open-step}
use Rattle.gcd_history.proofs.Blocks.StartedOnce.{open_from_has_run}
use Rattle.gcd_history.proofs.Waits.Woken.{ParkedFacts, parked_facts, parked_from, parked_kept, came_at_wake}

-- what the event parks block b for
abbrev pub parked_now : PlanView → List Event → Event → ℕ → Option Reason
parked_now plan past (Acted w (Block c) i) b = cond (c.0 == b) (awaited_by plan past (act_at plan (Block c) i)) None
parked_now plan past e b = None

abbrev NewOrOld : PlanView → List Event → Event → Blk → Reason → Type 0
NewOrOld plan past e b r = (parked_now plan past e b.0 ≡ Some r) ⊎ (awaited plan past (Block b) ≡ Some r)

was_open : (e : Event) (past : List Event) (run : Run) → is_open (e ∷ past) run ≡ true → opens e run ≡ false → is_open past run ≡ true
was_open e past run live none =
    (and_parts (not (closes e run)) (is_open past run)
    (ap (λ v. v || (not (closes e run) && is_open past run)) (sym none) ∙ (sym (is_open-step e past run) ∙ live))).1

by_other : (plan : PlanView) (past : List Event) (e : Event) (b : Blk) (r : Reason) → parked_by plan (e ∷ past) (Block b) ≡ cond (opens e (Block b)) None (parked_by plan past (Block b))
    → ParkedFacts plan (e ∷ past) b r → awaited plan past (Block b) ≡ Some r
by_other plan past e b r same facts =
    elim (opens e (Block b)) as (λ v. opens e (Block b) ≡ v → cond v None (parked_by plan past (Block b)) ≡ Some r → awaited plan past (Block b) ≡ Some r) [
      | true ↦ λ h by. cc
      | false ↦ λ h by. parked_from plan past b r (was_open e past (Block b) facts.live h) by
    ] refl (sym same ∙ facts.by)

-- a block that is parked after the event was parked by it or before it
pub parked_new : (plan : PlanView) (past : List Event) (e : Event) (b : Blk) (r : Reason) → awaited plan (e ∷ past) (Block b) ≡ Some r → NewOrOld plan past e b r
parked_new plan past (Acted w (Block c) i) b r is =
    let facts = parked_facts plan (Acted w (Block c) i ∷ past) b r is in
    elim (c.0 == b.0) as (λ v. cond v (awaited_by plan past (act_at plan (Block c) i)) (parked_by plan past (Block b)) ≡ Some r → (cond v (awaited_by plan past (act_at plan (Block c) i)) None ≡ Some r) ⊎ (awaited plan past (Block b) ≡ Some r)) [
      | true ↦ λ by. inl by
      | false ↦ λ by. inr (parked_from plan past b r facts.live by)
    ] facts.by
parked_new plan past (Acted w (Source s) i) b r is =
    let facts = parked_facts plan (Acted w (Source s) i ∷ past) b r is in inr (parked_from plan past b r facts.live facts.by)
parked_new plan past (Wake w c) b r is =
    let facts = parked_facts plan (Wake w c ∷ past) b r is in
    elim (c.0 == b.0) as (λ v. cond v None (parked_by plan past (Block b)) ≡ Some r → NewOrOld plan past (Wake w c) b r) [
      | true ↦ λ by. cc
      | false ↦ λ by. inr (parked_from plan past b r facts.live by)
    ] facts.by
parked_new plan past e b r is = inr (by_other plan past e b r refl (parked_facts plan (e ∷ past) b r is))

-- what the event parks is parked after it
pub now_parked : (plan : PlanView) (past : List Event) (e : Event) (b : Blk) (r : Reason) → IsLawful plan (e ∷ past) → parked_now plan past e b.0 ≡ Some r → awaited plan (e ∷ past) (Block b) ≡ Some r
now_parked plan past (Acted w (Block c) i) b r lawful is =
    elim (c.0 == b.0) as (λ v. c.0 == b.0 ≡ v → cond v (awaited_by plan past (act_at plan (Block c) i)) None ≡ Some r → awaited plan (Acted w (Block c) i ∷ past) (Block b) ≡ Some r) [
      | true ↦ λ same by.
          let live = open_from_has_run plan past w (Block c) (at_act plan past w (Block c) i lawful.1).own in
          parked_from plan (Acted w (Block c) i ∷ past) b r (subst (λ n. is_open past (Block (record { 0 = n })) ≡ true) (eqb-true c.0 b.0 same) live)
          (ap (λ v. cond v (awaited_by plan past (act_at plan (Block c) i)) (parked_by plan past (Block b))) same ∙ by)
      | false ↦ λ other by. cc
    ] refl is
now_parked plan past e b r lawful is = cc

now_within : (plan : PlanView) (past : List Event) (e : Event) (b : Blk) (r : Reason) → IsLawful plan (e ∷ past) → parked_now plan past e b.0 ≡ Some r → b.0 < length plan.blocks
now_within plan past (Acted w (Block c) i) b r lawful is =
    elim (c.0 == b.0) as (λ v. c.0 == b.0 ≡ v → cond v (awaited_by plan past (act_at plan (Block c) i)) None ≡ Some r → b.0 < length plan.blocks) [
      | true ↦ λ same by.
          let one = and_parts (is_worker w) (is_run_of plan (Block c) && is_index i) (allowed plan past (Acted w (Block c) i) lawful.1).known in
          subst (λ n. n < length plan.blocks) (eqb-true c.0 b.0 same) (ltb-true c.0 (length plan.blocks) (and_parts (is_run_of plan (Block c)) (is_index i) one.1).0)
      | false ↦ λ other by. cc
    ] refl is
now_within plan past e b r lawful is = cc

-- a parked block is of the plan
pub parked_within : (plan : PlanView) (past : List Event) (b : Blk) (r : Reason) → IsLawful plan past → awaited plan past (Block b) ≡ Some r → b.0 < length plan.blocks
parked_within plan [] b r lawful is = let facts = parked_facts plan [] b r is in let no_run : false ≡ true = facts.live in cc
parked_within plan (e ∷ past) b r lawful is =
    ⊎_elim
    (λ new. now_within plan past e b r lawful new)
    (λ old. parked_within plan past b r lawful.0 old)
    (parked_new plan past e b r is)

-- its Wake ends it
pub gone_at_wake : (plan : PlanView) (past : List Event) (e : Event) (b : Blk) (r : Reason) → wakes b.0 e ≡ true → awaited plan (e ∷ past) (Block b) ≡ Some r → ⊥
gone_at_wake plan past (Wake w c) b r now is =
    let facts = parked_facts plan (Wake w c ∷ past) b r is in
    let none : None ≡ Some r = ap (λ v. cond v None (parked_by plan past (Block b))) (sym now) ∙ facts.by in cc
gone_at_wake plan past e b r now is = cc

-- while what it waits for has not come, a block stays parked
pub still_parked : (plan : PlanView) (past : List Event) (e : Event) (b : Blk) (r : Reason) → IsLawful plan (e ∷ past) → awaited plan past (Block b) ≡ Some r → is_over plan past r ≡ false → awaited plan (e ∷ past) (Block b) ≡ Some r
still_parked plan past e b r lawful is waits =
    ⊎_elim
    (λ now. absurd (both_ways (is_over plan past r) waits (came_at_wake plan e past lawful b r is now)))
    (λ other. parked_kept plan e past lawful b r is other)
    (cases_Bool (wakes b.0 e))
