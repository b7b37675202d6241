-- Holds, and what is active, after an event.
use Rattle.std.proofs.Common.{◌≡◌, ℕ, ◌+◌, ◌-◌, ◌<◌, ◌==◌, Bool, true, false, not, ◌&&◌, ◌||◌, cond, List, [], ◌∷◌, length, Option, Some, refl, ap, sym, ◌∙◌, subst, arith, ⊎_elim, eq-eqb, ne_eqb, nat_lt}
use Rattle.std.specs.List.{slice_index, slice_set, slice_index_or}
use Rattle.std.proofs.lemmas.Bool.{cases_eq, and_parts}
use Rattle.std.proofs.Math.Bool.{or-false, or-true}
use Rattle.gcd_plan.specs.PlanView.{PlanView}
use Rattle.gcd_plan.specs.Kinds.{is_source, has_kind, is_node_kind}
use Rattle.gcd_plan.specs.Validity.{IsPlan}
use Rattle.gcd_plan.specs.declared.act.Act.{Act}
use Rattle.gcd_plan.specs.declared.act.Act.TheVariants.{Suspend, Resume, Activate}
use Rattle.gcd_plan.specs.declared.numbers.Obj.{Obj}
use Rattle.gcd_plan.proofs.Within.{has_object}
use Rattle.gcd_event.specs.declared.event.Event.{Event}
use Rattle.gcd_history.specs.Runs.{act_of}
use Rattle.gcd_history.specs.Holds.{hold, hold_after, is_active, activates}
use Rattle.gcd_history.specs.Misuses.{is_over_resumed}
use Rattle.gcd_history.specs.Permitted.{IsLawful}
use Rattle.gcd_history.proofs.Blocks.SubmittedOnNodes.{recorded_fits}
use Rattle.gcd_hold.specs.HoldsView.{HoldsView, hold_at, is_active_at}
use Rattle.gcd_refinement.specs.MachineView.{MachineView}
use Rattle.gcd_refinement.specs.Shape.{PartsFit}
use Rattle.gcd_refinement.specs.Ties.{HoldsAre}
use Rattle.gcd_refinement.specs.After.{holds_by, after}
use Rattle.gcd_refinement.proofs.Lists.Writes.{entry_set}
use Rattle.gcd_refinement.proofs.LawfulActs.{proper, proper_parts}
use Rattle.gcd_history.proofs.Tree.TargetActs.{code_none}

-- what the act names is in the lists, and what a Resume finds at hold 0 is a source
pub record Fits (plan : PlanView) (holds : HoldsView) (act : Option Act) : Type 0 where
  pub suspended : (p : Obj) → act ≡ Some (Suspend p) → p.0 < length holds.holds
  pub resumed : (p : Obj) → act ≡ Some (Resume p) → (p.0 < length holds.holds) × (p.0 < length holds.active) × (hold_at holds p.0 ≡ 0 → is_source plan p.0 ≡ true)
  pub activated : (p : Obj) → act ≡ Some (Activate p) → p.0 < length holds.active

-- ## Holds

written : (xs : List ℕ) (p o m : ℕ) → p < length xs → slice_index (slice_set xs p m) o ≡ cond (p == o) m (slice_index xs o)
written xs p o m low = entry_set xs p o m 0 low

lowered : (holds : HoldsView) (p : Obj) (o h : ℕ) → p.0 < length holds.holds → hold_at holds o ≡ h → hold_at (holds_by holds (Some (Resume p))) o ≡ hold_after o (Some (Resume p)) h
lowered holds p o h low e =
    let w = written holds.holds p.0 o (hold_at holds p.0 - 1) low in
    ⊎_elim
    (λ (zero : hold_at holds p.0 ≡ 0).
    let t = eq-eqb (hold_at holds p.0) 0 zero in
    ⊎_elim
    (λ (same : p.0 ≡ o). let u = eq-eqb p.0 o same in let r = ap (slice_index holds.holds) same in rw (t, u) (omega (arith, e, r, zero)))
    (λ (other : p.0 ≡ o → ⊥). let u = ne_eqb p.0 o other in rw (t, u) e)
    (cases_eq p.0 o))
    (λ (some : hold_at holds p.0 ≡ 0 → ⊥).
    let t = ne_eqb (hold_at holds p.0) 0 some in
    ⊎_elim
    (λ (same : p.0 ≡ o). let u = eq-eqb p.0 o same in let r = ap (slice_index holds.holds) same in let x = w ∙ ap (λ v. cond v (hold_at holds p.0 - 1) (hold_at holds o)) u in rw (t, u) (omega (arith, e, r, x)))
    (λ (other : p.0 ≡ o → ⊥). let u = ne_eqb p.0 o other in let x = w ∙ ap (λ v. cond v (hold_at holds p.0 - 1) (hold_at holds o)) u in rw (t, u) (x ∙ e))
    (cases_eq p.0 o))
    (cases_eq (hold_at holds p.0) 0)

hold_by : (plan : PlanView) (holds : HoldsView) (act : Option Act) (o h : ℕ) → Fits plan holds act → hold_at holds o ≡ h → hold_at (holds_by holds act) o ≡ hold_after o act h
hold_by plan holds (Some (Suspend p)) o h fits e =
    let w = written holds.holds p.0 o (hold_at holds p.0 + 1) (fits.suspended p refl) in
    ⊎_elim
    (λ (same : p.0 ≡ o). let u = eq-eqb p.0 o same in let r = ap (slice_index holds.holds) same in let x = w ∙ ap (λ v. cond v (hold_at holds p.0 + 1) (hold_at holds o)) u in rw u (omega (arith, e, r, x)))
    (λ (other : p.0 ≡ o → ⊥). let u = ne_eqb p.0 o other in let x = w ∙ ap (λ v. cond v (hold_at holds p.0 + 1) (hold_at holds o)) u in rw u (x ∙ e))
    (cases_eq p.0 o)
hold_by plan holds (Some (Resume p)) o h fits e = lowered holds p o h (fits.resumed p refl).0 e
hold_by plan holds (Some (Activate p)) o h fits e = e
hold_by plan holds _ o h fits e = e

-- ## What is active

set_active : (xs : List Bool) (p o : ℕ) (a : Bool) → p < length xs → slice_index_or xs o false ≡ a → slice_index_or (slice_set xs p true) o false ≡ (a || p == o)
set_active xs p o a low e =
    let w = entry_set xs p o true false low in
    ⊎_elim
    (λ (same : p ≡ o). let u = eq-eqb p o same in w ∙ (rw u (sym (or-true a))))
    (λ (other : p ≡ o → ⊥). let u = ne_eqb p o other in w ∙ (rw u (e ∙ sym (or-false a))))
    (cases_eq p o)

-- where the object is another, or may be activated by a Resume
resumes : (plan : PlanView) (holds : HoldsView) (p : Obj) (o : ℕ) (a : Bool) → p.0 < length holds.active → (hold_at holds p.0 ≡ 0 → is_source plan p.0 ≡ true) → is_active_at holds o ≡ a
    → is_active_at (holds_by holds (Some (Resume p))) o ≡ (a || (p.0 == o && (is_source plan o && hold_at holds o == 0)))
resumes plan holds p o a low source e =
    ⊎_elim
    (λ (zero : hold_at holds p.0 ≡ 0).
    let t = eq-eqb (hold_at holds p.0) 0 zero in
    let w = set_active holds.active p.0 o a low e in
    ⊎_elim
    (λ (same : p.0 ≡ o).
    let u = eq-eqb p.0 o same in
    let s : is_source plan o ≡ true = subst (λ n. is_source plan n ≡ true) same (source zero) in
    let z : (hold_at holds o == 0) ≡ true = eq-eqb (hold_at holds o) 0 (ap (hold_at holds) (sym same) ∙ zero) in
    rw (t, u, s, z) (w ∙ ap (λ v. a || v) u))
    (λ (other : p.0 ≡ o → ⊥). let u = ne_eqb p.0 o other in let x = w ∙ ap (λ v. a || v) u in rw (t, u) x)
    (cases_eq p.0 o))
    (λ (some : hold_at holds p.0 ≡ 0 → ⊥).
    let t = ne_eqb (hold_at holds p.0) 0 some in
    ⊎_elim
    (λ (same : p.0 ≡ o).
    let z : (hold_at holds o == 0) ≡ false = subst (λ n. (hold_at holds n == 0) ≡ false) same t in
    elim (is_source plan o) as (λ v. is_active_at (holds_by holds (Some (Resume p))) o ≡ (a || (p.0 == o && (v && hold_at holds o == 0)))) [
      | true ↦ let u = eq-eqb p.0 o same in rw (t, u, z) (e ∙ sym (or-false a))
      | false ↦ let u = eq-eqb p.0 o same in rw (t, u) (e ∙ sym (or-false a))
    ])
    (λ (other : p.0 ≡ o → ⊥). let u = ne_eqb p.0 o other in rw (t, u) (e ∙ sym (or-false a)))
    (cases_eq p.0 o))
    (cases_eq (hold_at holds p.0) 0)

active_by : (plan : PlanView) (holds : HoldsView) (act : Option Act) (o : ℕ) (a : Bool) → Fits plan holds act → is_active_at holds o ≡ a
    → is_active_at (holds_by holds act) o ≡ (a || activates o (is_source plan o && hold_at holds o == 0) act)
active_by plan holds (Some (Activate p)) o a fits e = set_active holds.active p.0 o a (fits.activated p refl) e
active_by plan holds (Some (Resume p)) o a fits e = let f = fits.resumed p refl in resumes plan holds p o a f.1 f.2 e
active_by plan holds (Some (Suspend p)) o a fits e = e ∙ sym (or-false a)
active_by plan holds _ o a fits e = e ∙ sym (or-false a)

-- ## The step

fresh_source : (plan : PlanView) (past : List Event) (o : ℕ) → is_over_resumed plan past o ≡ false → hold plan past o ≡ 0 → is_source plan o ≡ true
fresh_source plan past o none zero =
    let z = eq-eqb (hold plan past o) 0 zero in
    elim (is_source plan o) as (λ v. ((hold plan past o == 0) && not (v && not (is_active plan past o))) ≡ false → v ≡ true) [
      | true ↦ λ h. refl
      | false ↦ λ h. sym (h) ∙ rw z refl
    ] none

held_low : (plan : PlanView) (p : ℕ) → (nat_lt 0 p && has_kind is_node_kind plan p) ≡ true → p < length plan.objects
held_low plan p known = has_object is_node_kind plan p (and_parts (nat_lt 0 p) (has_kind is_node_kind plan p) known).1

pub fits_at : (plan : PlanView) (past : List Event) (e : Event) (v : MachineView) → IsPlan plan → IsLawful plan (e ∷ past) → PartsFit plan v → HoldsAre plan past v → Fits plan v.holds (act_of plan e)
fits_at plan past e v valid lawful fit ties = record {
  suspended = λ p at. let low = held_low plan p.0 (recorded_fits plan e (Suspend p) valid at) in let long = fit.holds in omega (arith, low, long);
  resumed = λ p at.
      let low = held_low plan p.0 (recorded_fits plan e (Resume p) valid at) in
      let long = fit.holds in
      let wide = fit.active in
      let none = (proper_parts plan past (Resume p) (proper plan past e (Resume p) lawful at)).1 in
      (omega (arith, low, long), omega (arith, low, wide), λ zero. fresh_source plan past p.0 (code_none 1 (is_over_resumed plan past p.0) [] none).0 (sym (ties.holds p.0) ∙ zero));
  activated = λ p at. let low = held_low plan p.0 (recorded_fits plan e (Activate p) valid at) in let wide = fit.active in omega (arith, low, wide);
}

pub holds_step : (plan : PlanView) (past : List Event) (e : Event) (v : MachineView) → IsPlan plan → IsLawful plan (e ∷ past) → PartsFit plan v → HoldsAre plan past v
    → HoldsAre plan (e ∷ past) (after plan v e)
holds_step plan past e v valid lawful fit ties =
    let fits = fits_at plan past e v valid lawful fit ties in
    record {
      holds = λ o. hold_by plan v.holds (act_of plan e) o (hold plan past o) fits (ties.holds o);
      active = λ o.
          active_by plan v.holds (act_of plan e) o (is_active plan past o) fits (ties.active o)
          ∙ ap (λ h. is_active plan past o || activates o (is_source plan o && h == 0) (act_of plan e)) (ties.holds o);
    }
