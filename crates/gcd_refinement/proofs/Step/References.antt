-- The references after an event.
use Rattle.std.proofs.Common.{◌≡◌, ℕ, ◌+◌, ◌-◌, ◌<◌, ◌==◌, true, false, not, ◌&&◌, cond, List, [], ◌∷◌, length, Option, Some, refl, ap, ◌∙◌, arith, ⊎_elim, eq-eqb, ne_eqb, nat_lt}
use Rattle.std.specs.List.{slice_index, list_any}
use Rattle.std.proofs.lemmas.Bool.{and_parts, or_left, ltb-true, both_ways, cases_eq, and_from}
use Rattle.gcd_plan.specs.PlanView.{PlanView}
use Rattle.gcd_plan.specs.Validity.{IsPlan}
use Rattle.gcd_plan.specs.declared.act.Act.{Act}
use Rattle.gcd_plan.specs.declared.act.Act.TheVariants.{Retain, Release}
use Rattle.gcd_plan.specs.declared.numbers.Obj.{Obj}
use Rattle.gcd_event.specs.declared.event.Event.{Event}
use Rattle.gcd_history.specs.Runs.{act_of}
use Rattle.gcd_history.specs.Misuses.{retains, releases, refs, is_released}
use Rattle.gcd_history.specs.Permitted.{IsLawful}
use Rattle.gcd_plan.proofs.Sums.{count_by-cons}
use Rattle.gcd_history.proofs.Blocks.SubmittedOnNodes.{recorded_fits}
use Rattle.gcd_refinement.specs.MachineView.{MachineView, refs_at}
use Rattle.gcd_refinement.specs.Ties.{ReferencesAre}
use Rattle.gcd_refinement.specs.After.{refs_by, after}
use Rattle.gcd_refinement.proofs.Lists.Writes.{entry_set}
use Rattle.gcd_refinement.proofs.LawfulActs.{proper, proper_parts}

-- what a retain or a release names is in the list, and a release names what has a reference
record Fits (refs : List ℕ) (act : Option Act) : Type 0 where
  retained : (p : Obj) → act ≡ Some (Retain p) → p.0 < length refs
  released : (p : Obj) → act ≡ Some (Release p) → (p.0 < length refs) × (0 < slice_index refs p.0)

step : (refs : List ℕ) (act : Option Act) (o a b : ℕ) → Fits refs act → slice_index refs o + a ≡ 1 + b
    → slice_index (refs_by refs act) o + (cond (releases o act) 1 0 + a) ≡ 1 + (cond (retains o act) 1 0 + b)
step refs (Some (Retain p)) o a b fits h =
    let w = entry_set refs p.0 o (slice_index refs p.0 + 1) 0 (fits.retained p refl) in
    ⊎_elim
    (λ (same : p.0 ≡ o). let t = eq-eqb p.0 o same in let r = ap (slice_index refs) same in let w2 = w ∙ ap (λ v. cond v (slice_index refs p.0 + 1) (slice_index refs o)) t in let c = ap (λ v. cond {A = ℕ} v 1 0) t in omega (arith, r, w2, c, h))
    (λ (other : p.0 ≡ o → ⊥). let t = ne_eqb p.0 o other in let w2 = w ∙ ap (λ v. cond v (slice_index refs p.0 + 1) (slice_index refs o)) t in let c = ap (λ v. cond {A = ℕ} v 1 0) t in omega (arith, w2, c, h))
    (cases_eq p.0 o)
step refs (Some (Release p)) o a b fits h =
    let known = fits.released p refl in
    let live = known.1 in
    let w = entry_set refs p.0 o (slice_index refs p.0 - 1) 0 known.0 in
    ⊎_elim
    (λ (same : p.0 ≡ o). let t = eq-eqb p.0 o same in let r = ap (slice_index refs) same in let w2 = w ∙ ap (λ v. cond v (slice_index refs p.0 - 1) (slice_index refs o)) t in let c = ap (λ v. cond {A = ℕ} v 1 0) t in omega (arith, live, r, w2, c, h))
    (λ (other : p.0 ≡ o → ⊥). let t = ne_eqb p.0 o other in let w2 = w ∙ ap (λ v. cond v (slice_index refs p.0 - 1) (slice_index refs o)) t in let c = ap (λ v. cond {A = ℕ} v 1 0) t in omega (arith, w2, c, h))
    (cases_eq p.0 o)
step refs _ o a b fits h = omega (arith, h)

-- a release that is no misuse finds a reference
live : (plan : PlanView) (past : List Event) (v : MachineView) (p : Obj) → 0 < p.0 → p.0 < length plan.objects
    → list_any (is_released plan past) (p.0 ∷ []) ≡ false → ReferencesAre plan past v → 0 < refs_at v p.0
live plan past v p above low none ties =
    let c = ties.counted p.0 low in
    ⊎_elim
    (λ (gone : refs plan past p.0 ≡ 0).
    let root : not (p.0 == 0) ≡ true = ap not (ne_eqb p.0 0 (λ e. omega arith)) in
    let released : is_released plan past p.0 ≡ true = and_from (not (p.0 == 0)) (refs plan past p.0 == 0) root (eq-eqb (refs plan past p.0) 0 gone) in
    absurd (both_ways (list_any (is_released plan past) (p.0 ∷ [])) none (or_left (is_released plan past p.0) false released)))
    (λ (some : refs plan past p.0 ≡ 0 → ⊥).
    ⊎_elim (λ (z : refs_at v p.0 ≡ 0). absurd (some (omega (arith, c, z)))) (λ (n : refs_at v p.0 ≡ 0 → ⊥). omega (arith, n)) (cases_eq (refs_at v p.0) 0))
    (cases_eq (refs plan past p.0) 0)

named_low : (plan : PlanView) (p : ℕ) → (nat_lt 0 p && nat_lt p (length plan.objects)) ≡ true → (0 < p) × (p < length plan.objects)
named_low plan p known =
    let q = and_parts (nat_lt 0 p) (nat_lt p (length plan.objects)) known in (ltb-true 0 p q.0, ltb-true p (length plan.objects) q.1)

fits_at : (plan : PlanView) (past : List Event) (e : Event) (v : MachineView) → IsPlan plan → IsLawful plan (e ∷ past) → length v.refs ≡ length plan.objects
    → ReferencesAre plan past v → Fits v.refs (act_of plan e)
fits_at plan past e v valid lawful long ties = record {
  retained = λ p at. let q = named_low plan p.0 (recorded_fits plan e (Retain p) valid at) in let low = q.1 in omega (arith, low, long);
  released = λ p at.
      let q = named_low plan p.0 (recorded_fits plan e (Release p) valid at) in
      let low = q.1 in
      (omega (arith, low, long), live plan past v p q.0 q.1 (proper_parts plan past (Release p) (proper plan past e (Release p) lawful at)).0 ties);
}

pub references_step : (plan : PlanView) (past : List Event) (e : Event) (v : MachineView) → IsPlan plan → IsLawful plan (e ∷ past) → length v.refs ≡ length plan.objects
    → ReferencesAre plan past v → ReferencesAre plan (e ∷ past) (after plan v e)
references_step plan past e v valid lawful long ties = record {
  counted = λ o low.
      let r = count_by-cons (λ x. releases o (act_of plan x)) e past in
      let s = count_by-cons (λ x. retains o (act_of plan x)) e past in
      let c = step v.refs (act_of plan e) o _ _ (fits_at plan past e v valid lawful long ties) (ties.counted o low) in
      omega (arith, r, s, c);
}
