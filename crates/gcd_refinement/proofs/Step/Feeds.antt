-- Which read sources are live after an event, and so all numbers and flags of the whole.
use Rattle.std.proofs.Common.{◌≡◌, ℕ, ◌<◌, ◌==◌, Bool, true, false, not, ◌&&◌, ◌||◌, cond, List, ◌∷◌, length, Option, Some, None, refl, ap, sym, ◌∙◌, arith, ◌⊎◌, inl, inr, ne_eqb, ◌≢◌, set, get_or}
use Rattle.std.proofs.lemmas.Bool.{cases_eq}
use Rattle.gcd_plan.specs.PlanView.{PlanView}
use Rattle.gcd_plan.specs.Kinds.{has_kind, is_read_kind}
use Rattle.gcd_plan.specs.Validity.{IsPlan}
use Rattle.gcd_plan.specs.declared.numbers.Obj.{Obj}
use Rattle.gcd_event.specs.declared.event.Event.{Event}
use Rattle.gcd_history.specs.Runs.{act_of}
use Rattle.gcd_history.specs.Submitted.{cancels, is_cancelled}
use Rattle.gcd_history.specs.Holds.{is_active}
use Rattle.gcd_history.specs.Sources.{is_live_feed}
use Rattle.gcd_history.specs.Permitted.{IsLawful}
use Rattle.gcd_history.proofs.Permitted.Reasons.{allowed}
use Rattle.gcd_refinement.specs.MachineView.{MachineView, live_at}
use Rattle.gcd_refinement.specs.Shape.{PartsFit, OwnFit}
use Rattle.gcd_refinement.specs.Ties.{HoldsAre, GroupsAre, SourcesAre, BlockMarksAre, BlocksAre, TotalsAre}
use Rattle.gcd_refinement.specs.Submits.{activated_by, newly_cancelled}
use Rattle.gcd_refinement.specs.After.{after}
use Rattle.gcd_refinement.specs.AfterTotals.{live_begun, live_ended, live_after, is_misuse, is_halt}
use Rattle.gcd_refinement.proofs.Step.Holds.{fits_at}
use Rattle.gcd_refinement.proofs.Step.Timers.{is_obj, newly_by, newly_ended, cancels_low, newly_low, activated_low}
use Rattle.gcd_refinement.proofs.Step.Submits.{submits_are}
use Rattle.gcd_refinement.proofs.Step.Totals.{no_misuse_yet, no_halt_yet, is_misuse_last, is_halt_last, running_step, left_step}
use Rattle.std.proofs.Math.Bool.{and-true, and-false}
use Rattle.gcd_source.specs.SourcesView.{is_cancelled_at}
use Rattle.gcd_refinement.proofs.Lists.Writes.{entry_set}
use Rattle.gcd_refinement.proofs.Step.OwnArrays.{live_begun_long}

-- ## Truth values

grown : (a b : Bool) → a ≡ true → (a || b) ≡ true
grown a b h = ap (λ t. t || b) h

or_kept : (a b : Bool) → b ≡ true → (a || b) ≡ true
or_kept true b h = refl
or_kept false b h = h

-- what is cancelled now is not live, what is active now is so if it is not cancelled, and else all is as before
lives_on : (r a a2 c c2 : Bool) → (a ≡ true → a2 ≡ true) → (c ≡ true → c2 ≡ true)
    → cond (c2 && not c) false (cond ((a2 && not a) && (r && not c)) true (r && (a && not c))) ≡ (r && (a2 && not c2))
lives_on true true true true true more less = refl
lives_on true true true true false more less = let k = less refl in cc
lives_on true true true false true more less = refl
lives_on true true true false false more less = refl
lives_on true true false true true more less = let k = more refl in cc
lives_on true true false true false more less = let k = more refl in cc
lives_on true true false false true more less = let k = more refl in cc
lives_on true true false false false more less = let k = more refl in cc
lives_on true false true true true more less = refl
lives_on true false true true false more less = let k = less refl in cc
lives_on true false true false true more less = refl
lives_on true false true false false more less = refl
lives_on true false false true true more less = refl
lives_on true false false true false more less = let k = less refl in cc
lives_on true false false false true more less = refl
lives_on true false false false false more less = refl
lives_on false true true true true more less = refl
lives_on false true true true false more less = let k = less refl in cc
lives_on false true true false true more less = refl
lives_on false true true false false more less = refl
lives_on false true false true true more less = let k = more refl in cc
lives_on false true false true false more less = let k = more refl in cc
lives_on false true false false true more less = let k = more refl in cc
lives_on false true false false false more less = let k = more refl in cc
lives_on false false true true true more less = refl
lives_on false false true true false more less = let k = less refl in cc
lives_on false false true false true more less = refl
lives_on false false true false false more less = refl
lives_on false false false true true more less = refl
lives_on false false false true false more less = let k = less refl in cc
lives_on false false false false true more less = refl
lives_on false false false false false more less = refl

-- ## The flags

ended_at : (live : List Bool) (o : Option Obj) (s : ℕ) → ((p : Obj) → o ≡ Some p → p.0 < length live) → get_or (live_ended live o) s false ≡ cond (is_obj s o) false (get_or live s false)
ended_at live None s low = refl
ended_at live (Some p) s low = entry_set live p.0 s false false (low p refl)

begun_at : (plan : PlanView) (v : MachineView) (o : Option Obj) (s : ℕ) → ((p : Obj) → o ≡ Some p → p.0 < length v.live)
    → get_or (live_begun plan v o) s false ≡ cond (is_obj s o && (has_kind is_read_kind plan s && not (is_cancelled_at v.sources s))) true (get_or v.live s false)
begun_at plan v None s low = refl
begun_at plan v (Some p) s low =
    set_if (starts p.0)
    ∙ ap (λ w. cond w true (get_or v.live s false)) (moved (cases_eq p.0 s))
  where
    starts : ℕ → Bool
    starts k = has_kind is_read_kind plan k && not (is_cancelled_at v.sources k)

    set_if : (t : Bool) → get_or (cond t (set v.live p.0 true) v.live) s false ≡ cond ((p.0 == s) && t) true (get_or v.live s false)
    set_if true = entry_set v.live p.0 s true false (low p refl) ∙ ap (λ w. cond w true (get_or v.live s false)) (sym (and-true (p.0 == s)))
    set_if false = ap (λ w. cond w true (get_or v.live s false)) (sym (and-false (p.0 == s)))

    moved : (p.0 ≡ s) ⊎ (p.0 ≢ s) → ((p.0 == s) && starts p.0) ≡ ((p.0 == s) && starts s)
    moved (inl same) = ap (λ k. (p.0 == s) && starts k) same
    moved (inr other) = ap (λ t. t && starts p.0) (ne_eqb p.0 s other) ∙ sym (ap (λ t. t && starts s) (ne_eqb p.0 s other))

live_step : (plan : PlanView) (past : List Event) (e : Event) (v : MachineView) → IsPlan plan → IsLawful plan (e ∷ past) → PartsFit plan v → OwnFit plan v → HoldsAre plan past v → SourcesAre plan past v
    → ((s : ℕ) → live_at v s ≡ is_live_feed plan past s) → (s : ℕ) → get_or (live_after plan v e) s false ≡ is_live_feed plan (e ∷ past) s
unfolding is_live_feed
live_step plan past e v valid lawful fit own holds sources tie s =
    let fits = fits_at plan past e v valid lawful fit holds in
    let on = activated_by v (act_of plan e) in
    let off = newly_cancelled v (cancels plan e) in
    let r = has_kind is_read_kind plan s in
    let a = is_active plan past s in
    let a2 = is_active plan (e ∷ past) s in
    let c = is_cancelled plan past s in
    let c2 = is_cancelled plan (e ∷ past) s in
    let long = own.live in
    let wide = fit.active in
    let begun_long = live_begun_long plan v on in
    let low_on : (p : Obj) → on ≡ Some p → p.0 < length v.live = λ p at. let l = activated_low plan v (act_of plan e) p fits at in omega (arith, l, wide, long) in
    let low_off : (p : Obj) → off ≡ Some p → p.0 < length (live_begun plan v on) = λ p at. let l = newly_low v (cancels plan e) p (length plan.objects) (λ q k. cancels_low plan past e q valid lawful k) at in omega (arith, l, long, begun_long) in
    let new_on : is_obj s on ≡ (a2 && not a) = sym (newly_by plan past v (act_of plan e) s fits holds) in
    let new_off : is_obj s off ≡ (c2 && not c) = sym (newly_ended plan past v (cancels plan e) s sources.cancelled) in
    ended_at (live_begun plan v on) off s low_off
    ∙ (ap (λ x. cond (is_obj s off) false x) (begun_at plan v on s low_on)
    ∙ (ap (λ x. cond (is_obj s off) false (cond (is_obj s on && (r && not x)) true (get_or v.live s false))) (sources.cancelled s)
    ∙ (ap (λ x. cond (is_obj s off) false (cond (is_obj s on && (r && not c)) true x)) (tie s)
    ∙ (ap (λ x. cond (is_obj s off) false (cond (x && (r && not c)) true (r && (a && not c)))) new_on
    ∙ (ap (λ x. cond x false (cond ((a2 && not a) && (r && not c)) true (r && (a && not c)))) new_off
    ∙ lives_on r a a2 c c2 (λ h. grown a _ h) (λ h. or_kept _ c h))))))

-- ## The step

pub totals_step : (plan : PlanView) (past : List Event) (e : Event) (v : MachineView) → IsPlan plan → IsLawful plan (e ∷ past) → PartsFit plan v → OwnFit plan v → HoldsAre plan past v → GroupsAre plan past v → BlocksAre plan past v → SourcesAre plan past v → BlockMarksAre plan past v
    → TotalsAre plan past v → TotalsAre plan (e ∷ past) (after plan v e)
totals_step plan past e v valid lawful fit own holds groups blocks sources block_marks ties =
    let goes_on = (allowed plan past e lawful.1).goes_on in
    let same = submits_are plan past e v valid lawful fit own groups blocks sources block_marks in
    let len = ties.len in
    record {
      running = running_step plan past e v lawful ties.running;
      left = left_step plan past e v valid lawful same ties.left;
      live = live_step plan past e v valid lawful fit own holds sources ties.live;
      misused = ap (λ t. t || is_misuse e) (ties.misused ∙ no_misuse_yet past goes_on) ∙ is_misuse_last e past;
      halted = ap (λ t. t || is_halt e) (ties.halted ∙ no_halt_yet past goes_on) ∙ is_halt_last e past;
      len = omega (arith, len);
    }
