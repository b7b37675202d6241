-- The time, and when objects were activated and cancelled, after an event; and which sources are cancelled.
use Rattle.std.proofs.Common.{◌≡◌, ℕ, ◌<◌, ◌==◌, Bool, true, false, not, ◌&&◌, ◌||◌, cond, List, ◌∷◌, length, Option, Some, None, refl, ap, sym, ◌∙◌, subst, arith, ⊎_elim, eq-eqb, ne_eqb}
use Rattle.std.specs.Option.{option_map_or}
use Rattle.std.proofs.lemmas.Bool.{cases_eq}
use Rattle.std.proofs.lemmas.Option.{same_Some}
use Rattle.gcd_plan.specs.PlanView.{PlanView}
use Rattle.gcd_plan.specs.Kinds.{is_source, is_source_kind, is_read_kind}
use Rattle.gcd_plan.specs.Validity.{IsPlan}
use Rattle.gcd_plan.specs.declared.act.Act.{Act}
use Rattle.gcd_plan.specs.declared.act.Act.TheVariants.{Activate, Resume, Cancel}
use Rattle.gcd_plan.specs.declared.numbers.Obj.{Obj}
use Rattle.gcd_plan.proofs.Within.{has_object}
use Rattle.gcd_event.specs.declared.event.Event.{Event}
use Rattle.gcd_event.specs.declared.event.Event.TheVariants.{Act as Acted, Tick, FeedEnd}
use Rattle.gcd_history.specs.Runs.{act_of}
use Rattle.gcd_history.specs.Submitted.{cancels, cancelled_by, is_cancelled}
use Rattle.gcd_history.specs.Holds.{hold, is_active, activates}
use Rattle.gcd_history.specs.Timers as timers
use Rattle.gcd_history.specs.Permitted.{IsLawful}
use Rattle.gcd_history.proofs.Permitted.Reasons.{allowed}
use Rattle.gcd_history.proofs.Blocks.SubmittedOnNodes.{recorded_fits}
use Rattle.gcd_hold.specs.HoldsView.{hold_at, is_active_at}
use Rattle.gcd_source.specs.SourcesView.{is_cancelled_at}
use Rattle.gcd_timer.specs.TimersView.{TimersView, activated_at, cancelled_at}
use Rattle.gcd_refinement.specs.MachineView.{MachineView}
use Rattle.gcd_refinement.specs.Shape.{PartsFit}
use Rattle.gcd_refinement.specs.Ties.{HoldsAre, SourcesAre, TimersAre}
use Rattle.gcd_refinement.specs.Submits.{if_inactive, activated_by, newly_cancelled}
use Rattle.gcd_refinement.specs.After.{ticked, activated, timer_cancelled, timers_after, source_cancelled, values_after, sources_after, after}
use Rattle.gcd_refinement.proofs.Lists.Writes.{entry_set}
use Rattle.gcd_refinement.proofs.Step.Holds.{Fits, fits_at}

-- the object is o
abbrev pub is_obj : ℕ → Option Obj → Bool
is_obj o found = option_map_or (λ p. p.0 == o) found false

never_new : (a : Bool) → ((a || false) && not a) ≡ false
never_new true = refl
never_new false = refl

now_new : (a : Bool) → ((a || true) && not a) ≡ not a
now_new true = refl
now_new false = refl

-- ## What an act activates

-- the object itself, where it is inactive
inactive_is : (plan : PlanView) (past : List Event) (v : MachineView) (p : Obj) (s : ℕ) → HoldsAre plan past v → p.0 ≡ s → not (is_active plan past s) ≡ is_obj s (if_inactive v p)
inactive_is plan past v p s ties same =
    let a : is_active_at v.holds p.0 ≡ is_active plan past s = ap (is_active_at v.holds) same ∙ ties.active s in
    let t = eq-eqb p.0 s same in
    elim (is_active plan past s) as (λ x. is_active_at v.holds p.0 ≡ x → not x ≡ is_obj s (if_inactive v p)) [
      | true ↦ λ e. sym (ap (λ u. is_obj s (cond u None (Some p))) e)
      | false ↦ λ e. sym (ap (λ u. is_obj s (cond u None (Some p))) e ∙ t)
    ] a

-- and no other
other_not : (v : MachineView) (p : Obj) (s : ℕ) → (p.0 ≡ s → ⊥) → is_obj s (if_inactive v p) ≡ false
other_not v p s other = elim (is_active_at v.holds p.0) as (λ u. is_obj s (cond u None (Some p)) ≡ false) [ true ↦ refl | false ↦ ne_eqb p.0 s other ]

pub newly_by : (plan : PlanView) (past : List Event) (v : MachineView) (act : Option Act) (s : ℕ) → Fits plan v.holds act → HoldsAre plan past v
    → ((is_active plan past s || activates s (is_source plan s && hold plan past s == 0) act) && not (is_active plan past s)) ≡ is_obj s (activated_by v act)
newly_by plan past v (Some (Activate p)) s fits ties =
    ⊎_elim
    (λ (same : p.0 ≡ s). ap (λ u. (is_active plan past s || u) && not (is_active plan past s)) (eq-eqb p.0 s same) ∙ (now_new (is_active plan past s) ∙ inactive_is plan past v p s ties same))
    (λ (other : p.0 ≡ s → ⊥). ap (λ u. (is_active plan past s || u) && not (is_active plan past s)) (ne_eqb p.0 s other) ∙ (never_new (is_active plan past s) ∙ sym (other_not v p s other)))
    (cases_eq p.0 s)
newly_by plan past v (Some (Resume p)) s fits ties =
    let source = (fits.resumed p refl).2 in
    ⊎_elim
    (λ (zero : hold_at v.holds p.0 ≡ 0).
    let t = eq-eqb (hold_at v.holds p.0) 0 zero in
    ⊎_elim
    (λ (same : p.0 ≡ s).
    let one : is_source plan s ≡ true = subst (λ n. is_source plan n ≡ true) same (source zero) in
    let two : (hold plan past s == 0) ≡ true = eq-eqb (hold plan past s) 0 (sym (ties.holds s) ∙ (ap (hold_at v.holds) (sym same) ∙ zero)) in
    ap (λ u. (is_active plan past s || (u && (is_source plan s && hold plan past s == 0))) && not (is_active plan past s)) (eq-eqb p.0 s same)
    ∙ (ap (λ u. (is_active plan past s || (u && hold plan past s == 0)) && not (is_active plan past s)) one
    ∙ (ap (λ u. (is_active plan past s || u) && not (is_active plan past s)) two
    ∙ (now_new (is_active plan past s) ∙ (inactive_is plan past v p s ties same ∙ ap (λ u. is_obj s (cond u (if_inactive v p) None)) (sym t))))))
    (λ (other : p.0 ≡ s → ⊥).
    ap (λ u. (is_active plan past s || (u && (is_source plan s && hold plan past s == 0))) && not (is_active plan past s)) (ne_eqb p.0 s other)
    ∙ (never_new (is_active plan past s) ∙ (sym (other_not v p s other) ∙ ap (λ u. is_obj s (cond u (if_inactive v p) None)) (sym t))))
    (cases_eq p.0 s))
    (λ (some : hold_at v.holds p.0 ≡ 0 → ⊥).
    let t = ne_eqb (hold_at v.holds p.0) 0 some in
    let none : is_obj s (activated_by v (Some (Resume p))) ≡ false = ap (λ u. is_obj s (cond u (if_inactive v p) None)) t in
    ⊎_elim
    (λ (same : p.0 ≡ s).
    let two : (hold plan past s == 0) ≡ false = ne_eqb (hold plan past s) 0 (λ z. some (ap (hold_at v.holds) same ∙ (ties.holds s ∙ z))) in
    ap (λ u. (is_active plan past s || (u && (is_source plan s && hold plan past s == 0))) && not (is_active plan past s)) (eq-eqb p.0 s same)
    ∙ (ap (λ u. (is_active plan past s || (is_source plan s && u)) && not (is_active plan past s)) two
    ∙ (ap (λ u. (is_active plan past s || u) && not (is_active plan past s)) (off (is_source plan s)) ∙ (never_new (is_active plan past s) ∙ sym none))))
    (λ (other : p.0 ≡ s → ⊥).
    ap (λ u. (is_active plan past s || (u && (is_source plan s && hold plan past s == 0))) && not (is_active plan past s)) (ne_eqb p.0 s other)
    ∙ (never_new (is_active plan past s) ∙ sym none))
    (cases_eq p.0 s))
    (cases_eq (hold_at v.holds p.0) 0)
  where
    off : (x : Bool) → (x && false) ≡ false
    off true = refl
    off false = refl
newly_by plan past v _ s fits ties = never_new (is_active plan past s)

-- ## Writes at an object, if there is one

activated_set : (view : TimersView) (o : Option Obj) (s : ℕ) → ((p : Obj) → o ≡ Some p → p.0 < length view.activated) → activated_at (activated view o) s ≡ cond (is_obj s o) (Some view.moment) (activated_at view s)
activated_set view None s low = refl
activated_set view (Some p) s low = entry_set view.activated p.0 s (Some view.moment) None (low p refl)

cancelled_set : (view : TimersView) (o : Option Obj) (s : ℕ) → ((p : Obj) → o ≡ Some p → p.0 < length view.cancelled) → cancelled_at (timer_cancelled view o) s ≡ cond (is_obj s o) (Some view.moment) (cancelled_at view s)
cancelled_set view None s low = refl
cancelled_set view (Some p) s low = entry_set view.cancelled p.0 s (Some view.moment) None (low p refl)

kept_activated : (view : TimersView) (o : Option Obj) (s : ℕ) → activated_at (timer_cancelled view o) s ≡ activated_at view s
kept_activated view None s = refl
kept_activated view (Some p) s = refl

kept_moment : (view : TimersView) (o : Option Obj) → (activated view o).moment ≡ view.moment
kept_moment view None = refl
kept_moment view (Some p) = refl

end_moment : (view : TimersView) (o : Option Obj) → (timer_cancelled view o).moment ≡ view.moment
end_moment view None = refl
end_moment view (Some p) = refl

kept_cancelled : (view : TimersView) (o : Option Obj) (s : ℕ) → cancelled_at (activated view o) s ≡ cancelled_at view s
kept_cancelled view None s = refl
kept_cancelled view (Some p) s = refl

kept_cancelled_long : (view : TimersView) (o : Option Obj) → length (activated view o).cancelled ≡ length view.cancelled
kept_cancelled_long view None = refl
kept_cancelled_long view (Some p) = refl

-- ## What an event cancels

pub newly_ended : (plan : PlanView) (past : List Event) (v : MachineView) (o : Option Obj) (s : ℕ) → ((k : ℕ) → is_cancelled_at v.sources k ≡ is_cancelled plan past k)
    → ((is_obj s o || is_cancelled plan past s) && not (is_cancelled plan past s)) ≡ is_obj s (newly_cancelled v o)
newly_ended plan past v None s ties = elim (is_cancelled plan past s) as (λ x. (x && not x) ≡ false) [ true ↦ refl | false ↦ refl ]
newly_ended plan past v (Some p) s ties =
    ⊎_elim
    (λ (same : p.0 ≡ s).
    let t = eq-eqb p.0 s same in
    let c : is_cancelled_at v.sources p.0 ≡ is_cancelled plan past s = ap (is_cancelled_at v.sources) same ∙ ties s in
    ap (λ u. (u || is_cancelled plan past s) && not (is_cancelled plan past s)) t
    ∙ elim (is_cancelled plan past s) as (λ x. is_cancelled_at v.sources p.0 ≡ x → not x ≡ is_obj s (newly_cancelled v (Some p))) [
      | true ↦ λ e. sym (ap (λ u. is_obj s (cond u None (Some p))) e)
      | false ↦ λ e. sym (ap (λ u. is_obj s (cond u None (Some p))) e ∙ t)
    ] c)
    (λ (other : p.0 ≡ s → ⊥).
    let t = ne_eqb p.0 s other in
    ap (λ u. (u || is_cancelled plan past s) && not (is_cancelled plan past s)) t
    ∙ (elim (is_cancelled plan past s) as (λ x. (x && not x) ≡ false) [ true ↦ refl | false ↦ refl ]
    ∙ sym (elim (is_cancelled_at v.sources p.0) as (λ u. is_obj s (cond u None (Some p)) ≡ false) [ true ↦ refl | false ↦ t ])))
    (cases_eq p.0 s)

pub cancels_low : (plan : PlanView) (past : List Event) (e : Event) (p : Obj) → IsPlan plan → IsLawful plan (e ∷ past) → cancels plan e ≡ Some p → p.0 < length plan.objects
cancels_low plan past (FeedEnd s) p valid lawful at =
    subst (λ o. o.0 < length plan.objects) (same_Some s p at) (has_object is_read_kind plan s.0 (allowed plan past (FeedEnd s) lawful.1).known)
cancels_low plan past (Acted w r i) p valid lawful at = by_act (act_of plan (Acted w r i)) refl at
  where
    by_act : (act : Option Act) → act_of plan (Acted w r i) ≡ act → cancelled_by act ≡ Some p → p.0 < length plan.objects
    by_act (Some (Cancel s)) is c = subst (λ o. o.0 < length plan.objects) (same_Some s p c) (has_object is_source_kind plan s.0 (recorded_fits plan (Acted w r i) (Cancel s) valid is))
    by_act _ is c = cc
cancels_low plan past e p valid lawful at = cc

pub newly_low : (v : MachineView) (o : Option Obj) (p : Obj) (n : ℕ) → ((q : Obj) → o ≡ Some q → q.0 < n) → newly_cancelled v o ≡ Some p → p.0 < n
newly_low v None p n low at = cc
newly_low v (Some q) p n low at =
    elim (is_cancelled_at v.sources q.0) as (λ u. cond u None (Some q) ≡ Some p → p.0 < n) [ true ↦ λ e. cc | false ↦ λ e. subst (λ k. k.0 < n) (same_Some q p e) (low q refl) ] at

inactive_low : (v : MachineView) (q p : Obj) (n : ℕ) → q.0 < n → if_inactive v q ≡ Some p → p.0 < n
inactive_low v q p n low at = elim (is_active_at v.holds q.0) as (λ u. cond u None (Some q) ≡ Some p → p.0 < n) [ true ↦ λ e. cc | false ↦ λ e. subst (λ k. k.0 < n) (same_Some q p e) low ] at

pub activated_low : (plan : PlanView) (v : MachineView) (act : Option Act) (p : Obj) → Fits plan v.holds act → activated_by v act ≡ Some p → p.0 < length v.holds.active
activated_low plan v (Some (Activate q)) p fits at = inactive_low v q p (length v.holds.active) (fits.activated q refl) at
activated_low plan v (Some (Resume q)) p fits at =
    elim (hold_at v.holds q.0 == 0) as (λ u. cond u (if_inactive v q) None ≡ Some p → p.0 < length v.holds.active) [ true ↦ λ e. inactive_low v q p (length v.holds.active) (fits.resumed q refl).1 e | false ↦ λ e. cc ] at
activated_low plan v _ p fits at = cc

-- ## The steps

pub cancelled_step : (plan : PlanView) (past : List Event) (e : Event) (v : MachineView) (s : ℕ) → IsPlan plan → IsLawful plan (e ∷ past) → length (values_after plan v e).cancelled ≡ length plan.objects
    → is_cancelled_at (values_after plan v e) s ≡ is_cancelled plan past s → is_cancelled_at (sources_after plan v e) s ≡ is_cancelled plan (e ∷ past) s
cancelled_step plan past e v s valid lawful long before = by (cancels plan e) (λ p at. cancels_low plan past e p valid lawful at)
  where
    by : (o : Option Obj) → ((p : Obj) → o ≡ Some p → p.0 < length plan.objects) → is_cancelled_at (source_cancelled (values_after plan v e) o) s ≡ (is_obj s o || is_cancelled plan past s)
    by None low = before
    by (Some p) low =
        let here = low p refl in
        entry_set (values_after plan v e).cancelled p.0 s true false (omega (arith, here, long))
        ∙ (ap (λ x. cond (p.0 == s) true x) before ∙ elim (p.0 == s) as (λ u. cond u true (is_cancelled plan past s) ≡ (u || is_cancelled plan past s)) [ true ↦ refl | false ↦ refl ])

timers_by : (plan : PlanView) (past : List Event) (e : Event) (v : MachineView) → IsPlan plan → IsLawful plan (e ∷ past) → PartsFit plan v → HoldsAre plan past v → SourcesAre plan past v → TimersAre plan past v
    → ticked v.timers e ≡ v.timers → timers.now (e ∷ past) ≡ timers.now past → TimersAre plan (e ∷ past) (after plan v e)
timers_by plan past e v valid lawful fit holds sources ties still stays =
    let fits = fits_at plan past e v valid lawful fit holds in
    let on = activated_by v (act_of plan e) in
    let off = newly_cancelled v (cancels plan e) in
    let wide = fit.active in
    let long = fit.activations in
    let tall = fit.cancellations in
    let low : (p : Obj) → on ≡ Some p → p.0 < length v.timers.activated = λ p at. let l = activated_low plan v (act_of plan e) p fits at in omega (arith, l, wide, long) in
    let below : (p : Obj) → off ≡ Some p → p.0 < length (activated v.timers on).cancelled = λ p at.
    let l = newly_low v (cancels plan e) p (length plan.objects) (λ q k. cancels_low plan past e q valid lawful k) at in let k = kept_cancelled_long v.timers on in omega (arith, l, tall, k) in
    let start : timers_after plan v e ≡ timer_cancelled (activated v.timers on) off = ap (λ t. timer_cancelled (activated t on) off) still in
    record {
      moment = ap (λ t. t.moment) start ∙ (end_moment (activated v.timers on) off ∙ (kept_moment v.timers on ∙ (ties.moment ∙ sym stays)));
      activated = λ s.
          ap (λ t. activated_at t s) start
          ∙ (kept_activated (activated v.timers on) off s
          ∙ (activated_set v.timers on s low
          ∙ (ap (λ u. cond u (Some v.timers.moment) (activated_at v.timers s)) (sym (newly_by plan past v (act_of plan e) s fits holds))
          ∙ (ap (λ n. cond (is_active plan (e ∷ past) s && not (is_active plan past s)) (Some n) (activated_at v.timers s)) ties.moment
          ∙ ap (λ x. cond (is_active plan (e ∷ past) s && not (is_active plan past s)) (Some (timers.now past)) x) (ties.activated s)))));
      cancelled = λ s.
          ap (λ t. cancelled_at t s) start
          ∙ (cancelled_set (activated v.timers on) off s below
          ∙ (ap (λ u. cond u (Some (activated v.timers on).moment) (cancelled_at (activated v.timers on) s)) (sym (newly_ended plan past v (cancels plan e) s sources.cancelled))
          ∙ (ap (λ n. cond (is_cancelled plan (e ∷ past) s && not (is_cancelled plan past s)) (Some n) (cancelled_at (activated v.timers on) s)) (kept_moment v.timers on ∙ ties.moment)
          ∙ ap (λ x. cond (is_cancelled plan (e ∷ past) s && not (is_cancelled plan past s)) (Some (timers.now past)) x) (kept_cancelled v.timers on s ∙ ties.cancelled s))));
    }

pub timers_step : (plan : PlanView) (past : List Event) (e : Event) (v : MachineView) → IsPlan plan → IsLawful plan (e ∷ past) → PartsFit plan v → HoldsAre plan past v → SourcesAre plan past v → TimersAre plan past v
    → TimersAre plan (e ∷ past) (after plan v e)
timers_step plan past (Tick t) v valid lawful fit holds sources ties = record {
  moment = refl;
  activated = λ s. ties.activated s ∙ sym (ap (λ u. cond u (Some (timers.now past)) (timers.activated_at plan past s)) (never_new (is_active plan past s)));
  cancelled = λ s. ties.cancelled s ∙ sym (ap (λ u. cond u (Some (timers.now past)) (timers.cancelled_at plan past s)) (elim (is_cancelled plan past s) as (λ x. (x && not x) ≡ false) [ true ↦ refl | false ↦ refl ]));
}
timers_step plan past e v valid lawful fit holds sources ties = timers_by plan past e v valid lawful fit holds sources ties refl refl
