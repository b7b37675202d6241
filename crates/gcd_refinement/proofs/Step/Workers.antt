-- Which runs the workers have after an event.
use Rattle.std.proofs.Common.{◌≡◌, ℕ, ◌==◌, Bool, true, false, not, ◌&&◌, ◌||◌, cond, List, ◌∷◌, get_or, set, Option, Some, None, is_some, is_none, refl, ap, sym, ◌∙◌, subst, arith, ⊎_elim, eq-eqb, ne_eqb}
use Rattle.std.specs.Option.{option_map_or}
use Rattle.std.proofs.lemmas.Bool.{cases_eq, and_parts, both_ways, ltb-true, eqb-true, false_from_ne_true}
use Rattle.std.proofs.Math.Bool.{and-false}
use Rattle.gcd_plan.specs.PlanView.{PlanView}
use Rattle.gcd_plan.specs.declared.numbers.Blk.{Blk}
use Rattle.gcd_plan.specs.declared.numbers.Obj.{Obj}
use Rattle.gcd_plan.specs.declared.numbers.Run.{Run}
use Rattle.gcd_plan.specs.declared.numbers.Run.TheVariants.{Block, Source}
use Rattle.gcd_plan.specs.declared.reason.Reason.{Reason}
use Rattle.gcd_event.specs.declared.event.Event.{Event}
use Rattle.gcd_event.specs.declared.event.Event.TheVariants.{Start, Act as Acted, Wake, End, Deliver, DeliverEnd}
use Rattle.gcd_history.specs.Runs.{same_run, is_open, act_at, last_worker}
use Rattle.gcd_history.specs.Parked.{is_parking, awaited_by, parked_by, awaited, is_parked, has_run, is_busy}
use Rattle.gcd_history.specs.Permitted.{IsLawful, is_worker}
use Rattle.gcd_history.proofs.Runs.OneRun.{run_facts, is_last, idle_has_none, one_run}
use Rattle.gcd_history.proofs.Permitted.Reasons.{allowed, at_start, at_act, at_wake, at_end, at_deliver, at_deliver_end}
use Rattle.gcd_history.proofs.Runs.Open.{same_run-true, same_run-refl, is_open-step}
use Rattle.gcd_history.proofs.HeldRuns.Taking.{awaits_where_parks}
use Rattle.gcd_refinement.specs.MachineView.{MachineView, at_worker}
use Rattle.gcd_refinement.specs.Shape.{OwnFit}
use Rattle.gcd_refinement.specs.Ties.{WorkersAre, is_run}
use Rattle.gcd_refinement.specs.After.{after}
use Rattle.gcd_refinement.specs.AfterTotals.{workers_after}
use Rattle.gcd_refinement.proofs.Lists.Writes.{entry_set}
use Rattle.gcd_history.proofs.Runs.OpenOnce.{shut_at_deliver}
use Rattle.gcd_refinement.proofs.Step.Waits.{unopened, unparked}
use Rattle.gcd_plan.specs.Limits.{max_workers}

-- ## What makes a run the worker's

has_by : (plan : PlanView) (past : List Event) (w : ℕ) (run : Run) (o p l : Bool) → is_open past run ≡ o → is_none (parked_by plan past run) ≡ p → is_last past run w ≡ l → has_run plan past w run ≡ (o && (p && l))
unfolding has_run
has_by plan past w run o p l open_is parked_is last_is =
    ap (λ t. t && (is_none (parked_by plan past run) && is_last past run w)) open_is ∙ (ap (λ t. o && (t && is_last past run w)) parked_is ∙ ap (λ t. o && (p && t)) last_is)

has_same : (plan : PlanView) (past : List Event) (e : Event) (w : ℕ) (run : Run) → is_open (e ∷ past) run ≡ is_open past run → is_none (parked_by plan (e ∷ past) run) ≡ is_none (parked_by plan past run) → last_worker (e ∷ past) run ≡ last_worker past run
    → has_run plan (e ∷ past) w run ≡ has_run plan past w run
has_same plan past e w run open_is parked_is last_is =
    has_by plan (e ∷ past) w run (is_open past run) (is_none (parked_by plan past run)) (is_last past run w) open_is parked_is (ap (λ o. option_map_or (λ u. u == w) o false) last_is)
    ∙ sym (has_by plan past w run (is_open past run) (is_none (parked_by plan past run)) (is_last past run w) refl refl refl)

-- ## A worker takes a run

taken : (plan : PlanView) (past : List Event) (e : Event) (u w : ℕ) (r run : Run) → (same_run r run ≡ true → has_run plan (e ∷ past) w run ≡ (u == w)) → (same_run r run ≡ false → has_run plan (e ∷ past) w run ≡ has_run plan past w run)
    → (same_run r run ≡ true → has_run plan past w run ≡ false) → is_busy plan past u ≡ false → has_run plan (e ∷ past) w run ≡ cond (u == w) (same_run r run) (has_run plan past w run)
taken plan past e u w r run here there none idle =
    elim (same_run r run) as (λ t. same_run r run ≡ t → has_run plan (e ∷ past) w run ≡ cond (u == w) t (has_run plan past w run)) [
      | true ↦ λ same.
          here same ∙ elim (u == w) as (λ t. has_run plan past w run ≡ false → t ≡ cond t true (has_run plan past w run)) [ true ↦ λ k. refl | false ↦ λ k. sym k ] (none same)
      | false ↦ λ other.
          there other
          ∙ ⊎_elim
          (λ (it : u ≡ w).
          let shut : has_run plan past w run ≡ false = false_from_ne_true (has_run plan past w run) (λ own. idle_has_none plan past u run idle (subst (λ n. has_run plan past n run ≡ true) (sym it) own)) in
          shut ∙ ap (λ t. cond t false (has_run plan past w run)) (sym (eq-eqb u w it)))
          (λ (apart : u ≡ w → ⊥). ap (λ t. cond t false (has_run plan past w run)) (sym (ne_eqb u w apart)))
          (cases_eq u w)
    ] refl

-- ## A worker is freed

last_one : (past : List Event) (u w : ℕ) (r : Run) → is_last past r u ≡ true → is_last past r w ≡ true → u ≡ w
last_one past u w r one two =
    elim (last_worker past r) as (λ o. option_map_or (λ k. k == u) o false ≡ true → option_map_or (λ k. k == w) o false ≡ true → u ≡ w) [
      | None ↦ λ h k. cc
      | Some n ↦ λ h k. sym (eqb-true n u h) ∙ eqb-true n w k
    ] one two

freed : (plan : PlanView) (past : List Event) (e : Event) (u w : ℕ) (r run : Run) → IsLawful plan past → (same_run r run ≡ true → has_run plan (e ∷ past) w run ≡ false) → (same_run r run ≡ false → has_run plan (e ∷ past) w run ≡ has_run plan past w run)
    → has_run plan past u r ≡ true → has_run plan (e ∷ past) w run ≡ cond (u == w) false (has_run plan past w run)
freed plan past e u w r run lawful here there own =
    elim (same_run r run) as (λ t. same_run r run ≡ t → has_run plan (e ∷ past) w run ≡ cond (u == w) false (has_run plan past w run)) [
      | true ↦ λ same.
          here same
          ∙ ⊎_elim
          (λ (it : u ≡ w). ap (λ t. cond t false (has_run plan past w run)) (sym (eq-eqb u w it)))
          (λ (apart : u ≡ w → ⊥).
          let none : has_run plan past w run ≡ false = false_from_ne_true (has_run plan past w run) (λ k.
          let mine = subst (λ q. has_run plan past w q ≡ true) (sym (same_run-true r run same)) k in
          apart (last_one past u w r (run_facts plan past u r own).last (run_facts plan past w r mine).last)) in
          sym none ∙ ap (λ t. cond t false (has_run plan past w run)) (sym (ne_eqb u w apart)))
          (cases_eq u w)
      | false ↦ λ other.
          there other
          ∙ ⊎_elim
          (λ (it : u ≡ w).
          let none : has_run plan past w run ≡ false = false_from_ne_true (has_run plan past w run) (λ k.
          let is = one_run plan past lawful w r run (subst (λ n. has_run plan past n r ≡ true) it own) k in
          both_ways (same_run r run) other (subst (λ q. same_run r q ≡ true) is (same_run-refl r))) in
          none ∙ ap (λ t. cond t false (has_run plan past w run)) (sym (eq-eqb u w it)))
          (λ (apart : u ≡ w → ⊥). ap (λ t. cond t false (has_run plan past w run)) (sym (ne_eqb u w apart)))
          (cases_eq u w)
    ] refl

-- ## The events

by_start : (plan : PlanView) (past : List Event) (u w : ℕ) (b : Blk) (run : Run) → IsLawful plan (Start u b ∷ past) → has_run plan (Start u b ∷ past) w run ≡ cond (u == w) (same_run (Block b) run) (has_run plan past w run)
by_start plan past u w b run lawful =
    let step = is_open-step (Start u b) past run in
    taken plan past (Start u b) u w (Block b) run
    (λ same. has_by plan (Start u b ∷ past) w run true true (u == w) (step ∙ ap (λ t. t || is_open past run) same) (ap (λ t. is_none (cond t None (parked_by plan past run))) same) (ap (λ t. option_map_or (λ k. k == w) (cond t (Some u) (last_worker past run)) false) same))
    (λ other. has_same plan past (Start u b) w run (step ∙ ap (λ t. t || is_open past run) other) (ap (λ t. is_none (cond t None (parked_by plan past run))) other) (ap (λ t. cond t (Some u) (last_worker past run)) other))
    (λ same. has_by plan past w run false (is_none (parked_by plan past run)) (is_last past run w) (subst (λ q. is_open past q ≡ false) (same_run-true (Block b) run same) (unopened plan past u b lawful)) refl refl)
    (at_start plan past u b lawful.1).idle

by_deliver : (plan : PlanView) (past : List Event) (u w : ℕ) (s : Obj) (run : Run) → IsLawful plan (Deliver u s ∷ past) → has_run plan (Deliver u s ∷ past) w run ≡ cond (u == w) (same_run (Source s) run) (has_run plan past w run)
by_deliver plan past u w s run lawful =
    let step = is_open-step (Deliver u s) past run in
    taken plan past (Deliver u s) u w (Source s) run
    (λ same. has_by plan (Deliver u s ∷ past) w run true true (u == w) (step ∙ ap (λ t. t || is_open past run) same) (ap (λ t. is_none (cond t None (parked_by plan past run))) same) (ap (λ t. option_map_or (λ k. k == w) (cond t (Some u) (last_worker past run)) false) same))
    (λ other. has_same plan past (Deliver u s) w run (step ∙ ap (λ t. t || is_open past run) other) (ap (λ t. is_none (cond t None (parked_by plan past run))) other) (ap (λ t. cond t (Some u) (last_worker past run)) other))
    (λ same. has_by plan past w run false (is_none (parked_by plan past run)) (is_last past run w) (subst (λ q. is_open past q ≡ false) (same_run-true (Source s) run same) (shut_at_deliver plan past u s lawful)) refl refl)
    (at_deliver plan past u s lawful.1).idle

-- a parked block is open, and waits for something
pub parked_facts : (plan : PlanView) (past : List Event) (b : ℕ) → is_parked plan past b ≡ true → (is_open past (Block (record { 0 = b })) ≡ true) × (is_none (parked_by plan past (Block (record { 0 = b }))) ≡ false)
unfolding is_parked awaited
parked_facts plan past b h = by (is_open past (Block (record { 0 = b }))) (parked_by plan past (Block (record { 0 = b }))) h
  where
    by : (o : Bool) (p : Option Reason) → is_some (cond o p None) ≡ true → (o ≡ true) × (is_none p ≡ false)
    by true None k = cc
    by true (Some why) k = (refl, refl)
    by false p k = cc

by_wake : (plan : PlanView) (past : List Event) (u w : ℕ) (b : Blk) (run : Run) → IsLawful plan (Wake u b ∷ past) → has_run plan (Wake u b ∷ past) w run ≡ cond (u == w) (same_run (Block b) run) (has_run plan past w run)
by_wake plan past u w b run lawful =
    let facts = at_wake plan past u b lawful.1 in
    let parked = parked_facts plan past b.0 facts.parked in
    taken plan past (Wake u b) u w (Block b) run
    (λ same. has_by plan (Wake u b ∷ past) w run true true (u == w) (subst (λ q. is_open past q ≡ true) (same_run-true (Block b) run same) parked.0) (ap (λ t. is_none (cond t None (parked_by plan past run))) same) (ap (λ t. option_map_or (λ k. k == w) (cond t (Some u) (last_worker past run)) false) same))
    (λ other. has_same plan past (Wake u b) w run refl (ap (λ t. is_none (cond t None (parked_by plan past run))) other) (ap (λ t. cond t (Some u) (last_worker past run)) other))
    (λ same. has_by plan past w run (is_open past run) false (is_last past run w) refl (subst (λ q. is_none (parked_by plan past q) ≡ false) (same_run-true (Block b) run same) parked.1) refl ∙ and-false (is_open past run))
    facts.idle

by_end : (plan : PlanView) (past : List Event) (u w : ℕ) (b : Blk) (run : Run) → IsLawful plan (End u b ∷ past) → has_run plan (End u b ∷ past) w run ≡ cond (u == w) false (has_run plan past w run)
by_end plan past u w b run lawful =
    let step = is_open-step (End u b) past run in
    freed plan past (End u b) u w (Block b) run lawful.0
    (λ same. has_by plan (End u b ∷ past) w run false (is_none (parked_by plan past run)) (is_last past run w) (step ∙ ap (λ t. not t && is_open past run) same) refl refl)
    (λ other. has_same plan past (End u b) w run (step ∙ ap (λ t. not t && is_open past run) other) refl refl)
    (at_end plan past u b lawful.1).own

by_deliver_end : (plan : PlanView) (past : List Event) (u w : ℕ) (s : Obj) (run : Run) → IsLawful plan (DeliverEnd u s ∷ past) → has_run plan (DeliverEnd u s ∷ past) w run ≡ cond (u == w) false (has_run plan past w run)
by_deliver_end plan past u w s run lawful =
    let step = is_open-step (DeliverEnd u s) past run in
    freed plan past (DeliverEnd u s) u w (Source s) run lawful.0
    (λ same. has_by plan (DeliverEnd u s ∷ past) w run false (is_none (parked_by plan past run)) (is_last past run w) (step ∙ ap (λ t. not t && is_open past run) same) refl refl)
    (λ other. has_same plan past (DeliverEnd u s) w run (step ∙ ap (λ t. not t && is_open past run) other) refl refl)
    (at_deliver_end plan past u s lawful.1).own

by_park : (plan : PlanView) (past : List Event) (u w i : ℕ) (r run : Run) → IsLawful plan (Acted u r i ∷ past) → is_parking (act_at plan r i) ≡ true → has_run plan (Acted u r i ∷ past) w run ≡ cond (u == w) false (has_run plan past w run)
by_park plan past u w i r run lawful parking =
    let none : is_none (awaited_by plan past (act_at plan r i)) ≡ false = awaits_where_parks plan past (act_at plan r i) ∙ ap not parking in
    freed plan past (Acted u r i) u w r run lawful.0
    (λ same. has_by plan (Acted u r i ∷ past) w run (is_open past run) false (is_last past run w) refl (ap (λ t. is_none (cond t (awaited_by plan past (act_at plan r i)) (parked_by plan past run))) same ∙ none) refl ∙ and-false (is_open past run))
    (λ other. has_same plan past (Acted u r i) w run refl (ap (λ t. is_none (cond t (awaited_by plan past (act_at plan r i)) (parked_by plan past run))) other) refl)
    (at_act plan past u r i lawful.1).own

by_act : (plan : PlanView) (past : List Event) (u w i : ℕ) (r run : Run) → IsLawful plan (Acted u r i ∷ past) → is_parking (act_at plan r i) ≡ false → has_run plan (Acted u r i ∷ past) w run ≡ has_run plan past w run
by_act plan past u w i r run lawful goes =
    let none : is_none (awaited_by plan past (act_at plan r i)) ≡ true = awaits_where_parks plan past (act_at plan r i) ∙ ap not goes in
    let own = (at_act plan past u r i lawful.1).own in
    has_same plan past (Acted u r i) w run refl
    (elim (same_run r run) as (λ t. same_run r run ≡ t → is_none (cond t (awaited_by plan past (act_at plan r i)) (parked_by plan past run)) ≡ is_none (parked_by plan past run)) [
      | true ↦ λ same. none ∙ sym (subst (λ q. is_none (parked_by plan past q) ≡ true) (same_run-true r run same) (ap is_none (unparked plan past u r own)))
      | false ↦ λ other. refl
    ] refl)
    refl

-- ## The step

run_of_cond : (run : Run) (t : Bool) (x y : Option Run) → is_run run (cond t x y) ≡ cond t (is_run run x) (is_run run y)
run_of_cond run true x y = refl
run_of_cond run false x y = refl

-- the view after a write at worker u
wrote : (plan : PlanView) (past : List Event) (v : MachineView) (u w : ℕ) (o : Option Run) (run : Run) → OwnFit plan v → is_worker u ≡ true → WorkersAre plan past v → (x : Bool) → x ≡ cond (u == w) (is_run run o) (has_run plan past w run)
    → x ≡ is_run run (get_or (set v.workers u o) w None)
wrote plan past v u w o run own known ties x is =
    let low = ltb-true u max_workers known in
    let long = own.workers in
    is ∙ (ap (λ t. cond (u == w) (is_run run o) t) (ties.runs w run)
    ∙ (sym (run_of_cond run (u == w) o (at_worker v w)) ∙ ap (is_run run) (sym (entry_set v.workers u w o None (omega (arith, low, long))))))

workers_by : (plan : PlanView) (past : List Event) (e : Event) (v : MachineView) (w : ℕ) (run : Run) → IsLawful plan (e ∷ past) → OwnFit plan v → WorkersAre plan past v → has_run plan (e ∷ past) w run ≡ is_run run (get_or (workers_after plan v e) w None)
workers_by plan past (Start u b) v w run lawful own ties =
    wrote plan past v u w (Some (Block b)) run own (and_parts (is_worker u) _ (allowed plan past (Start u b) lawful.1).known).0 ties _ (by_start plan past u w b run lawful)
workers_by plan past (Wake u b) v w run lawful own ties =
    wrote plan past v u w (Some (Block b)) run own (and_parts (is_worker u) _ (allowed plan past (Wake u b) lawful.1).known).0 ties _ (by_wake plan past u w b run lawful)
workers_by plan past (Deliver u s) v w run lawful own ties =
    wrote plan past v u w (Some (Source s)) run own (and_parts (is_worker u) _ (allowed plan past (Deliver u s) lawful.1).known).0 ties _ (by_deliver plan past u w s run lawful)
workers_by plan past (End u b) v w run lawful own ties =
    wrote plan past v u w None run own (and_parts (is_worker u) _ (allowed plan past (End u b) lawful.1).known).0 ties _ (by_end plan past u w b run lawful)
workers_by plan past (DeliverEnd u s) v w run lawful own ties =
    wrote plan past v u w None run own (and_parts (is_worker u) _ (allowed plan past (DeliverEnd u s) lawful.1).known).0 ties _ (by_deliver_end plan past u w s run lawful)
workers_by plan past (Acted u r i) v w run lawful own ties =
    elim (is_parking (act_at plan r i)) as (λ t. is_parking (act_at plan r i) ≡ t → has_run plan (Acted u r i ∷ past) w run ≡ is_run run (get_or (cond t (set v.workers u None) v.workers) w None)) [
      | true ↦ λ parking. wrote plan past v u w None run own (and_parts (is_worker u) _ (allowed plan past (Acted u r i) lawful.1).known).0 ties _ (by_park plan past u w i r run lawful parking)
      | false ↦ λ goes. by_act plan past u w i r run lawful goes ∙ ties.runs w run
    ] refl
workers_by plan past e v w run lawful own ties = has_same plan past e w run refl refl refl ∙ ties.runs w run

pub workers_step : (plan : PlanView) (past : List Event) (e : Event) (v : MachineView) → IsLawful plan (e ∷ past) → OwnFit plan v → WorkersAre plan past v → WorkersAre plan (e ∷ past) (after plan v e)
workers_step plan past e v lawful own ties = record { runs = λ w run. workers_by plan past e v w run lawful own ties }
