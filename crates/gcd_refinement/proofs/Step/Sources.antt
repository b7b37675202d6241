-- What is pending at sources after an event, and what the deliveries took of the due times.
use Rattle.std.proofs.Common.{◌≡◌, ℕ, zero, suc, ◌+◌, ◌-◌, ◌<◌, ◌≤◌, ◌==◌, true, false, not, ◌&&◌, cond, List, [], ◌∷◌, ◌++◌, length, get_or, set, map, filter, Option, Some, None, refl, ap, sym, ◌∙◌, subst, arith, ◌⊎◌, ⊎_elim, inl, inr, eq-eqb, ne_eqb}
use Rattle.std.specs.List.{count_by, fold, slice_get, range_with_len}
use Rattle.std.specs.Option.{option_map_or}
use Rattle.std.proofs.lemmas.Bool.{cases_eq, and_parts}
use Rattle.std.proofs.lemmas.List.{append-nil}
use Rattle.std.proofs.lemmas.List.Sums.{fold_push, length-filter}
use Rattle.std.proofs.lemmas.Option.{slice_get-map}
use Rattle.gcd_plan.specs.PlanView.{PlanView, kind_of}
use Rattle.gcd_plan.specs.Kinds.{has_kind, is_source, is_source_kind, is_merge_kind, is_replace_kind, is_read_kind, is_timer_kind}
use Rattle.gcd_plan.specs.KindValues.{folded, has_effect}
use Rattle.gcd_plan.specs.Validity.{IsPlan}
use Rattle.gcd_plan.specs.declared.act.Act.{Act}
use Rattle.gcd_plan.specs.declared.act.Act.TheVariants.{Merge}
use Rattle.gcd_plan.specs.declared.kind.Kind.{Kind}
use Rattle.gcd_plan.specs.declared.kind.Kind.TheVariants.{Or, Replace}
use Rattle.gcd_plan.specs.declared.numbers.Obj.{Obj}
use Rattle.gcd_plan.specs.declared.numbers.Run.{Run}
use Rattle.gcd_plan.specs.declared.numbers.Run.TheVariants.{Block, Source}
use Rattle.gcd_plan.proofs.Folded.{folded-zero}
use Rattle.gcd_plan.proofs.Within.{has_object}
use Rattle.gcd_event.specs.declared.event.Event.{Event}
use Rattle.gcd_event.specs.declared.event.Event.TheVariants.{Act as Acted, Deliver, Tick, Ready}
use Rattle.gcd_history.specs.Runs.{act_of}
use Rattle.gcd_history.specs.Submitted.{cancels}
use Rattle.gcd_history.specs.Sources.{fold_of, fold_at, has_effect_at, merged_by as merged_in, due_inputs, new_inputs, pending}
use Rattle.gcd_history.specs.Timers as timers
use Rattle.gcd_history.specs.Timers.{now, is_due}
use Rattle.gcd_history.specs.Permitted.{IsLawful, is_worker}
use Rattle.gcd_history.proofs.Sources.Merged.{fold_of-append}
use Rattle.gcd_history.proofs.Permitted.Reasons.{allowed}
use Rattle.gcd_history.proofs.Blocks.SubmittedOnNodes.{recorded_fits}
use Rattle.gcd_source.specs.SourcesView.{SourcesView, pending_at, merged_at}
use Rattle.gcd_timer.specs.TimersView.{TimersView, due_count_at, is_due_at, activated_at, cancelled_at}
use Rattle.gcd_refinement.specs.MachineView.{MachineView, handler_at, undelivered}
use Rattle.gcd_refinement.specs.declared.progress.HandlerProgress.{HandlerProgress}
use Rattle.gcd_refinement.specs.Shape.{PartsFit, OwnFit}
use Rattle.gcd_refinement.specs.Ties.{HoldsAre, SourcesAre, TimersAre}
use Rattle.gcd_refinement.specs.After.{ticked, activated, timer_cancelled, timers_after, source_cancelled, merged_by, values_after, delivered, handled, handlers_after, after}
use Rattle.gcd_refinement.proofs.Lists.Writes.{entry_set}
use Rattle.gcd_refinement.proofs.Limits.DueTimes.{alike_range, dues, no_dues, dues_kept, dues_ticked}
use Rattle.gcd_refinement.proofs.Step.Timers.{cancelled_step, timers_step}

-- ## The due times by the view

-- the view's timers are those of the plan
pub record TimersFit (plan : PlanView) (view : TimersView) : Type 0 where
  pub kinds : view.kinds ≡ map (λ o. o.kind) plan.objects
  pub until : view.until ≡ plan.until

pub due_is : (plan : PlanView) (past : List Event) (view : TimersView) (s t : ℕ) → TimersFit plan view → activated_at view s ≡ timers.activated_at plan past s → cancelled_at view s ≡ timers.cancelled_at plan past s
    → is_due_at view s t ≡ is_due plan past s t
due_is plan past view s t fit on off = rw (on, off, fit.until, fit.kinds, slice_get-map (λ o. o.kind) plan.objects s) refl

due_count_is : (plan : PlanView) (past : List Event) (view : TimersView) (s : ℕ) → TimersFit plan view → view.moment ≡ now past → activated_at view s ≡ timers.activated_at plan past s → cancelled_at view s ≡ timers.cancelled_at plan past s
    → due_count_at view s ≡ dues plan past s
due_count_is plan past view s fit moment on off =
    ap (λ n. count_by (is_due_at view s) (range_with_len 1 n)) moment
    ∙ alike_range (is_due_at view s) (is_due plan past s) 1 (now past) (λ t low. due_is plan past view s t fit on off)

pub due_counted : (plan : PlanView) (past : List Event) (v : MachineView) (s : ℕ) → PartsFit plan v → TimersAre plan past v → due_count_at v.timers s ≡ dues plan past s
due_counted plan past v s fit ties =
    due_count_is plan past v.timers s (record { kinds = fit.timer_kinds; until = fit.until }) ties.moment (ties.activated s) (ties.cancelled s)

timers_fit : (plan : PlanView) (v : MachineView) (e : Event) → PartsFit plan v → TimersFit plan (timers_after plan v e)
timers_fit plan v e fit = last (activated (ticked v.timers e) _) _ (middle (ticked v.timers e) _ (first e))
  where
    first : (e : Event) → TimersFit plan (ticked v.timers e)
    first (Tick t) = record { kinds = fit.timer_kinds; until = fit.until }
    first e = record { kinds = fit.timer_kinds; until = fit.until }

    middle : (view : TimersView) (o : Option Obj) → TimersFit plan view → TimersFit plan (activated view o)
    middle view None f = f
    middle view (Some o) f = record { kinds = f.kinds; until = f.until }

    last : (view : TimersView) (o : Option Obj) → TimersFit plan view → TimersFit plan (timer_cancelled view o)
    last view None f = f
    last view (Some o) f = record { kinds = f.kinds; until = f.until }

-- ## Four numbers

-- what is pending by the view, how many times were due, how many of these deliveries took, and what is pending by the history
record Pend (p d t x : ℕ) : Type 0 where
  sum : p + d ≡ t + x
  low : t ≤ d

-- a kind adds its values, or is of no timer
sums_or_idle : (kind : Kind) → ((a b : ℕ) → folded kind a b ≡ a + b) ⊎ (is_timer_kind kind ≡ false)
sums_or_idle Or = inr refl
sums_or_idle Replace = inr refl
sums_or_idle kind = inl (λ a b. refl)

-- a value more
folds : (kind : Kind) (p d t x n : ℕ) → (is_timer_kind kind ≡ false → d ≡ 0) → Pend p d t x → Pend (folded kind p n) d t (folded kind x n)
folds kind p d t x n none pend =
    let s = pend.sum in
    let l = pend.low in
    ⊎_elim
    (λ (sums : (a b : ℕ) → folded kind a b ≡ a + b). let a = sums p n in let b = sums x n in record { sum = omega (arith, a, b, s); low = l })
    (λ (idle : is_timer_kind kind ≡ false).
    let z = none idle in
    let same : p ≡ x = omega (arith, s, l, z) in
    let taken : t ≡ 0 = omega (arith, l, z) in
    let f = ap (λ k. folded kind k n) same in
    record { sum = omega (arith, z, taken, f); low = l })
    (sums_or_idle kind)

-- the value of a merge or of a Ready at the source
joins : (plan : PlanView) (past : List Event) (v : MachineView) (s d t n : ℕ) → PartsFit plan v → (has_kind is_timer_kind plan s ≡ false → d ≡ 0) → Pend (pending_at v.sources s) d t (pending plan past s)
    → Pend (merged_at v.sources s n) d t (fold_at plan s (new_inputs plan past s ++ n ∷ []))
joins plan past v s d t n fit none pend =
    let p = pending_at v.sources s in
    let xs = new_inputs plan past s in
    let kinds : slice_get v.sources.kinds s ≡ kind_of plan s = ap (λ l. slice_get l s) fit.source_kinds ∙ slice_get-map (λ o. o.kind) plan.objects s in
    subst (λ o. Pend (option_map_or (λ kind. folded kind p n) o 0) d t (fold_at plan s (xs ++ n ∷ []))) (sym kinds)
    (elim (kind_of plan s) as (λ o. (option_map_or is_timer_kind o false ≡ false → d ≡ 0) → Pend p d t (option_map_or (λ kind. fold_of kind xs) o 0)
    → Pend (option_map_or (λ kind. folded kind p n) o 0) d t (option_map_or (λ kind. fold_of kind (xs ++ n ∷ [])) o 0)) [
      | None ↦ λ z k. let a = z refl in let l = k.low in record { sum = omega (arith, a, l); low = l }
      | Some kind ↦ λ z k. subst (λ y. Pend (folded kind p n) d t y) (sym (fold_push (folded kind) 0 xs n)) (folds kind p d t (fold_of kind xs) n z k)
    ] none pend)

-- which merges have an effect, by the kind
effect_at_replace : (kind : Kind) (n : ℕ) → is_replace_kind kind ≡ true → has_effect kind n ≡ true
effect_at_replace Replace n is = refl
effect_at_replace kind n is = cc

effect_elsewhere : (kind : Kind) (n : ℕ) → is_replace_kind kind ≡ false → has_effect kind n ≡ not (n == 0)
effect_elsewhere Replace n keeps = cc
effect_elsewhere kind n keeps = refl

-- a merge of 0 changes nothing where it has no effect
zero_kept : (kind : Kind) (n : ℕ) (xs : List ℕ) → is_replace_kind kind ≡ false → fold_of kind (xs ++ cond (not (n == 0)) (n ∷ []) []) ≡ fold_of kind (xs ++ n ∷ [])
zero_kept kind n xs keeps =
    ⊎_elim
    (λ (none : n ≡ 0).
    ap (λ v. fold_of kind (xs ++ cond (not v) (n ∷ []) [])) (eq-eqb n 0 none)
    ∙ (ap (fold_of kind) (append-nil xs)
    ∙ (sym (folded-zero kind (fold_of kind xs) keeps) ∙ (ap (folded kind (fold_of kind xs)) (sym none) ∙ sym (fold_push (folded kind) 0 xs n)))))
    (λ (some : n ≡ 0 → ⊥). ap (λ v. fold_of kind (xs ++ cond (not v) (n ∷ []) [])) (ne_eqb n 0 some))
    (cases_eq n 0)

-- a merge that has no effect is no input, and changes nothing
zero_input : (plan : PlanView) (s n : ℕ) (xs : List ℕ) → fold_at plan s (xs ++ cond (has_effect_at plan s n) (n ∷ []) []) ≡ fold_at plan s (xs ++ n ∷ [])
zero_input plan s n xs =
    elim (kind_of plan s) as (λ o. option_map_or (λ kind. fold_of kind (xs ++ cond (option_map_or (λ kind. has_effect kind n) o false) (n ∷ []) [])) o 0 ≡ option_map_or (λ kind. fold_of kind (xs ++ n ∷ [])) o 0) [
      | None ↦ refl
      | Some kind ↦ elim (is_replace_kind kind) as (λ v. is_replace_kind kind ≡ v → fold_of kind (xs ++ cond (has_effect kind n) (n ∷ []) []) ≡ fold_of kind (xs ++ n ∷ [])) [
        | true ↦ λ is. ap (λ v. fold_of kind (xs ++ cond v (n ∷ []) [])) (effect_at_replace kind n is)
        | false ↦ λ keeps. ap (λ v. fold_of kind (xs ++ cond v (n ∷ []) [])) (effect_elsewhere kind n keeps) ∙ zero_kept kind n xs keeps
      ] refl
    ]

-- ## A Tick

-- ones, folded by a sum
ones : (kind : Kind) → ((a b : ℕ) → folded kind a b ≡ a + b) → (a : ℕ) (ys : List ℕ) → fold (folded kind) a (map (λ y. 1) ys) ≡ a + length ys
ones kind sums a [] = omega arith
ones kind sums a (y ∷ ys) =
    let rest = ones kind sums (folded kind a 1) ys in
    let here = sums a 1 in
    omega (arith, rest, here)

-- no replace source adds
adds_nowhere_else : (kind : Kind) → ((a b : ℕ) → folded kind a b ≡ a + b) → is_replace_kind kind ≡ false
adds_nowhere_else Replace sums = let no = sums 1 0 in absurd (omega (arith, no))
adds_nowhere_else kind sums = refl

intervals_counted : (plan : PlanView) (past : List Event) (s t : ℕ)
    → fold_at plan s (new_inputs plan past s ++ due_inputs plan past s (now past) t) ≡ pending plan past s + count_by (is_due plan past s) (range_with_len (now past + 1) (t - now past))
intervals_counted plan past s t =
    let xs = new_inputs plan past s in
    let ys = filter (is_due plan past s) (range_with_len (now past + 1) (t - now past)) in
    let n = count_by (is_due plan past s) (range_with_len (now past + 1) (t - now past)) in
    let long : length ys ≡ n = length-filter (is_due plan past s) (range_with_len (now past + 1) (t - now past)) in
    elim (kind_of plan s) as (λ o. (option_map_or is_timer_kind o false ≡ false → n ≡ 0) → option_map_or (λ kind. fold_of kind (xs ++ map (λ y. 1) ys)) o 0 ≡ option_map_or (λ kind. fold_of kind xs) o 0 + n) [
      | None ↦ λ none. let z = none refl in omega (arith, z)
      | Some kind ↦ λ none.
          ⊎_elim
          (λ (sums : (a b : ℕ) → folded kind a b ≡ a + b).
          let a : fold_of kind (xs ++ map (λ y. 1) ys) ≡ folded kind (fold_of kind xs) (fold_of kind (map (λ y. 1) ys)) = fold_of-append kind xs (map (λ y. 1) ys) (adds_nowhere_else kind sums) in
          let b = sums (fold_of kind xs) (fold_of kind (map (λ y. 1) ys)) in
          let c : fold_of kind (map (λ y. 1) ys) ≡ 0 + length ys = ones kind sums 0 ys in
          omega (arith, a, b, c, long))
          (λ (idle : is_timer_kind kind ≡ false).
          let z = none idle in
          let empty : ys ≡ [] = nil_if_none ys (omega (arith, long, z)) in
          let a : fold_of kind (xs ++ map (λ y. 1) ys) ≡ fold_of kind xs = ap (λ l. fold_of kind (xs ++ map (λ y. 1) l)) empty ∙ ap (fold_of kind) (append-nil xs) in
          omega (arith, a, z))
          (sums_or_idle kind)
    ] (λ idle. no_dues plan past s (now past + 1) (t - now past) idle)
  where
    nil_if_none : (l : List ℕ) → length l ≡ 0 → l ≡ []
    nil_if_none [] h = refl
    nil_if_none (x ∷ l) h = absurd (omega (arith, h))

-- ## Handlers and sources of the view

-- an act more takes nothing
taken_kept : (xs : List HandlerProgress) (i s : ℕ) → (get_or (set xs i (record (get_or xs i undelivered) { done = (get_or xs i undelivered).done + 1 })) s undelivered).taken ≡ (get_or xs s undelivered).taken
taken_kept [] i s = refl
taken_kept (x ∷ xs) zero zero = refl
taken_kept (x ∷ xs) zero (suc s) = refl
taken_kept (x ∷ xs) (suc i) zero = refl
taken_kept (x ∷ xs) (suc i) (suc s) = taken_kept xs i s

run_kept : (v : MachineView) (run : Run) (s : ℕ) → (get_or (handled v run) s undelivered).taken ≡ (handler_at v s).taken
run_kept v (Block b) s = refl
run_kept v (Source o) s = taken_kept v.handlers o.0 s

cancel_pends : (sources : SourcesView) (o : Option Obj) (s : ℕ) → pending_at (source_cancelled sources o) s ≡ pending_at sources s
cancel_pends sources None s = refl
cancel_pends sources (Some o) s = refl

-- ## The events

abbrev old_pend : PlanView → List Event → MachineView → ℕ → Type 0
old_pend plan past v s = Pend (pending_at v.sources s) (dues plan past s) (handler_at v s).taken (pending plan past s)

abbrev new_pend : PlanView → List Event → Event → MachineView → ℕ → Type 0
new_pend plan past e v s = Pend (pending_at (values_after plan v e) s) (dues plan (e ∷ past) s) (get_or (handlers_after v e) s undelivered).taken (pending plan (e ∷ past) s)

moved : (p d t x p2 d2 t2 x2 : ℕ) → p2 ≡ p → d2 ≡ d → t2 ≡ t → x2 ≡ x → Pend p d t x → Pend p2 d2 t2 x2
moved p d t x p2 d2 t2 x2 a b c e pend = let s = pend.sum in let l = pend.low in record { sum = omega (arith, a, b, c, e, s); low = omega (arith, b, c, l) }

-- an event of which the source sees nothing
still : (plan : PlanView) (past : List Event) (e : Event) (v : MachineView) (s : ℕ) → IsPlan plan → old_pend plan past v s → now (e ∷ past) ≡ now past
    → pending_at (values_after plan v e) s ≡ pending_at v.sources s → (get_or (handlers_after v e) s undelivered).taken ≡ (handler_at v s).taken → new_inputs plan (e ∷ past) s ≡ new_inputs plan past s ++ []
    → new_pend plan past e v s
still plan past e v s valid pend time values taken inputs =
    moved (pending_at v.sources s) (dues plan past s) (handler_at v s).taken (pending plan past s) (pending_at (values_after plan v e) s) (dues plan (e ∷ past) s) (get_or (handlers_after v e) s undelivered).taken (pending plan (e ∷ past) s)
    values (dues_kept plan e past s valid time) taken (ap (fold_at plan s) (inputs ∙ append-nil (new_inputs plan past s))) pend

-- a value is written at source o, the input of source s, if it is that
valued : (plan : PlanView) (past : List Event) (e : Event) (v : MachineView) (o s n : ℕ) → IsPlan plan → PartsFit plan v → o < length plan.objects → old_pend plan past v s → now (e ∷ past) ≡ now past
    → pending_at (values_after plan v e) s ≡ get_or (set v.sources.pending o (merged_at v.sources o n)) s 0 → (get_or (handlers_after v e) s undelivered).taken ≡ (handler_at v s).taken
    → pending plan (e ∷ past) s ≡ cond (o == s) (fold_at plan s (new_inputs plan past s ++ n ∷ [])) (fold_at plan s (new_inputs plan past s ++ []))
    → new_pend plan past e v s
valued plan past e v o s n valid fit low pend time values taken inputs =
    let long = fit.pending in
    let write = values ∙ entry_set v.sources.pending o s (merged_at v.sources o n) 0 (omega (arith, low, long)) in
    let d = dues_kept plan e past s valid time in
    ⊎_elim
    (λ (same : o ≡ s).
    let t = eq-eqb o s same in
    let j = joins plan past v s (dues plan past s) (handler_at v s).taken n fit (λ idle. no_dues plan past s 1 (now past) idle) pend in
    moved (merged_at v.sources s n) (dues plan past s) (handler_at v s).taken (fold_at plan s (new_inputs plan past s ++ n ∷ [])) (pending_at (values_after plan v e) s) (dues plan (e ∷ past) s) (get_or (handlers_after v e) s undelivered).taken (pending plan (e ∷ past) s)
    (write ∙ (ap (λ u. cond u (merged_at v.sources o n) (pending_at v.sources s)) t ∙ ap (λ k. merged_at v.sources k n) same)) d taken
    (inputs ∙ ap (λ u. cond u (fold_at plan s (new_inputs plan past s ++ n ∷ [])) (fold_at plan s (new_inputs plan past s ++ []))) t) j)
    (λ (other : o ≡ s → ⊥).
    let t = ne_eqb o s other in
    moved (pending_at v.sources s) (dues plan past s) (handler_at v s).taken (pending plan past s) (pending_at (values_after plan v e) s) (dues plan (e ∷ past) s) (get_or (handlers_after v e) s undelivered).taken (pending plan (e ∷ past) s)
    (write ∙ ap (λ u. cond u (merged_at v.sources o n) (pending_at v.sources s)) t) d taken
    (inputs ∙ (ap (λ u. cond u (fold_at plan s (new_inputs plan past s ++ n ∷ [])) (fold_at plan s (new_inputs plan past s ++ []))) t ∙ ap (fold_at plan s) (append-nil (new_inputs plan past s)))) pend)
    (cases_eq o s)

by_tick : (plan : PlanView) (past : List Event) (t : ℕ) (v : MachineView) (s : ℕ) → IsLawful plan (Tick t ∷ past) → old_pend plan past v s → new_pend plan past (Tick t) v s
by_tick plan past t v s lawful pend =
    let d = dues_ticked plan past s t lawful in
    let x : pending plan (Tick t ∷ past) s ≡ pending plan past s + count_by (is_due plan past s) (range_with_len (now past + 1) (t - now past)) = intervals_counted plan past s t in
    let sum = pend.sum in
    let low = pend.low in
    record { sum = omega (arith, d, x, sum); low = omega (arith, d, low) }

by_delivery : (plan : PlanView) (past : List Event) (w : ℕ) (o : Obj) (v : MachineView) (s : ℕ) → IsPlan plan → IsLawful plan (Deliver w o ∷ past) → PartsFit plan v → OwnFit plan v → TimersAre plan past v → old_pend plan past v s
    → new_pend plan past (Deliver w o) v s
by_delivery plan past w o v s valid lawful fit own ties pend =
    let source : is_source plan o.0 ≡ true = (and_parts (is_worker w) (is_source plan o.0) (allowed plan past (Deliver w o) lawful.1).known).1 in
    let low = has_object is_source_kind plan o.0 source in
    let long = fit.pending in
    let wide = own.handlers in
    let d = dues_kept plan (Deliver w o) past s valid refl in
    let p = entry_set v.sources.pending o.0 s 0 0 (omega (arith, low, long)) in
    let h = entry_set v.handlers o.0 s (delivered v o.0) undelivered (omega (arith, low, wide)) in
    let taken : (get_or (handlers_after v (Deliver w o)) s undelivered).taken ≡ cond (o.0 == s) (due_count_at v.timers o.0) (handler_at v s).taken =
    ap (λ (x : HandlerProgress). x.taken) h ∙ elim (o.0 == s) as (λ u. (cond u (delivered v o.0) (handler_at v s)).taken ≡ cond u (due_count_at v.timers o.0) (handler_at v s).taken) [ true ↦ refl | false ↦ refl ] in
    ⊎_elim
    (λ (same : o.0 ≡ s).
    let t = eq-eqb o.0 s same in
    moved 0 (dues plan past s) (dues plan past s) 0 (pending_at (values_after plan v (Deliver w o)) s) (dues plan (Deliver w o ∷ past) s) (get_or (handlers_after v (Deliver w o)) s undelivered).taken (pending plan (Deliver w o ∷ past) s)
    (p ∙ ap (λ u. cond u 0 (pending_at v.sources s)) t) d
    (taken ∙ (ap (λ u. cond u (due_count_at v.timers o.0) (handler_at v s).taken) t ∙ (ap (due_count_at v.timers) same ∙ due_counted plan past v s fit ties)))
    (ap (λ u. fold_at plan s (cond u [] (new_inputs plan past s ++ []))) t ∙ nothing (kind_of plan s))
    (record { sum = omega arith; low = omega arith }))
    (λ (other : o.0 ≡ s → ⊥).
    let t = ne_eqb o.0 s other in
    moved (pending_at v.sources s) (dues plan past s) (handler_at v s).taken (pending plan past s) (pending_at (values_after plan v (Deliver w o)) s) (dues plan (Deliver w o ∷ past) s) (get_or (handlers_after v (Deliver w o)) s undelivered).taken (pending plan (Deliver w o ∷ past) s)
    (p ∙ ap (λ u. cond u 0 (pending_at v.sources s)) t) d
    (taken ∙ ap (λ u. cond u (due_count_at v.timers o.0) (handler_at v s).taken) t)
    (ap (λ u. fold_at plan s (cond u [] (new_inputs plan past s ++ []))) t ∙ ap (fold_at plan s) (append-nil (new_inputs plan past s)))
    pend)
    (cases_eq o.0 s)
  where
    nothing : (k : Option Kind) → option_map_or (λ kind. fold_of kind []) k 0 ≡ 0
    nothing None = refl
    nothing (Some kind) = refl

by_act : (plan : PlanView) (past : List Event) (w : ℕ) (r : Run) (i : ℕ) (v : MachineView) (s : ℕ) (act : Option Act) → act_of plan (Acted w r i) ≡ act → IsPlan plan → PartsFit plan v → old_pend plan past v s → new_pend plan past (Acted w r i) v s
by_act plan past w r i v s (Some (Merge o n)) at valid fit pend =
    let xs = new_inputs plan past s in
    valued plan past (Acted w r i) v o.0 s n valid fit (has_object is_merge_kind plan o.0 (and_parts (has_kind is_merge_kind plan o.0) _ (recorded_fits plan (Acted w r i) (Merge o n) valid at)).0) pend refl
    (ap (λ a. pending_at (merged_by v.sources a) s) at) (run_kept v r s)
    (ap (λ a. fold_at plan s (xs ++ merged_in plan s a)) at
    ∙ elim (o.0 == s) as (λ u. fold_at plan s (xs ++ cond (u && has_effect_at plan s n) (n ∷ []) []) ≡ cond u (fold_at plan s (xs ++ n ∷ [])) (fold_at plan s (xs ++ []))) [
      | true ↦ zero_input plan s n xs
      | false ↦ refl
    ])
by_act plan past w r i v s act at valid fit pend =
    still plan past (Acted w r i) v s valid pend refl
    (ap (λ a. pending_at (merged_by v.sources a) s) at) (run_kept v r s)
    (ap (λ a. new_inputs plan past s ++ merged_in plan s a) at)

joint : (plan : PlanView) (past : List Event) (e : Event) (v : MachineView) (s : ℕ) → IsPlan plan → IsLawful plan (e ∷ past) → PartsFit plan v → OwnFit plan v → TimersAre plan past v → old_pend plan past v s → new_pend plan past e v s
joint plan past (Tick t) v s valid lawful fit own ties pend = by_tick plan past t v s lawful pend
joint plan past (Deliver w o) v s valid lawful fit own ties pend = by_delivery plan past w o v s valid lawful fit own ties pend
joint plan past (Ready o n) v s valid lawful fit own ties pend =
    let known = (and_parts (has_kind is_read_kind plan o.0) _ (allowed plan past (Ready o n) lawful.1).known).0 in
    let xs = new_inputs plan past s in
    valued plan past (Ready o n) v o.0 s n valid fit (has_object is_read_kind plan o.0 known) pend refl refl refl
    (elim (o.0 == s) as (λ u. fold_at plan s (xs ++ cond u (n ∷ []) []) ≡ cond u (fold_at plan s (xs ++ n ∷ [])) (fold_at plan s (xs ++ []))) [ true ↦ refl | false ↦ refl ])
joint plan past (Acted w r i) v s valid lawful fit own ties pend = by_act plan past w r i v s (act_of plan (Acted w r i)) refl valid fit pend
joint plan past e v s valid lawful fit own ties pend = still plan past e v s valid pend refl refl refl refl

-- ## The step

values_cancelled : (plan : PlanView) (v : MachineView) (e : Event) → (values_after plan v e).cancelled ≡ v.sources.cancelled
values_cancelled plan v (Ready o n) = refl
values_cancelled plan v (Deliver w o) = refl
values_cancelled plan v (Acted w r i) = by (act_of plan (Acted w r i))
  where
    by : (act : Option Act) → (merged_by v.sources act).cancelled ≡ v.sources.cancelled
    by (Some (Merge o n)) = refl
    by act = refl
values_cancelled plan v e = refl

pub sources_step : (plan : PlanView) (past : List Event) (e : Event) (v : MachineView) → IsPlan plan → IsLawful plan (e ∷ past) → PartsFit plan v → OwnFit plan v → HoldsAre plan past v → SourcesAre plan past v → TimersAre plan past v
    → SourcesAre plan (e ∷ past) (after plan v e)
sources_step plan past e v valid lawful fit own holds ties times =
    let next = timers_step plan past e v valid lawful fit holds ties times in
    let all : (s : ℕ) → new_pend plan past e v s = λ s.
    let d = due_counted plan past v s fit times in
    let sum = ties.pending s in
    let low = ties.taken s in
    joint plan past e v s valid lawful fit own times (record { sum = omega (arith, d, sum); low = omega (arith, d, low) }) in
    let dues_are : (s : ℕ) → due_count_at (timers_after plan v e) s ≡ dues plan (e ∷ past) s = λ s.
    due_count_is plan (e ∷ past) (timers_after plan v e) s (timers_fit plan v e fit) next.moment (next.activated s) (next.cancelled s) in
    let same = values_cancelled plan v e in
    record {
      cancelled = λ s. cancelled_step plan past e v s valid lawful (ap length same ∙ fit.cancelled) (ap (λ l. get_or l s false) same ∙ ties.cancelled s);
      pending = λ s.
          let d = dues_are s in
          let c = cancel_pends (values_after plan v e) (cancels plan e) s in
          let sum = (all s).sum in
          omega (arith, d, c, sum);
      taken = λ s. let d = dues_are s in let low = (all s).low in omega (arith, d, low);
    }
