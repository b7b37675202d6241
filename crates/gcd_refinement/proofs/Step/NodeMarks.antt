-- Which objects have to be looked at after an event.
use Rattle.std.proofs.Common.{◌≡◌, ℕ, ◌+◌, ◌-◌, ◌<◌, ◌≤◌, ◌==◌, ltb, Bool, true, false, ◌||◌, ◌&&◌, cond, List, [], ◌∷◌, ◌++◌, length, map, drop, filter, get_or, set, Option, Some, None, refl, ap, sym, ◌∙◌, arith, ⊎_elim, eq-eqb, ne_eqb, option_map}
use Rattle.std.specs.List.{fold, list_any, list_all, slice_get}
use Rattle.std.specs.Option.{option_map_or}
use Rattle.std.proofs.lemmas.Bool.{cases_eq, cases_lt, and_parts, or_parts, both_ways, ltb-false}
use Rattle.std.proofs.lemmas.List.{append-nil, length-set, nil_from_length, get_or_past}
use Rattle.std.proofs.lemmas.List.FromFn.{length-map-range_with_len, get_or-map-range_with_len}
use Rattle.std.proofs.lemmas.List.Sums.{fold_push}
use Rattle.std.proofs.lemmas.Option.{slice_get_past}
use Rattle.gcd_plan.specs.PlanView.{PlanView, ObjView, kind_of}
use Rattle.gcd_plan.specs.Kinds.{has_kind, is_source, is_source_kind, is_read_kind, is_merge_kind}
use Rattle.gcd_plan.specs.KindValues.{folded}
use Rattle.gcd_plan.specs.Validity.{IsPlan}
use Rattle.gcd_plan.specs.declared.act.Act.{Act}
use Rattle.gcd_plan.specs.declared.act.Act.TheVariants.{Merge}
use Rattle.gcd_plan.specs.declared.numbers.Blk.{Blk}
use Rattle.gcd_plan.specs.declared.numbers.Obj.{Obj}
use Rattle.gcd_plan.specs.declared.numbers.Run.{Run}
use Rattle.gcd_plan.proofs.Within.{has_object}
use Rattle.gcd_event.specs.declared.event.Event.{Event}
use Rattle.gcd_event.specs.declared.event.Event.TheVariants.{Start, Act as Acted, Deliver, Tick, Ready}
use Rattle.gcd_history.specs.declared.submission.Submission.{Submission}
use Rattle.gcd_history.specs.Runs.{act_of}
use Rattle.gcd_history.specs.Submitted.{submitted, new_submissions}
use Rattle.gcd_history.specs.Sources.{fold_of, fold_at, has_effect_at, merged_by as merged_in, new_inputs, pending}
use Rattle.gcd_history.specs.Permitted.{IsLawful, is_worker, is_on, waits_on}
use Rattle.gcd_history.proofs.Counts.{find_first}
use Rattle.gcd_history.proofs.Sources.Merged.{zero-folded}
use Rattle.gcd_history.proofs.Permitted.Reasons.{allowed}
use Rattle.gcd_history.proofs.Blocks.SubmittedOnNodes.{on_a_node, recorded_fits}
use Rattle.gcd_lists.specs.ListsView.{list_at}
use Rattle.gcd_source.specs.SourcesView.{pending_at}
use Rattle.gcd_timer.specs.TimersView.{due_count_at, comes_by}
use Rattle.gcd_timer.proofs.Marks.{count_kept}
use Rattle.gcd_refinement.specs.MachineView.{MachineView, block_at, handler_at, busy_at}
use Rattle.gcd_refinement.specs.Shape.{PartsFit, OwnFit}
use Rattle.gcd_refinement.specs.Ties.{ListsAre, GroupsAre, BlocksAre, SourcesAre, BlockMarksAre, MarksAre, waiter}
use Rattle.gcd_refinement.specs.After.{pushed, begun, lists_after, pending_in, ticked, marked, stays_busy, unmarked, busy_by, busy_at_event, after}
use Rattle.gcd_refinement.specs.AfterSleepers.{popped}
use Rattle.gcd_refinement.proofs.Lists.Writes.{entry_set}
use Rattle.gcd_refinement.proofs.Step.Lists.{is_within, node_within, pushed_all, new_fit, lists_step}
use Rattle.gcd_refinement.proofs.Step.Submits.{submits_are}
use Rattle.gcd_refinement.proofs.Step.GroupTies.{nothing_mapped}

-- ## Marks of what is submitted

marked_one : (busy : List Bool) (s : Submission) (o : ℕ) → is_within (length busy) s → get_or (marked busy s) o false ≡ (is_on o s || get_or busy o false)
marked_one busy s o low =
    elim s.node as (λ n. ((q : Obj) → n ≡ Some q → q.0 < length busy) → get_or (option_map_or (λ q. set busy q.0 true) n busy) o false ≡ (option_map_or (λ q. q.0 == o) n false || get_or busy o false)) [
      | None ↦ λ h. refl
      | Some q ↦ λ h.
          entry_set busy q.0 o true false (h q refl)
          ∙ elim (q.0 == o) as (λ t. cond t true (get_or busy o false) ≡ (t || get_or busy o false)) [ true ↦ refl | false ↦ refl ]
    ] low

pub marked_long : (busy : List Bool) (s : Submission) → length (marked busy s) ≡ length busy
marked_long busy s = elim s.node as (λ n. length (option_map_or (λ q. set busy q.0 true) n busy) ≡ length busy) [ None ↦ refl | Some q ↦ length-set busy q.0 true ]

swapped : (x y z : Bool) → (x || (y || z)) ≡ ((y || x) || z)
swapped true true z = refl
swapped true false z = refl
swapped false true z = refl
swapped false false z = refl

marked_all : (plan : PlanView) (busy : List Bool) (subs : List Submission) (o : ℕ) → length busy ≡ length plan.objects → list_all (on_a_node plan) subs ≡ true → get_or (fold marked busy subs) o false ≡ (list_any (is_on o) subs || get_or busy o false)
marked_all plan busy [] o long fit = refl
marked_all plan busy (s ∷ subs) o long fit =
    let parts = and_parts (on_a_node plan s) (list_all (on_a_node plan) subs) fit in
    marked_all plan (marked busy s) subs o (marked_long busy s ∙ long) parts.1
    ∙ (ap (λ t. list_any (is_on o) subs || t) (marked_one busy s o (λ q at. let low = node_within plan s parts.0 q at in omega (arith, low, long)))
    ∙ swapped (list_any (is_on o) subs) (is_on o s) (get_or busy o false))

none_passes : (p : Submission → Bool) (xs : List Submission) → list_any p xs ≡ false → filter p xs ≡ []
none_passes p [] h = refl
none_passes p (x ∷ xs) h =
    let parts = or_parts (p x) (list_any p xs) h in
    ap (λ t. cond t (x ∷ filter p xs) (filter p xs)) parts.0 ∙ none_passes p xs parts.1

-- ## An object that has not to be looked at

-- by the view, what waits there, and by the history, what is pending
record Quiet (waits : List (Blk × Bool)) (value : ℕ) : Type 0 where
  list : waits ≡ []
  pend : value ≡ 0

quiet_now : (l1 l2 : List (Blk × Bool)) (p1 p2 : ℕ) → l2 ≡ l1 → p2 ≡ p1 → Quiet l1 p1 → Quiet l2 p2
quiet_now l1 l2 p1 p2 a b quiet = record { list = a ∙ quiet.list; pend = b ∙ quiet.pend }

pub none_first : {X : Type 0} (xs : List X) → slice_get xs 0 ≡ None → xs ≡ []
none_first [] h = refl
none_first (x ∷ xs) h = cc

quiet_old : (plan : PlanView) (past : List Event) (v : MachineView) (o : ℕ) → ListsAre plan past v → MarksAre plan past v → busy_at v o ≡ false → Quiet (list_at v.lists o) (pending plan past o)
quiet_old plan past v o lists ties off =
    let idle = ties.idle o off in
    record {
      list = lists.waiting o ∙ ap (map waiter) (none_first (filter (waits_on past o) (submitted plan past)) (sym (find_first (waits_on past o) (submitted plan past)) ∙ idle.nothing_waits));
      pend = idle.nothing_pends;
    }

-- what stays idle after a Start or a Deliver
idle_still : (waiting pend : ℕ) → stays_busy waiting pend ≡ false → (waiting ≡ 0) × (pend ≡ 0)
idle_still waiting pend h =
    let parts = or_parts (ltb 0 waiting) (ltb 0 pend) h in
    let a = ltb-false 0 waiting parts.0 in
    let b = ltb-false 0 pend parts.1 in
    (omega (arith, a), omega (arith, b))

drop_short : {X : Type 0} (xs : List X) → length xs - 1 ≡ 0 → drop 1 xs ≡ []
drop_short [] h = refl
drop_short (x ∷ []) h = refl
drop_short (x ∷ y ∷ xs) h = absurd (omega (arith, h))

same_pend : (plan : PlanView) (past : List Event) (o : ℕ) → fold_at plan o (new_inputs plan past o ++ []) ≡ pending plan past o
same_pend plan past o = ap (fold_at plan o) (append-nil (new_inputs plan past o))

pub no_value : (plan : PlanView) (o : ℕ) → fold_at plan o [] ≡ 0
no_value plan o = elim (kind_of plan o) as (λ k. option_map_or (λ kind. fold_of kind []) k 0 ≡ 0) [ None ↦ refl | Some kind ↦ refl ]

abbrev Old : PlanView → List Event → MachineView → ℕ → Type 0
Old plan past v o = busy_at v o ≡ false → Quiet (list_at v.lists o) (pending plan past o)

by_start : (plan : PlanView) (past : List Event) (w : ℕ) (b : Blk) (v : MachineView) (o : ℕ) → PartsFit plan v → OwnFit plan v → SourcesAre plan past v → Old plan past v o
    → get_or (unmarked v (block_at v b.0).node) o false ≡ false → Quiet (list_at (popped v.lists (block_at v b.0).node) o) (pending plan (Start w b ∷ past) o)
by_start plan past w b v o fit own sources old off =
    elim (block_at v b.0).node as (λ m. ((q : Obj) → m ≡ Some q → q.0 < length plan.objects) → get_or (unmarked v m) o false ≡ false → Quiet (list_at (popped v.lists m) o) (pending plan (Start w b ∷ past) o)) [
      | None ↦ λ low h. quiet_now (list_at v.lists o) (list_at v.lists o) (pending plan past o) (pending plan (Start w b ∷ past) o) refl (same_pend plan past o) (old h)
      | Some n ↦ λ low h.
          let in_plan = low n refl in
          let wide = own.busy in
          let tall = fit.lists in
          let stays = stays_busy (length (list_at v.lists n.0) - 1) (pending_in v n.0) in
          let write : cond (n.0 == o) stays (busy_at v o) ≡ false = sym (entry_set v.busy n.0 o stays false (omega (arith, in_plan, wide))) ∙ h in
          let list = entry_set v.lists.lists n.0 o (drop 1 (list_at v.lists n.0)) [] (omega (arith, in_plan, tall)) in
          ⊎_elim
          (λ (same : n.0 ≡ o).
          let t = eq-eqb n.0 o same in
          let idle = idle_still (length (list_at v.lists n.0) - 1) (pending_in v n.0) (sym (ap (λ u. cond u stays (busy_at v o)) t) ∙ write) in
          let sum = sources.pending n.0 in
          let less = sources.taken n.0 in
          let none = idle.1 in
          let zero_now : pending plan past n.0 ≡ 0 = omega (arith, sum, less, none) in
          record {
            list = list ∙ (ap (λ u. cond u (drop 1 (list_at v.lists n.0)) (list_at v.lists o)) t ∙ drop_short (list_at v.lists n.0) idle.0);
            pend = same_pend plan past o ∙ (ap (pending plan past) (sym same) ∙ zero_now);
          })
          (λ (other : n.0 ≡ o → ⊥).
          let t = ne_eqb n.0 o other in
          quiet_now (list_at v.lists o) (list_at (popped v.lists (Some n)) o) (pending plan past o) (pending plan (Start w b ∷ past) o)
          (list ∙ ap (λ u. cond u (drop 1 (list_at v.lists n.0)) (list_at v.lists o)) t) (same_pend plan past o) (old (sym (ap (λ u. cond u stays (busy_at v o)) t) ∙ write)))
          (cases_eq n.0 o)
    ] (own.nodes b.0) off

by_deliver : (plan : PlanView) (past : List Event) (w : ℕ) (s : Obj) (v : MachineView) (o : ℕ) → s.0 < length plan.objects → OwnFit plan v → Old plan past v o
    → get_or (set v.busy s.0 (stays_busy (length (list_at v.lists s.0)) 0)) o false ≡ false → Quiet (list_at v.lists o) (pending plan (Deliver w s ∷ past) o)
by_deliver plan past w s v o low own old off =
    let wide = own.busy in
    let stays = stays_busy (length (list_at v.lists s.0)) 0 in
    let write : cond (s.0 == o) stays (busy_at v o) ≡ false = sym (entry_set v.busy s.0 o stays false (omega (arith, low, wide))) ∙ off in
    ⊎_elim
    (λ (same : s.0 ≡ o).
    let t = eq-eqb s.0 o same in
    let idle = idle_still (length (list_at v.lists s.0)) 0 (sym (ap (λ u. cond u stays (busy_at v o)) t) ∙ write) in
    record {
      list = ap (list_at v.lists) (sym same) ∙ nil_from_length (list_at v.lists s.0) idle.0;
      pend = ap (λ u. fold_at plan o (cond u [] (new_inputs plan past o ++ []))) t ∙ no_value plan o;
    })
    (λ (other : s.0 ≡ o → ⊥).
    let t = ne_eqb s.0 o other in
    quiet_now (list_at v.lists o) (list_at v.lists o) (pending plan past o) (pending plan (Deliver w s ∷ past) o) refl
    (ap (λ u. fold_at plan o (cond u [] (new_inputs plan past o ++ []))) t ∙ same_pend plan past o) (old (sym (ap (λ u. cond u stays (busy_at v o)) t) ∙ write)))
    (cases_eq s.0 o)

-- an input at source s, which is marked
by_input : (plan : PlanView) (past : List Event) (e : Event) (s : ℕ) (more : List ℕ) (v : MachineView) (o : ℕ) → s < length plan.objects → OwnFit plan v → Old plan past v o
    → get_or (set v.busy s true) o false ≡ false → pending plan (e ∷ past) o ≡ fold_at plan o (new_inputs plan past o ++ cond (s == o) more []) → Quiet (list_at v.lists o) (pending plan (e ∷ past) o)
by_input plan past e s more v o low own old off pend =
    let wide = own.busy in
    let write : cond (s == o) true (busy_at v o) ≡ false = sym (entry_set v.busy s o true false (omega (arith, low, wide))) ∙ off in
    ⊎_elim
    (λ (same : s ≡ o). absurd (both_ways true (sym (ap (λ u. cond u true (busy_at v o)) (eq-eqb s o same)) ∙ write) refl))
    (λ (other : s ≡ o → ⊥).
    let t = ne_eqb s o other in
    quiet_now (list_at v.lists o) (list_at v.lists o) (pending plan past o) (pending plan (e ∷ past) o) refl
    (pend ∙ (ap (λ u. fold_at plan o (new_inputs plan past o ++ cond u more [])) t ∙ same_pend plan past o)) (old (sym (ap (λ u. cond u true (busy_at v o)) t) ∙ write)))
    (cases_eq s o)

-- a value of 0 more leaves nothing pending
zero_stays : (plan : PlanView) (o : ℕ) (u : Bool) (xs : List ℕ) → fold_at plan o xs ≡ 0 → fold_at plan o (xs ++ cond u (0 ∷ []) []) ≡ 0
zero_stays plan o false xs none = ap (fold_at plan o) (append-nil xs) ∙ none
zero_stays plan o true xs none =
    elim (kind_of plan o) as (λ k. option_map_or (λ kind. fold_of kind xs) k 0 ≡ 0 → option_map_or (λ kind. fold_of kind (xs ++ 0 ∷ [])) k 0 ≡ 0) [
      | None ↦ λ z. refl
      | Some kind ↦ λ z. fold_push (folded kind) 0 xs 0 ∙ (ap (λ v. folded kind v 0) z ∙ zero-folded kind 0)
    ] none

one_after_other : (a b : Bool) (xs : List ℕ) → cond (a && b) xs [] ≡ cond a (cond b xs []) []
one_after_other true b xs = refl
one_after_other false b xs = refl

by_act : (plan : PlanView) (past : List Event) (w : ℕ) (r : Run) (i : ℕ) (v : MachineView) (o : ℕ) (act : Option Act) → act_of plan (Acted w r i) ≡ act → IsPlan plan → OwnFit plan v → Old plan past v o
    → get_or (busy_by v.busy act) o false ≡ false → Quiet (list_at v.lists o) (pending plan (Acted w r i ∷ past) o)
by_act plan past w r i v o (Some (Merge s n)) at valid own old off =
    let low = has_object is_merge_kind plan s.0 (and_parts (has_kind is_merge_kind plan s.0) _ (recorded_fits plan (Acted w r i) (Merge s n) valid at)).0 in
    let is = ap (λ a. fold_at plan o (new_inputs plan past o ++ merged_in plan o a)) at in
    ⊎_elim
    (λ (none : n ≡ 0).
    let quiet = old (sym (ap (λ u. get_or (cond u v.busy (set v.busy s.0 true)) o false) (eq-eqb n 0 none)) ∙ off) in
    record {
      list = quiet.list;
      pend = is ∙ (ap (λ m. fold_at plan o (new_inputs plan past o ++ cond (s.0 == o && has_effect_at plan o n) (m ∷ []) [])) none
          ∙ zero_stays plan o (s.0 == o && has_effect_at plan o n) (new_inputs plan past o) quiet.pend);
    })
    (λ (some : n ≡ 0 → ⊥).
    by_input plan past (Acted w r i) s.0 (cond (has_effect_at plan o n) (n ∷ []) []) v o low own old
    (sym (ap (λ u. get_or (cond u v.busy (set v.busy s.0 true)) o false) (ne_eqb n 0 some)) ∙ off)
    (is ∙ ap (λ l. fold_at plan o (new_inputs plan past o ++ l)) (one_after_other (s.0 == o) (has_effect_at plan o n) (n ∷ []))))
    (cases_eq n 0)
by_act plan past w r i v o act at valid own old off =
    quiet_now (list_at v.lists o) (list_at v.lists o) (pending plan past o) (pending plan (Acted w r i ∷ past) o) refl
    (ap (λ a. fold_at plan o (new_inputs plan past o ++ merged_in plan o a)) at ∙ same_pend plan past o) (old off)

-- a timer that is not marked at a Tick has no due time that no delivery took
by_tick : (plan : PlanView) (past : List Event) (t : ℕ) (v : MachineView) (o : ℕ) → OwnFit plan v → SourcesAre plan past v → SourcesAre plan (Tick t ∷ past) (after plan v (Tick t)) → Old plan past v o
    → get_or (busy_at_event plan v (Tick t)) o false ≡ false → Quiet (list_at v.lists o) (pending plan (Tick t ∷ past) o)
by_tick plan past t v o own sources next old off =
    ⊎_elim
    (λ (low : o < length v.busy).
    let told : get_or (busy_at_event plan v (Tick t)) o false ≡ (busy_at v o || comes_by v.timers t o) =
    get_or-map-range_with_len (λ s. get_or v.busy s false || comes_by v.timers t s) 0 (length v.busy) o o false low (omega arith) in
    let parts = or_parts (busy_at v o) (comes_by v.timers t o) (sym told ∙ off) in
    let quiet = old parts.0 in
    let none = quiet.pend in
    let kept = count_kept v.timers t o parts.1 in
    let before = sources.pending o in
    let now_pending : pending_at v.sources o + due_count_at (ticked v.timers (Tick t)) o ≡ (handler_at v o).taken + pending plan (Tick t ∷ past) o = next.pending o in
    record { list = quiet.list; pend = omega (arith, none, kept, before, now_pending) })
    (λ (high : length v.busy ≤ o).
    let quiet = old (get_or_past v.busy o false high) in
    let wide = own.busy in
    let past_end : length plan.objects ≤ o = omega (arith, high, wide) in
    record {
      list = quiet.list;
      pend = ap (λ obj. option_map_or (λ kind. fold_of kind (new_inputs plan (Tick t ∷ past) o)) (option_map (λ (x : ObjView). x.kind) obj) 0) (slice_get_past plan.objects o past_end);
    })
    (cases_lt o (length v.busy))

quiet_event : (plan : PlanView) (past : List Event) (e : Event) (v : MachineView) (o : ℕ) → IsPlan plan → IsLawful plan (e ∷ past) → PartsFit plan v → OwnFit plan v → SourcesAre plan past v → SourcesAre plan (e ∷ past) (after plan v e) → Old plan past v o
    → get_or (busy_at_event plan v e) o false ≡ false → Quiet (list_at (begun v e) o) (pending plan (e ∷ past) o)
quiet_event plan past (Start w b) v o valid lawful fit own sources next old off = by_start plan past w b v o fit own sources old off
quiet_event plan past (Deliver w s) v o valid lawful fit own sources next old off =
    by_deliver plan past w s v o (has_object is_source_kind plan s.0 (and_parts (is_worker w) (is_source plan s.0) (allowed plan past (Deliver w s) lawful.1).known).1) own old off
quiet_event plan past (Ready s n) v o valid lawful fit own sources next old off =
    by_input plan past (Ready s n) s.0 (n ∷ []) v o (has_object is_read_kind plan s.0 (and_parts (has_kind is_read_kind plan s.0) _ (allowed plan past (Ready s n) lawful.1).known).0) own old off refl
quiet_event plan past (Tick t) v o valid lawful fit own sources next old off = by_tick plan past t v o own sources next old off
quiet_event plan past (Acted w r i) v o valid lawful fit own sources next old off = by_act plan past w r i v o (act_of plan (Acted w r i)) refl valid own old off
quiet_event plan past e v o valid lawful fit own sources next old off =
    quiet_now (list_at v.lists o) (list_at v.lists o) (pending plan past o) (pending plan (e ∷ past) o) refl (same_pend plan past o) (old off)

-- ## The step

pub event_long : (plan : PlanView) (v : MachineView) (e : Event) → length (busy_at_event plan v e) ≡ length v.busy
event_long plan v (Start w b) = by (block_at v b.0).node
  where
    by : (m : Option Obj) → length (unmarked v m) ≡ length v.busy
    by None = refl
    by (Some n) = length-set v.busy n.0 (stays_busy (length (list_at v.lists n.0) - 1) (pending_in v n.0))
event_long plan v (Deliver w s) = length-set v.busy s.0 (stays_busy (length (list_at v.lists s.0)) 0)
event_long plan v (Tick t) = length-map-range_with_len (λ s. get_or v.busy s false || comes_by v.timers t s) 0 (length v.busy)
event_long plan v (Ready s n) = length-set v.busy s.0 true
event_long plan v (Acted w r i) = by (act_of plan (Acted w r i))
  where
    by : (act : Option Act) → length (busy_by v.busy act) ≡ length v.busy
    by (Some (Merge s n)) = elim (n == 0) as (λ t. length (cond t v.busy (set v.busy s.0 true)) ≡ length v.busy) [ true ↦ refl | false ↦ length-set v.busy s.0 true ]
    by act = refl
event_long plan v e = refl

pub begun_long : (v : MachineView) (e : Event) → length (begun v e).lists ≡ length v.lists.lists
begun_long v (Start w b) = by (block_at v b.0).node
  where
    by : (m : Option Obj) → length (popped v.lists m).lists ≡ length v.lists.lists
    by None = refl
    by (Some n) = length-set v.lists.lists n.0 (drop 1 (list_at v.lists n.0))
begun_long v e = refl

pub marks_step : (plan : PlanView) (past : List Event) (e : Event) (v : MachineView) → IsPlan plan → IsLawful plan (e ∷ past) → PartsFit plan v → OwnFit plan v → GroupsAre plan past v → BlocksAre plan past v → SourcesAre plan past v → BlockMarksAre plan past v → SourcesAre plan (e ∷ past) (after plan v e) → ListsAre plan past v
    → MarksAre plan past v → MarksAre plan (e ∷ past) (after plan v e)
marks_step plan past e v valid lawful fit own groups blocks sources block_marks sources_now lists ties =
    let new = new_submissions plan past e in
    let same = submits_are plan past e v valid lawful fit own groups blocks sources block_marks in
    let next = lists_step plan past e v valid lawful fit own groups blocks sources block_marks lists in
    let fits = new_fit plan past e valid in
    record {
      idle = λ o off.
          let all : (list_any (is_on o) new || get_or (busy_at_event plan v e) o false) ≡ false =
          sym (marked_all plan (busy_at_event plan v e) new o (event_long plan v e ∙ own.busy) fits) ∙ (ap (λ l. get_or (fold marked (busy_at_event plan v e) l) o false) (sym same) ∙ off) in
          let parts = or_parts (list_any (is_on o) new) (get_or (busy_at_event plan v e) o false) all in
          let quiet = quiet_event plan past e v o valid lawful fit own sources sources_now (λ h. quiet_old plan past v o lists ties h) parts.1 in
          let empty : list_at (lists_after plan v e) o ≡ [] =
          ap (λ l. list_at (fold pushed (begun v e) l) o) same
          ∙ (pushed_all plan (begun v e) new o (begun_long v e ∙ fit.lists) fits
          ∙ (ap (λ l. list_at (begun v e) o ++ map waiter l) (none_passes (is_on o) new parts.0)
          ∙ (append-nil (list_at (begun v e) o) ∙ quiet.list))) in
          record {
            nothing_waits = find_first (waits_on (e ∷ past) o) (submitted plan (e ∷ past)) ∙ ap (λ l. slice_get l 0) (nothing_mapped waiter (filter (waits_on (e ∷ past) o) (submitted plan (e ∷ past))) (sym (next.waiting o) ∙ empty));
            nothing_pends = quiet.pend;
          };
    }
