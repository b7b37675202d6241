-- Which acts are misuses, as what a machine keeps tells it.
use Rattle.std.proofs.Common.{◌≡◌, ℕ, ◌<◌, ◌==◌, nat_lt, Bool, true, false, not, ◌&&◌, ◌||◌, List, [], ◌∷◌, length, count_by, Some, None, refl, ap, sym, ◌∙◌, arith}
use Rattle.std.specs.List.{list_any, list_all, slice_get, slice_index_or}
use Rattle.std.specs.Option.{option_and_then}
use Rattle.std.proofs.lemmas.Bool.{and_parts, and_from, lt-ltb, ltb-true}
use Rattle.gcd_plan.proofs.Mapped.{get_or-mapped}
use Rattle.gcd_plan.proofs.Options.{option_map_or-map}
use Rattle.gcd_plan.proofs.Sums.{count_by-map}
use Rattle.gcd_plan.specs.PlanView.{PlanView, ObjView}
use Rattle.gcd_plan.specs.Kinds.{has_kind, is_source, is_queue, is_queue_kind, is_node_kind, is_source_kind, is_merge_kind, is_group_kind, is_semaphore_kind}
use Rattle.gcd_plan.specs.Validity.{is_act, is_declared, is_held_object}
use Rattle.gcd_plan.specs.declared.kind.Kind.{Kind}
use Rattle.gcd_plan.specs.declared.act.Act.{Act}
use Rattle.gcd_plan.specs.declared.act.Act.TheVariants.{Async, Barrier, Sync, BarrierSync, GroupAsync, Notify, Enter, Leave, GroupWait, GroupWaitFor, Signal, Wait, WaitFor, Suspend, Resume, Activate, Target, Merge, Cancel, Retain, Release, Apply, CancelBlock, WaitBlock, NotifyBlock}
use Rattle.gcd_plan.specs.declared.numbers.Obj.{Obj}
use Rattle.gcd_plan.specs.declared.numbers.Run.{Run}
use Rattle.gcd_plan.proofs.Within.{has_object}
use Rattle.gcd_event.specs.declared.event.Event.{Event}
use Rattle.gcd_history.specs.Runs.{act_at}
use Rattle.gcd_history.specs.Expired.{has_expired}
use Rattle.gcd_history.specs.Groups.{entered}
use Rattle.gcd_history.specs.Semas.{waits_on}
use Rattle.gcd_history.specs.Misuses.{refs, is_released, named, is_over_resumed, is_held_node, is_below_first, act_misuses, first_code, misuse}
use Rattle.gcd_history.specs.Permitted.{misuse_at}
use Rattle.gcd_history.proofs.Blocks.SubmittedOnNodes.{act_fits}
use Rattle.gcd_hold.specs.HoldsView.{is_source_at, is_over_resumed_at}
use Rattle.gcd_group.specs.GroupsView.{entered_at}
use Rattle.gcd_refinement.specs.MachineView.{MachineView, refs_at}
use Rattle.gcd_refinement.specs.Shape.{PartsFit}
use Rattle.gcd_refinement.specs.Stands.{IsTied}
use Rattle.gcd_refinement.specs.Ties.{ReferencesAre, HoldsAre, GroupsAre, SemasAre}
use Rattle.gcd_machine.specs.Judged.{is_released_at, is_held_node_at, is_below_first_at, act_misuses_at, misuse_by, misuse_of_run}
use Rattle.gcd_machine.proofs.Views.StartRule.{cycle_is, child_at_is}

-- ## What an act names

-- the objects of a kind are the plan's
low : (test : Kind → Bool) (plan : PlanView) (o : ℕ) → has_kind test plan o ≡ true → nat_lt o (length plan.objects) ≡ true
low test plan o h = lt-ltb o (length plan.objects) (has_object test plan o h)

one_low : (test : Kind → Bool) (plan : PlanView) (o : ℕ) → has_kind test plan o ≡ true → list_all (λ k. nat_lt k (length plan.objects)) (o ∷ []) ≡ true
one_low test plan o h = and_from (nat_lt o (length plan.objects)) true (low test plan o h) refl

two_low : (first second : Kind → Bool) (plan : PlanView) (o q : ℕ) → has_kind first plan o ≡ true → has_kind second plan q ≡ true
    → list_all (λ k. nat_lt k (length plan.objects)) (o ∷ q ∷ []) ≡ true
two_low first second plan o q h k = and_from (nat_lt o (length plan.objects)) _ (low first plan o h) (one_low second plan q k)

held_low : (plan : PlanView) (o : Obj) → is_held_object plan o ≡ true → list_all (λ k. nat_lt k (length plan.objects)) (o.0 ∷ []) ≡ true
held_low plan o h = one_low is_node_kind plan o.0 (and_parts (nat_lt 0 o.0) (has_kind is_node_kind plan o.0) h).1

numbered_low : (plan : PlanView) (o : ℕ) → (nat_lt 0 o && nat_lt o (length plan.objects)) ≡ true → list_all (λ k. nat_lt k (length plan.objects)) (o ∷ []) ≡ true
numbered_low plan o h = and_from (nat_lt o (length plan.objects)) true (and_parts (nat_lt 0 o) (nat_lt o (length plan.objects)) h).1 refl

-- an act of the plan names objects of the plan
pub named_low : (plan : PlanView) (act : Act) → is_act plan act ≡ true → list_all (λ k. nat_lt k (length plan.objects)) (named act) ≡ true
named_low plan (Async q b) h = one_low is_queue_kind plan q.0 (and_parts (is_queue plan q.0) (is_declared plan b) h).0
named_low plan (Barrier q b) h = one_low is_queue_kind plan q.0 (and_parts (is_queue plan q.0) (is_declared plan b) h).0
named_low plan (Sync q b) h = one_low is_queue_kind plan q.0 (and_parts (is_queue plan q.0) (is_declared plan b) h).0
named_low plan (BarrierSync q b) h = one_low is_queue_kind plan q.0 (and_parts (is_queue plan q.0) (is_declared plan b) h).0
named_low plan (GroupAsync g q b) h =
    let parts = and_parts (has_kind is_group_kind plan g.0) (is_queue plan q.0 && is_declared plan b) h in
    two_low is_group_kind is_queue_kind plan g.0 q.0 parts.0 (and_parts (is_queue plan q.0) (is_declared plan b) parts.1).0
named_low plan (Notify g q b) h =
    let parts = and_parts (has_kind is_group_kind plan g.0) (is_queue plan q.0 && is_declared plan b) h in
    two_low is_group_kind is_queue_kind plan g.0 q.0 parts.0 (and_parts (is_queue plan q.0) (is_declared plan b) parts.1).0
named_low plan (Enter g) h = one_low is_group_kind plan g.0 h
named_low plan (Leave g) h = one_low is_group_kind plan g.0 h
named_low plan (GroupWait g) h = one_low is_group_kind plan g.0 h
named_low plan (GroupWaitFor g ms) h = one_low is_group_kind plan g.0 (and_parts (has_kind is_group_kind plan g.0) _ h).0
named_low plan (Signal s) h = one_low is_semaphore_kind plan s.0 h
named_low plan (Wait s) h = one_low is_semaphore_kind plan s.0 h
named_low plan (WaitFor s ms) h = one_low is_semaphore_kind plan s.0 (and_parts (has_kind is_semaphore_kind plan s.0) _ h).0
named_low plan (Suspend o) h = held_low plan o h
named_low plan (Resume o) h = held_low plan o h
named_low plan (Activate o) h = held_low plan o h
named_low plan (Target o t) h =
    let parts = and_parts (is_held_object plan o) (is_queue plan t.0) h in
    two_low is_node_kind is_queue_kind plan o.0 t.0 (and_parts (nat_lt 0 o.0) (has_kind is_node_kind plan o.0) parts.0).1 parts.1
named_low plan (Merge s n) h = one_low is_merge_kind plan s.0 (and_parts (has_kind is_merge_kind plan s.0) _ h).0
named_low plan (Cancel s) h = one_low is_source_kind plan s.0 h
named_low plan (Retain o) h = numbered_low plan o.0 h
named_low plan (Release o) h = numbered_low plan o.0 h
named_low plan (Apply q a) h = one_low is_queue_kind plan q.0 (and_parts (is_queue plan q.0) _ h).0
named_low plan (CancelBlock c) h = refl
named_low plan (WaitBlock c) h = refl
named_low plan (NotifyBlock c q d) h = one_low is_queue_kind plan q.0 (and_parts (is_queue plan q.0) _ (and_parts (is_declared plan c) _ h).1).0

-- tests that agree within a bound
any_low : (p q : ℕ → Bool) (n : ℕ) (xs : List ℕ) → ((o : ℕ) → o < n → p o ≡ q o) → list_all (λ k. nat_lt k n) xs ≡ true → list_any p xs ≡ list_any q xs
any_low p q n [] same all = refl
any_low p q n (x ∷ xs) same all =
    let parts = and_parts (nat_lt x n) (list_all (λ k. nat_lt k n) xs) all in
    ap (λ v. v || list_any p xs) (same x (ltb-true x n parts.0)) ∙ ap (λ v. q x || v) (any_low p q n xs same parts.1)

-- ## Each test

refs_are : (plan : PlanView) (past : List Event) (v : MachineView) (o : ℕ) → ReferencesAre plan past v → o < length plan.objects → refs_at v o ≡ refs plan past o
refs_are plan past v o ties within = let sum = ties.counted o within in omega (arith, sum)

released_is : (plan : PlanView) (past : List Event) (v : MachineView) (o : ℕ) → ReferencesAre plan past v → o < length plan.objects → is_released_at v o ≡ is_released plan past o
released_is plan past v o ties within = ap (λ n. not (o == 0) && n == 0) (refs_are plan past v o ties within)

source_is : (plan : PlanView) (v : MachineView) (o : ℕ) → PartsFit plan v → is_source_at v.holds o ≡ is_source plan o
source_is plan v o fit =
    ap (λ l. slice_index_or l o false) fit.sources
    ∙ (get_or-mapped (λ (x : ObjView). is_source_kind x.kind) plan.objects o false
    ∙ sym (option_map_or-map (λ (x : ObjView). x.kind) is_source_kind (slice_get plan.objects o) false))

over_resumed_is : (plan : PlanView) (past : List Event) (v : MachineView) (o : ℕ) → PartsFit plan v → HoldsAre plan past v → is_over_resumed_at v.holds o ≡ is_over_resumed plan past o
over_resumed_is plan past v o fit holds =
    let hold = holds.holds o in
    let active = holds.active o in
    let source = source_is plan v o fit in
    rw (hold, active, source) refl

entered_is : (plan : PlanView) (past : List Event) (v : MachineView) (g : ℕ) → GroupsAre plan past v → entered_at v.groups g ≡ entered plan past g
entered_is plan past v g groups = let sum = groups.entered g in omega (arith, sum)

held_node_is : (m : MachineView) (past : List Event) (o : ℕ) → HoldsAre m.plan past m → is_held_node_at m o ≡ is_held_node m.plan past o
held_node_is m past o holds =
    let hold = holds.holds o in
    let active = holds.active o in
    rw (hold, active) refl

below_first_is : (m : MachineView) (past : List Event) (s : ℕ) → SemasAre m.plan past m → is_below_first_at m s ≡ is_below_first m.plan past s
below_first_is m past s semas =
    let signals = semas.signals s in
    let left = ap (count_by not) (semas.waits s) ∙ count_by-map not (has_expired past) (waits_on m.plan past s) in
    rw (signals, left) refl

-- ## The act

others_are : (m : MachineView) (past : List Event) (act : Act) → IsTied m.plan past m → is_act m.plan act ≡ true → act_misuses_at m act ≡ act_misuses m.plan past act
others_are m past (Resume o) tied h = ap (λ v. (1, v) ∷ []) (over_resumed_is m.plan past m o.0 tied.parts tied.holds)
others_are m past (Leave g) tied h = ap (λ n. (2, n == 0) ∷ []) (entered_is m.plan past m g.0 tied.groups)
others_are m past (Target o t) tied h =
    let cycle = cycle_is m.plan past m o.0 t.0 tied.parts tied.tree in
    let active = tied.holds.active o.0 in
    let child = child_at_is m.plan past m o.0 tied.parts tied.tree in
    rw (cycle, active, child) refl
others_are m past (Release o) tied h =
    let within : o.0 < length m.plan.objects = ltb-true o.0 (length m.plan.objects) (and_parts (nat_lt 0 o.0) (nat_lt o.0 (length m.plan.objects)) h).1 in
    let references = refs_are m.plan past m o.0 tied.references within in
    let held = held_node_is m past o.0 tied.holds in
    let below = below_first_is m past o.0 tied.semas in
    rw (references, held, below) refl
others_are m past act tied h = refl

pub misuse_is : (m : MachineView) (past : List Event) (act : Act) → IsTied m.plan past m → is_act m.plan act ≡ true → misuse_by m act ≡ misuse m.plan past act
unfolding misuse
misuse_is m past act tied h =
    let names = any_low (is_released_at m) (is_released m.plan past) (length m.plan.objects) (named act) (λ o within. released_is m.plan past m o tied.references within) (named_low m.plan act h) in
    ap (λ v. first_code ((6, v) ∷ act_misuses_at m act)) names
    ∙ ap (λ l. first_code ((6, list_any (is_released m.plan past) (named act)) ∷ l)) (others_are m past act tied h)

pub misuse_at_is : (m : MachineView) (past : List Event) (run : Run) (i : ℕ) → IsTied m.plan past m → misuse_of_run m run i ≡ misuse_at m.plan past run i
unfolding misuse_at
misuse_at_is m past run i tied =
    elim (act_at m.plan run i) as (λ o. act_at m.plan run i ≡ o → option_and_then (misuse_by m) o ≡ option_and_then (misuse m.plan past) o) [
      | None ↦ λ none. refl
      | Some act ↦ λ some. misuse_is m past act tied (act_fits m.plan run i act tied.valid some)
    ] refl
