-- Who waits for the end of a block, and who applied a strip, after an event.
use Rattle.std.proofs.Common.{◌≡◌, ⊎_elim, ℕ, zero, suc, ◌+◌, ◌<◌, ◌==◌, nat_lt, Bool, true, false, ◌&&◌, ◌||◌, cond, List, [], ◌∷◌, ◌++◌, length, map, get_or, set, Option, Some, None, refl, ap, sym, ◌∙◌, arith, eq-eqb, ne_eqb, option_to_list}
use Rattle.std.specs.Option.{option_map_or, option_and_then}
use Rattle.std.proofs.lemmas.Bool.{cases_eq, and_parts, eqb-true, ltb-true}
use Rattle.std.proofs.lemmas.List.{append-nil, map-append}
use Rattle.gcd_plan.proofs.Places.{get_or-replicate_same}
use Rattle.gcd_plan.specs.Kinds.{is_queue}
use Rattle.gcd_plan.specs.Made.{strip_blocks}
use Rattle.gcd_plan.specs.PlanView.{PlanView}
use Rattle.gcd_plan.specs.Validity.{IsPlan}
use Rattle.gcd_plan.specs.declared.act.Act.{Act}
use Rattle.gcd_plan.specs.declared.act.Act.TheVariants.{Apply, WaitBlock}
use Rattle.gcd_plan.specs.declared.numbers.Blk.{Blk}
use Rattle.gcd_plan.specs.declared.numbers.Run.TheVariants.{Block}
use Rattle.gcd_plan.proofs.Within.{declared_within}
use Rattle.gcd_event.specs.declared.event.Event.{Event}
use Rattle.gcd_event.specs.declared.event.Event.TheVariants.{Act as Acted, End}
use Rattle.gcd_history.specs.Runs.{act_at, is_ended}
use Rattle.gcd_history.specs.Permitted.{IsLawful}
use Rattle.gcd_history.proofs.Blocks.SubmittedOnNodes.{recorded_fits}
use Rattle.gcd_lists.specs.ListsView.{ListsView, list_at}
use Rattle.gcd_apply.specs.StripsView.{strip_of, left_at}
use Rattle.gcd_plan.specs.Needs.{is_of_block, mark_room}
use Rattle.gcd_refinement.specs.MachineView.{MachineView, machine_of, ended_at, applier_at}
use Rattle.gcd_refinement.specs.Shape.{PartsFit, OwnFit}
use Rattle.gcd_refinement.specs.Sleepers.{waits_for_end, applies, end_waiters, is_done, strip_sleepers}
use Rattle.gcd_refinement.specs.Ties.{BlocksAre, StripsAre, WaitersAre}
use Rattle.gcd_refinement.specs.Submits.{done_by}
use Rattle.gcd_refinement.specs.AfterSleepers.{pushed_on, waiting_by, waiters_after, applied_by, none_applying, appliers_after}
use Rattle.gcd_refinement.specs.After.{after}
use Rattle.gcd_refinement.proofs.Lists.Among.{among, itself}
use Rattle.gcd_refinement.proofs.Lists.Writes.{entry_set, entry_cleared}
use Rattle.gcd_refinement.proofs.Rooms.{room_at}
use Rattle.gcd_refinement.proofs.Sleepers.Callers.{none_waits_for}
use Rattle.gcd_refinement.proofs.Blocks.StripBlocks.{is_its_strip, strip_at_is, left_of, all_ended_is}
use Rattle.gcd_refinement.proofs.Step.Strips.{end_left, end_within}
use Rattle.gcd_refinement.proofs.Sleepers.Strips.{none_sleeps, applied_once}

abbrev blocks_in_list : ListsView → ℕ → List Blk
blocks_in_list lists c = map (λ w. w.0) (list_at lists c)

-- ## The outset

pub waiters_begin : (plan : PlanView) → WaitersAre plan [] (machine_of plan)
waiters_begin plan = record {
  of_block = λ c. ap (map (λ (w : Blk × Bool). w.0)) (by c);
  of_strip = λ a. ap option_to_list (get_or-replicate_same {A = Option Blk} (length plan.strips) a None);
}
  where
    by : (c : ℕ) → list_at (machine_of plan).waiters c ≡ []
    by c = get_or-replicate_same {A = List (Blk × Bool)} (mark_room plan) c []

-- ## Who waits for an end

-- nobody more waits for a block, which ended before or has not
waits_on_still : (plan : PlanView) (past : List Event) (c : ℕ) → cond (is_ended past c) [] (end_waiters plan past c ++ []) ≡ end_waiters plan past c
waits_on_still plan past c =
    elim (is_ended past c) as (λ t. is_ended past c ≡ t → cond t [] (end_waiters plan past c ++ []) ≡ end_waiters plan past c) [
      | true ↦ λ h. sym (none_waits_for plan past c h)
      | false ↦ λ h. append-nil (end_waiters plan past c)
    ] refl

-- block b comes to wait for block d
comes : (plan : PlanView) (past : List Event) (v : MachineView) (b d : Blk) (c : ℕ) → OwnFit plan v → BlocksAre plan past v → WaitersAre plan past v → d.0 < length v.waiters.lists
    → blocks_in_list (cond (ended_at v d.0) v.waiters (pushed_on v.waiters (record { 0 = d.0 }) b false)) c ≡ cond (is_ended past c) [] (end_waiters plan past c ++ cond (d.0 == c) (b ∷ []) [])
comes plan past v b d c own blocks tie low =
    ap (λ t. blocks_in_list (cond t v.waiters (pushed_on v.waiters (record { 0 = d.0 }) b false)) c) (blocks.ended d.0)
    ∙ ⊎_elim
    (λ (same : d.0 ≡ c).
    let here = eq-eqb d.0 c same in
    ap (λ n. blocks_in_list (cond (is_ended past n) v.waiters (pushed_on v.waiters (record { 0 = d.0 }) b false)) c) same
    ∙ (elim (is_ended past c) as (λ t. is_ended past c ≡ t → blocks_in_list (cond t v.waiters (pushed_on v.waiters (record { 0 = d.0 }) b false)) c ≡ cond t [] (end_waiters plan past c ++ (b ∷ []))) [
      | true ↦ λ h. tie.of_block c ∙ none_waits_for plan past c h
      | false ↦ λ h.
          ap (map (λ (w : Blk × Bool). w.0)) (entry_set v.waiters.lists d.0 c (list_at v.waiters d.0 ++ (b, false) ∷ []) [] low ∙ ap (λ t. cond t (list_at v.waiters d.0 ++ (b, false) ∷ []) (list_at v.waiters c)) here)
          ∙ (map-append (λ (w : Blk × Bool). w.0) (list_at v.waiters d.0) ((b, false) ∷ [])
          ∙ ap (λ l. l ++ (b ∷ [])) (ap (blocks_in_list v.waiters) same ∙ tie.of_block c))
    ] refl
    ∙ ap (λ t. cond (is_ended past c) [] (end_waiters plan past c ++ cond t (b ∷ []) [])) (sym here)))
    (λ (other : d.0 ≡ c → ⊥).
    let there = ne_eqb d.0 c other in
    ap (map (λ (w : Blk × Bool). w.0))
    (elim (is_ended past d.0) as (λ t. list_at (cond t v.waiters (pushed_on v.waiters (record { 0 = d.0 }) b false)) c ≡ list_at v.waiters c) [
      | true ↦ refl
      | false ↦ entry_set v.waiters.lists d.0 c (list_at v.waiters d.0 ++ (b, false) ∷ []) [] low ∙ ap (λ t. cond t (list_at v.waiters d.0 ++ (b, false) ∷ []) (list_at v.waiters c)) there
    ])
    ∙ (tie.of_block c ∙ (sym (waits_on_still plan past c) ∙ ap (λ t. cond (is_ended past c) [] (end_waiters plan past c ++ cond t (b ∷ []) [])) (sym there))))
    (cases_eq d.0 c)

waits_by_act : (plan : PlanView) (past : List Event) (w : ℕ) (b : Blk) (i : ℕ) (v : MachineView) (c : ℕ) (act : Option Act) → IsPlan plan → OwnFit plan v → BlocksAre plan past v → WaitersAre plan past v → act_at plan (Block b) i ≡ act
    → blocks_in_list (waiting_by v b act) c ≡ cond (is_ended past c) [] (end_waiters plan past c ++ cond (waits_for_end c act) (b ∷ []) [])
waits_by_act plan past w b i v c (Some (WaitBlock d)) valid own blocks tie at =
    let low = declared_within plan d (recorded_fits plan (Acted w (Block b) i) (WaitBlock d) valid at) in
    let room = room_at is_of_block plan (Acted w (Block b) i) (WaitBlock d) at refl in
    let long = own.waiters in
    comes plan past v b d c own blocks tie (omega (arith, low, room, long))
waits_by_act plan past w b i v c act valid own blocks tie at = tie.of_block c ∙ sym (waits_on_still plan past c)

of_block_step : (plan : PlanView) (past : List Event) (e : Event) (v : MachineView) (c : ℕ) → IsPlan plan → OwnFit plan v → BlocksAre plan past v → WaitersAre plan past v → blocks_in_list (waiters_after plan v e) c ≡ end_waiters plan (e ∷ past) c
of_block_step plan past (Acted w (Block b) i) v c valid own blocks tie = waits_by_act plan past w b i v c (act_at plan (Block b) i) valid own blocks tie refl
of_block_step plan past (End w b) v c valid own blocks tie =
    ap (map (λ (w : Blk × Bool). w.0)) (entry_cleared v.waiters.lists b.0 c [])
    ∙ elim (b.0 == c) as (λ t. map (λ (w : Blk × Bool). w.0) (cond t [] (list_at v.waiters c)) ≡ cond (t || is_ended past c) [] (end_waiters plan past c ++ [])) [
      | true ↦ refl
      | false ↦ tie.of_block c ∙ sym (waits_on_still plan past c)
    ]
of_block_step plan past e v c valid own blocks tie = tie.of_block c ∙ sym (waits_on_still plan past c)

-- ## Who applied a strip

sleeps_still : (plan : PlanView) (past : List Event) (a : ℕ) → cond (is_done plan past a) [] (strip_sleepers plan past a ++ []) ≡ strip_sleepers plan past a
sleeps_still plan past a =
    elim (is_done plan past a) as (λ t. is_done plan past a ≡ t → cond t [] (strip_sleepers plan past a ++ []) ≡ strip_sleepers plan past a) [
      | true ↦ λ h. sym (none_sleeps plan past a h)
      | false ↦ λ h. append-nil (strip_sleepers plan past a)
    ] refl

-- none is left of a strip that is done
pub done_is : (plan : PlanView) (past : List Event) (v : MachineView) (a : ℕ) → StripsAre plan past v → (left_at v.strips a == 0) ≡ is_done plan past a
done_is plan past v a strips = ap (λ n. n == 0) (strips.left a) ∙ sym (all_ended_is (is_ended past) (strip_blocks plan a))

applies_here : (plan : PlanView) (past : List Event) (w : ℕ) (b : Blk) (i : ℕ) (v : MachineView) (k a : ℕ) → IsPlan plan → IsLawful plan (Acted w (Block b) i ∷ past) → StripsAre plan past v → WaitersAre plan past v → k < length v.appliers
    → applies k (act_at plan (Block b) i) ≡ true
    → option_to_list (get_or (cond (left_at v.strips k == 0) v.appliers (set v.appliers k (Some b))) a None) ≡ cond (is_done plan past a) [] (strip_sleepers plan past a ++ cond (k == a) (b ∷ []) [])
applies_here plan past w b i v k a valid lawful strips tie low now =
    ap (λ t. option_to_list (get_or (cond t v.appliers (set v.appliers k (Some b))) a None)) (done_is plan past v k strips)
    ∙ ⊎_elim
    (λ (same : k ≡ a).
    let here = eq-eqb k a same in
    ap (λ n. option_to_list (get_or (cond (is_done plan past n) v.appliers (set v.appliers k (Some b))) a None)) same
    ∙ (elim (is_done plan past a) as (λ t. is_done plan past a ≡ t → option_to_list (get_or (cond t v.appliers (set v.appliers k (Some b))) a None) ≡ cond t [] (strip_sleepers plan past a ++ (b ∷ []))) [
      | true ↦ λ h. tie.of_strip a ∙ none_sleeps plan past a h
      | false ↦ λ h.
          let first : strip_sleepers plan past a ≡ [] =
          applied_once plan past (Acted w (Block b) i) a b valid lawful (ap (λ n. among b (cond (applies n (act_at plan (Block b) i)) (b ∷ []) [])) (sym same) ∙ (ap (λ t. among b (cond t (b ∷ []) [])) now ∙ itself b b refl)) h in
          ap option_to_list (entry_set v.appliers k a (Some b) None low ∙ ap (λ t. cond t (Some b) (get_or v.appliers a None)) here) ∙ ap (λ l. l ++ (b ∷ [])) (sym first)
    ] refl
    ∙ ap (λ t. cond (is_done plan past a) [] (strip_sleepers plan past a ++ cond t (b ∷ []) [])) (sym here)))
    (λ (other : k ≡ a → ⊥).
    let there = ne_eqb k a other in
    ap option_to_list
    (elim (is_done plan past k) as (λ t. get_or (cond t v.appliers (set v.appliers k (Some b))) a None ≡ get_or v.appliers a None) [
      | true ↦ refl
      | false ↦ entry_set v.appliers k a (Some b) None low ∙ ap (λ t. cond t (Some b) (get_or v.appliers a None)) there
    ])
    ∙ (tie.of_strip a ∙ (sym (sleeps_still plan past a) ∙ ap (λ t. cond (is_done plan past a) [] (strip_sleepers plan past a ++ cond t (b ∷ []) [])) (sym there))))
    (cases_eq k a)

applies_by_act : (plan : PlanView) (past : List Event) (w : ℕ) (b : Blk) (i : ℕ) (v : MachineView) (a : ℕ) (act : Option Act) → IsPlan plan → IsLawful plan (Acted w (Block b) i ∷ past) → OwnFit plan v → StripsAre plan past v → WaitersAre plan past v
    → act_at plan (Block b) i ≡ act → option_to_list (get_or (applied_by v b act) a None) ≡ cond (is_done plan past a) [] (strip_sleepers plan past a ++ cond (applies a act) (b ∷ []) [])
applies_by_act plan past w b i v a (Some (Apply q k)) valid lawful own strips tie at =
    let low = ltb-true k (length plan.strips) (and_parts (is_queue plan q.0) (nat_lt k (length plan.strips)) (recorded_fits plan (Acted w (Block b) i) (Apply q k) valid at)).1 in
    let long = own.appliers in
    applies_here plan past w b i v k a valid lawful strips tie (omega (arith, low, long)) (ap (applies k) at ∙ eq-eqb k k refl)
applies_by_act plan past w b i v a act valid lawful own strips tie at = tie.of_strip a ∙ sym (sleeps_still plan past a)

-- the strip of which the block that ends is the last
pub done_with : (plan : PlanView) (v : MachineView) (b : Blk) (a : ℕ) → PartsFit plan v → b.0 < length plan.blocks → get_or (none_applying v.appliers (done_by v b)) a None ≡ cond (is_its_strip plan b.0 a && left_at v.strips a == 1) None (applier_at v a)
done_with plan v b a fit low =
    ap (λ o. get_or (none_applying v.appliers (option_and_then (λ k. cond (left_at v.strips k == 1) (Some k) None) o)) a None) (strip_at_is plan v b.0 fit low) ∙ by (strip_of plan b.0)
  where
    by : (o : Option ℕ) → get_or (none_applying v.appliers (option_and_then (λ k. cond (left_at v.strips k == 1) (Some k) None) o)) a None ≡ cond (option_map_or (λ k. k == a) o false && left_at v.strips a == 1) None (applier_at v a)
    by None = refl
    by (Some k) =
        ⊎_elim
        (λ (same : k ≡ a).
        let here = eq-eqb k a same in
        ap (λ n. get_or (none_applying v.appliers (cond (left_at v.strips n == 1) (Some k) None)) a None) same
        ∙ (elim (left_at v.strips a == 1) as (λ t. get_or (none_applying v.appliers (cond t (Some k) None)) a None ≡ cond t None (applier_at v a)) [
          | true ↦ entry_cleared v.appliers k a None ∙ ap (λ t. cond t None (applier_at v a)) here
          | false ↦ refl
        ]
        ∙ ap (λ t. cond (t && left_at v.strips a == 1) None (applier_at v a)) (sym here)))
        (λ (other : k ≡ a → ⊥).
        let there = ne_eqb k a other in
        elim (left_at v.strips k == 1) as (λ t. get_or (none_applying v.appliers (cond t (Some k) None)) a None ≡ applier_at v a) [
          | true ↦ entry_cleared v.appliers k a None ∙ ap (λ t. cond t None (applier_at v a)) there
          | false ↦ refl
        ]
        ∙ ap (λ t. cond (t && left_at v.strips a == 1) None (applier_at v a)) (sym there))
        (cases_eq k a)

-- and the view tells it
pub done_by_last : (plan : PlanView) (v : MachineView) (b : Blk) (a : ℕ) → PartsFit plan v → b.0 < length plan.blocks → is_its_strip plan b.0 a ≡ true → (left_at v.strips a == 1) ≡ true → done_by v b ≡ Some a
done_by_last plan v b a fit low own one =
    ap (option_and_then (λ k. cond (left_at v.strips k == 1) (Some k) None)) (strip_at_is plan v b.0 fit low) ∙ by (strip_of plan b.0) own
  where
    by : (o : Option ℕ) → option_map_or (λ k. k == a) o false ≡ true → option_and_then (λ k. cond (left_at v.strips k == 1) (Some k) None) o ≡ Some a
    by None h = cc
    by (Some k) h =
        let same : k ≡ a = eqb-true k a h in
        ap (λ n. cond (left_at v.strips n == 1) (Some n) None) same ∙ ap (λ t. cond t (Some a) None) one

-- a strip is done by the end of its last block, or was done
pub done_after : (plan : PlanView) (past : List Event) (w : ℕ) (b : Blk) (v : MachineView) (a : ℕ) → IsPlan plan → IsLawful plan (End w b ∷ past) → StripsAre plan past v
    → is_done plan (End w b ∷ past) a ≡ ((is_its_strip plan b.0 a && left_at v.strips a == 1) || is_done plan past a)
done_after plan past w b v a valid lawful strips =
    let before = strips.left a in
    let after = end_left plan past w b a valid lawful in
    all_ended_is (is_ended (End w b ∷ past)) (strip_blocks plan a)
    ∙ (elim (is_its_strip plan b.0 a) as (λ t. is_its_strip plan b.0 a ≡ t → (left_of (is_ended (End w b ∷ past)) (strip_blocks plan a) == 0) ≡ ((t && left_at v.strips a == 1) || (left_of (is_ended past) (strip_blocks plan a) == 0))) [
      | true ↦ λ h.
          let one = ap (λ t. cond {A = ℕ} t 1 0) h in
          let some : (left_of (is_ended past) (strip_blocks plan a) == 0) ≡ false = ne_eqb (left_of (is_ended past) (strip_blocks plan a)) 0 (λ z. omega (arith, after, one, z)) in
          last (left_of (is_ended (End w b ∷ past)) (strip_blocks plan a)) (left_at v.strips a) (omega (arith, before, after, one)) ∙ (or_none (left_at v.strips a == 1) ∙ ap (λ t. left_at v.strips a == 1 || t) (sym some))
      | false ↦ λ h. let none = ap (λ t. cond {A = ℕ} t 1 0) h in ap (λ n. n == 0) (let e : left_of (is_ended (End w b ∷ past)) (strip_blocks plan a) ≡ left_of (is_ended past) (strip_blocks plan a) = omega (arith, after, none) in e)
    ] refl
    ∙ ap (λ t. (is_its_strip plan b.0 a && left_at v.strips a == 1) || t) (sym (all_ended_is (is_ended past) (strip_blocks plan a))))
  where
    last : (m n : ℕ) → n ≡ m + 1 → (m == 0) ≡ (n == 1)
    last zero n e = sym (eq-eqb n 1 (omega (arith, e)))
    last (suc m) n e = ne_eqb (suc m) 0 (λ z. omega (arith, z)) ∙ sym (ne_eqb n 1 (λ z. omega (arith, e, z)))

    or_none : (t : Bool) → t ≡ (t || false)
    or_none true = refl
    or_none false = refl

of_strip_step : (plan : PlanView) (past : List Event) (e : Event) (v : MachineView) (a : ℕ) → IsPlan plan → IsLawful plan (e ∷ past) → PartsFit plan v → OwnFit plan v → StripsAre plan past v → WaitersAre plan past v
    → option_to_list (get_or (appliers_after plan v e) a None) ≡ strip_sleepers plan (e ∷ past) a
of_strip_step plan past (Acted w (Block b) i) v a valid lawful fit own strips tie = applies_by_act plan past w b i v a (act_at plan (Block b) i) valid lawful own strips tie refl
of_strip_step plan past (End w b) v a valid lawful fit own strips tie =
    ap option_to_list (done_with plan v b a fit (end_within plan past w b lawful))
    ∙ (elim (is_its_strip plan b.0 a && left_at v.strips a == 1) as (λ t. option_to_list (cond t None (applier_at v a)) ≡ cond (t || is_done plan past a) [] (strip_sleepers plan past a ++ [])) [
      | true ↦ refl
      | false ↦ tie.of_strip a ∙ sym (sleeps_still plan past a)
    ]
    ∙ ap (λ t. cond t [] (strip_sleepers plan past a ++ [])) (sym (done_after plan past w b v a valid lawful strips)))
of_strip_step plan past e v a valid lawful fit own strips tie = tie.of_strip a ∙ sym (sleeps_still plan past a)

pub waiters_step : (plan : PlanView) (past : List Event) (e : Event) (v : MachineView) → IsPlan plan → IsLawful plan (e ∷ past) → PartsFit plan v → OwnFit plan v → BlocksAre plan past v → StripsAre plan past v → WaitersAre plan past v
    → WaitersAre plan (e ∷ past) (after plan v e)
waiters_step plan past e v valid lawful fit own blocks strips tie = record {
  of_block = λ c. of_block_step plan past e v c valid own blocks tie;
  of_strip = λ a. of_strip_step plan past e v a valid lawful fit own strips tie;
}
