-- What an event submits, told by the view, is what the history says.
use Rattle.std.proofs.Common.{◌≡◌, ℕ, zero, suc, ◌+◌, ◌<◌, ◌≤◌, ◌==◌, true, false, ◌&&◌, ◌||◌, cond, List, [], ◌∷◌, ◌++◌, length, map, Option, Some, None, refl, ap, sym, ◌∙◌, arith, ⊎_elim, eq-eqb, ne_eqb}
use Rattle.std.specs.List.{flat_map, range_with_len}
use Rattle.std.specs.Option.{option_map_or}
use Rattle.std.proofs.lemmas.Bool.{cases_eq, and_parts, eqb-true, or_cases, ltb-true}
use Rattle.std.proofs.lemmas.List.{append-nil, append_assoc}
use Rattle.gcd_plan.specs.PlanView.{PlanView, cancel_block}
use Rattle.gcd_plan.specs.Kinds.{has_kind, is_group_kind, is_queue}
use Rattle.gcd_plan.specs.Validity.{IsPlan, is_declared}
use Rattle.gcd_plan.specs.declared.act.Act.{Act}
use Rattle.gcd_plan.specs.declared.act.Act.TheVariants.{Notify, Leave, NotifyBlock}
use Rattle.gcd_plan.specs.declared.numbers.Blk.{Blk}
use Rattle.gcd_plan.specs.declared.numbers.Obj.{Obj}
use Rattle.gcd_plan.proofs.Within.{declared_within, has_object}
use Rattle.gcd_event.specs.declared.event.Event.{Event}
use Rattle.gcd_event.specs.declared.event.Event.TheVariants.{End}
use Rattle.gcd_history.specs.Runs.{act_of, is_ended}
use Rattle.gcd_history.specs.Groups.{count, leaves, enters}
use Rattle.gcd_history.specs.Submitted.{on_node, submitted_by, accepted_by, cancels, registered, notify_blocks, registered_at_end, end_notify_blocks, new_submissions, at_cancel as at_cancel_of, at_end as at_end_of, at_empty as at_empty_of}
use Rattle.gcd_history.specs.Permitted.{IsLawful, is_worker, has_block}
use Rattle.gcd_history.proofs.Permitted.Reasons.{allowed}
use Rattle.gcd_history.proofs.Blocks.SubmittedOnNodes.{recorded_fits}
use Rattle.gcd_history.proofs.Blocks.NotifiedOnce.{ended_has_none}
use Rattle.gcd_lists.specs.ListsView.{list_at}
use Rattle.gcd_group.specs.GroupsView.{count_at}
use Rattle.gcd_blockobj.specs.MarksView.{has_ended_at}
use Rattle.gcd_refinement.specs.MachineView.{MachineView, block_at}
use Rattle.gcd_refinement.specs.Shape.{PartsFit, OwnFit}
use Rattle.gcd_refinement.specs.Ties.{GroupsAre, BlocksAre, SourcesAre, BlockMarksAre, notify_submission}
use Rattle.gcd_refinement.specs.Submits.{left_by, last_of, emptied_by, at_cancel, at_end, at_told, at_empty, at_notify, submits}
use Rattle.gcd_plan.specs.Needs.{is_of_block}
use Rattle.gcd_refinement.proofs.Rooms.{room_at}
use Rattle.gcd_refinement.proofs.Groups.Members.{is_group}
use Rattle.gcd_refinement.proofs.Step.Groups.{CountsAre, counts_step, acts_count, end_counts, adds}

-- ## Lists over a range

nowhere : {X : Type 0} (f : ℕ → List X) (a n : ℕ) → ((k : ℕ) → a ≤ k → f k ≡ []) → flat_map f (range_with_len a n) ≡ []
nowhere f a zero h = refl
nowhere f a (suc n) h = ap (λ l. l ++ flat_map f (range_with_len (a + 1) n)) (h a (omega arith)) ∙ nowhere f (a + 1) n (λ k low. h k (omega arith))

only_at : {X : Type 0} (f : ℕ → List X) (a n g : ℕ) → a ≤ g → g < a + n → ((k : ℕ) → (k ≡ g → ⊥) → f k ≡ []) → flat_map f (range_with_len a n) ≡ f g
only_at f a zero g low high h = absurd (omega arith)
only_at f a (suc n) g low high h =
    ⊎_elim
    (λ (same : a ≡ g).
    ap (λ l. f a ++ l) (nowhere f (a + 1) n (λ k more. h k (λ e. omega arith))) ∙ (append-nil (f a) ∙ ap f same))
    (λ (other : a ≡ g → ⊥).
    ap (λ l. l ++ flat_map f (range_with_len (a + 1) n)) (h a other) ∙ only_at f (a + 1) n g (omega arith) (omega arith) h)
    (cases_eq a g)

-- ## What fires

-- an empty group has no notify block
pub none_waits : (plan : PlanView) (past : List Event) (g : ℕ) → count plan past g ≡ 0 → notify_blocks plan past g ≡ []
none_waits plan [] g h = refl
none_waits plan (e ∷ past) g h = ap (λ v. cond v [] (notify_blocks plan past g ++ registered g (act_of plan e))) (eq-eqb (count plan (e ∷ past) g) 0 h)

-- a group that was empty or counts after the event fires what the act registers there, if it is empty
fires_new : (plan : PlanView) (past : List Event) (e : Event) (g : ℕ) → (count plan (e ∷ past) g ≡ 0 → count plan past g ≡ 0) → registered g (act_of plan e) ≡ [] → at_empty_of plan past e g ≡ []
fires_new plan past e g was none =
    ⊎_elim
    (λ (zero_now : count plan (e ∷ past) g ≡ 0).
    ap (λ v. cond v (notify_blocks plan past g ++ registered g (act_of plan e)) []) (eq-eqb (count plan (e ∷ past) g) 0 zero_now)
    ∙ (ap (λ l. l ++ registered g (act_of plan e)) (none_waits plan past g (was zero_now)) ∙ none))
    (λ (some : count plan (e ∷ past) g ≡ 0 → ⊥). ap (λ v. cond v (notify_blocks plan past g ++ registered g (act_of plan e)) []) (ne_eqb (count plan (e ∷ past) g) 0 some))
    (cases_eq (count plan (e ∷ past) g) 0)

-- an emptied group fires all its blocks
fires_all : (plan : PlanView) (past : List Event) (e : Event) (g : ℕ) → count plan (e ∷ past) g ≡ 0 → registered g (act_of plan e) ≡ [] → at_empty_of plan past e g ≡ notify_blocks plan past g
fires_all plan past e g now none =
    ap (λ v. cond v (notify_blocks plan past g ++ registered g (act_of plan e)) []) (eq-eqb (count plan (e ∷ past) g) 0 now)
    ∙ (ap (λ l. notify_blocks plan past g ++ l) none ∙ append-nil (notify_blocks plan past g))

-- where one group counts one less, and nothing is registered, that group alone may fire
one_fires : (plan : PlanView) (past : List Event) (e : Event) (v : MachineView) (g : Obj) → g.0 < length plan.objects → GroupsAre plan past v
    → ((k : ℕ) → registered k (act_of plan e) ≡ [])
    → ((k : ℕ) → count plan (e ∷ past) k + cond {A = ℕ} (g.0 == k) 1 0 ≡ count plan past k)
    → flat_map (at_empty_of plan past e) (range_with_len 0 (length plan.objects)) ≡ at_empty v (last_of v (Some g))
one_fires plan past e v g low ties none less =
    let c = ties.counts g.0 in
    let here = less g.0 in
    let own = ap (λ t. cond {A = ℕ} t 1 0) (eq-eqb g.0 g.0 refl) in
    only_at (at_empty_of plan past e) 0 (length plan.objects) g.0 (omega arith) (omega (arith, low))
    (λ k other. fires_new plan past e k (λ z. let l = less k in let o = ap (λ t. cond {A = ℕ} t 1 0) (ne_eqb g.0 k (λ s. other (sym s))) in omega (arith, l, o, z)) (none k))
    ∙ ⊎_elim
    (λ (last : count_at v.groups g.0 ≡ 1).
    fires_all plan past e g.0 (omega (arith, c, here, own, last)) (none g.0)
    ∙ (sym (ties.notify g.0) ∙ ap (λ t. at_empty v (cond t (Some g) None)) (sym (eq-eqb (count_at v.groups g.0) 1 last))))
    (λ (more : count_at v.groups g.0 ≡ 1 → ⊥).
    fires_new plan past e g.0 (λ z. absurd (more (omega (arith, c, here, own, z)))) (none g.0)
    ∙ ap (λ t. at_empty v (cond t (Some g) None)) (sym (ne_eqb (count_at v.groups g.0) 1 more)))
    (cases_eq (count_at v.groups g.0) 1)

-- what a Notify at an empty group fires
notify_fires : (plan : PlanView) (past : List Event) (e : Event) (v : MachineView) (g q : Obj) (b : Blk) → g.0 < length plan.objects → GroupsAre plan past v → act_of plan e ≡ Some (Notify g q b)
    → ((k : ℕ) → count plan (e ∷ past) k ≡ count plan past k)
    → flat_map (at_empty_of plan past e) (range_with_len 0 (length plan.objects)) ≡ at_notify v (Some (Notify g q b))
notify_fires plan past e v g q b low ties at same =
    let here : registered g.0 (act_of plan e) ≡ on_node q b false = ap (registered g.0) at ∙ ap (λ t. cond t (on_node q b false) []) (eq-eqb g.0 g.0 refl) in
    let c = ties.counts g.0 in
    let s = same g.0 in
    only_at (at_empty_of plan past e) 0 (length plan.objects) g.0 (omega arith) (omega (arith, low))
    (λ k other. fires_new plan past e k (λ z. sym (same k) ∙ z) (ap (registered k) at ∙ ap (λ t. cond t (on_node q b false) []) (ne_eqb g.0 k (λ i. other (sym i)))))
    ∙ ⊎_elim
    (λ (empty : count_at v.groups g.0 ≡ 0).
    let now : count plan (e ∷ past) g.0 ≡ 0 = omega (arith, c, s, empty) in
    ap (λ t. cond t (notify_blocks plan past g.0 ++ registered g.0 (act_of plan e)) []) (eq-eqb (count plan (e ∷ past) g.0) 0 now)
    ∙ (ap (λ l. l ++ registered g.0 (act_of plan e)) (none_waits plan past g.0 (sym (same g.0) ∙ now))
    ∙ (here ∙ ap (λ t. cond t (on_node q b false) []) (sym (eq-eqb (count_at v.groups g.0) 0 empty)))))
    (λ (some : count_at v.groups g.0 ≡ 0 → ⊥).
    ap (λ t. cond t (notify_blocks plan past g.0 ++ registered g.0 (act_of plan e)) []) (ne_eqb (count plan (e ∷ past) g.0) 0 (λ z. some (omega (arith, c, s, z))))
    ∙ ap (λ t. cond t (on_node q b false) []) (sym (ne_eqb (count_at v.groups g.0) 0 some)))
    (cases_eq (count_at v.groups g.0) 0)

-- how counts change by an act
abbrev CountsBy : PlanView → List Event → Event → Option Act → Type 0
CountsBy plan past e act = (k : ℕ)
    → count plan (e ∷ past) k + cond {A = ℕ} (leaves k act) 1 0 ≡ count plan past k + (cond {A = ℕ} (adds k act) 1 0 + cond {A = ℕ} (enters k act) 1 0)

-- an act that neither leaves nor registers fires nothing
act_fires : (plan : PlanView) (past : List Event) (e : Event) (v : MachineView) (act : Option Act) → IsPlan plan → GroupsAre plan past v → act_of plan e ≡ act → CountsBy plan past e act
    → flat_map (at_empty_of plan past e) (range_with_len 0 (length plan.objects)) ≡ at_empty v (last_of v (left_by act)) ++ at_notify v act
act_fires plan past e v (Some (Leave g)) valid ties at by =
    let low = has_object is_group_kind plan g.0 (recorded_fits plan e (Leave g) valid at) in
    one_fires plan past e v g low ties (λ k. ap (registered k) at) (λ k. let b = by k in omega (arith, b))
    ∙ sym (append-nil (at_empty v (last_of v (Some g))))
act_fires plan past e v (Some (Notify g q b)) valid ties at by =
    let low = has_object is_group_kind plan g.0 (and_parts (has_kind is_group_kind plan g.0) (is_queue plan q.0 && is_declared plan b) (recorded_fits plan e (Notify g q b) valid at)).0 in
    notify_fires plan past e v g q b low ties at (λ k. let c = by k in omega (arith, c))
act_fires plan past e v _ valid ties at by =
    nowhere (at_empty_of plan past e) 0 (length plan.objects) (λ k low. fires_new plan past e k (λ z. let c = by k in omega (arith, c, z)) (ap (registered k) at))

pub counts_of : (plan : PlanView) (past : List Event) (v : MachineView) → GroupsAre plan past v → CountsAre plan past v.groups
counts_of plan past v ties = record { counts = ties.counts; entered = ties.entered }

end_fires : (plan : PlanView) (past : List Event) (w : ℕ) (b : Blk) (v : MachineView) → IsPlan plan → IsLawful plan (End w b ∷ past) → OwnFit plan v → GroupsAre plan past v → BlocksAre plan past v
    → flat_map (at_empty_of plan past (End w b)) (range_with_len 0 (length plan.objects)) ≡ at_empty v (last_of v (block_at v b.0).group) ++ []
end_fires plan past w b v valid lawful own ties blocks =
    let less : (k : ℕ) → count plan (End w b ∷ past) k + cond {A = ℕ} (is_group k (block_at v b.0).group) 1 0 ≡ count plan past k = λ k.
    let c = end_counts plan past w b valid lawful k in let m = ap (λ p. cond {A = ℕ} (is_group k p) 1 0) (blocks.group b.0) in omega (arith, c, m) in
    elim (block_at v b.0).group as (λ o. ((g : Obj) → o ≡ Some g → g.0 < length plan.objects) → ((k : ℕ) → count plan (End w b ∷ past) k + cond {A = ℕ} (is_group k o) 1 0 ≡ count plan past k)
    → flat_map (at_empty_of plan past (End w b)) (range_with_len 0 (length plan.objects)) ≡ at_empty v (last_of v o) ++ []) [
      | None ↦ λ low l. nowhere (at_empty_of plan past (End w b)) 0 (length plan.objects) (λ k _. fires_new plan past (End w b) k (λ z. let c = l k in omega (arith, c, z)) refl)
      | Some g ↦ λ low l. one_fires plan past (End w b) v g (low g refl) ties (λ k. refl) l ∙ sym (append-nil (at_empty v (last_of v (Some g))))
    ] (own.groups b.0) less

fires : (plan : PlanView) (past : List Event) (e : Event) (v : MachineView) → IsPlan plan → IsLawful plan (e ∷ past) → PartsFit plan v → OwnFit plan v → GroupsAre plan past v → BlocksAre plan past v
    → flat_map (at_empty_of plan past e) (range_with_len 0 (length plan.objects)) ≡ at_empty v (emptied_by plan v e) ++ at_notify v (act_of plan e)
fires plan past (End w b) v valid lawful fit own ties blocks = end_fires plan past w b v valid lawful own ties blocks
fires plan past e v valid lawful fit own ties blocks =
    act_fires plan past e v (act_of plan e) valid ties refl
    (acts_count plan past e v valid lawful fit (counts_of plan past v ties) refl (counts_step plan past e v valid lawful fit own (counts_of plan past v ties) blocks))

-- ## What an end tells

-- a block that had ended, or has not, tells what the act registers there, if it has ended
tells_new : (plan : PlanView) (past : List Event) (e : Event) (b : ℕ) → (is_ended (e ∷ past) b ≡ true → is_ended past b ≡ true) → registered_at_end b (act_of plan e) ≡ [] → at_end_of plan past e b ≡ []
tells_new plan past e b was none =
    elim (is_ended (e ∷ past) b) as (λ v. is_ended (e ∷ past) b ≡ v → cond v (end_notify_blocks plan past b ++ registered_at_end b (act_of plan e)) [] ≡ []) [
      | true ↦ λ h. ap (λ l. l ++ registered_at_end b (act_of plan e)) (ended_has_none plan past b (was h)) ∙ none
      | false ↦ λ h. refl
    ] refl

-- a block that ends tells all its blocks
end_tells : (plan : PlanView) (past : List Event) (w : ℕ) (d : Blk) (v : MachineView) → d.0 < length plan.blocks → BlockMarksAre plan past v
    → flat_map (at_end_of plan past (End w d)) (range_with_len 0 (length plan.blocks)) ≡ map (notify_submission v) (list_at v.marks.notify d.0)
end_tells plan past w d v low marks =
    only_at (at_end_of plan past (End w d)) 0 (length plan.blocks) d.0 (omega arith) (omega (arith, low))
    (λ k other. tells_new plan past (End w d) k (λ h. ⊎_elim (λ same. absurd (other (sym (eqb-true d.0 k same)))) (λ old. old) (or_cases (d.0 == k) (is_ended past k) h)) refl)
    ∙ (ap (λ u. cond (u || is_ended past d.0) (end_notify_blocks plan past d.0 ++ []) []) (eq-eqb d.0 d.0 refl)
    ∙ (append-nil (end_notify_blocks plan past d.0) ∙ sym (marks.notify d.0)))

-- what is known of the block at which an act registers another
abbrev Noted : PlanView → List Event → MachineView → Option Act → Type 0
Noted plan past v act = (c : Blk) (q : Obj) (d : Blk) → act ≡ Some (NotifyBlock c q d) → (c.0 < length plan.blocks) × (has_ended_at v.marks c.0 ≡ is_ended past c.0)

act_tells : (plan : PlanView) (past : List Event) (e : Event) (v : MachineView) (act : Option Act) → act_of plan e ≡ act → ((k : ℕ) → is_ended (e ∷ past) k ≡ is_ended past k) → Noted plan past v act
    → flat_map (at_end_of plan past e) (range_with_len 0 (length plan.blocks)) ≡ at_told v act
act_tells plan past e v (Some (NotifyBlock c q d)) at same noted =
    let known = noted c q d refl in
    let here : registered_at_end c.0 (act_of plan e) ≡ on_node q d false = ap (registered_at_end c.0) at ∙ ap (λ t. cond t (on_node q d false) []) (eq-eqb c.0 c.0 refl) in
    only_at (at_end_of plan past e) 0 (length plan.blocks) c.0 (omega arith) (omega (arith, known.0))
    (λ k other. tells_new plan past e k (λ h. sym (same k) ∙ h) (ap (registered_at_end k) at ∙ ap (λ t. cond t (on_node q d false) []) (ne_eqb c.0 k (λ i. other (sym i)))))
    ∙ (ap (λ t. cond t (end_notify_blocks plan past c.0 ++ registered_at_end c.0 (act_of plan e)) []) (same c.0)
    ∙ (elim (is_ended past c.0) as (λ t. is_ended past c.0 ≡ t → cond t (end_notify_blocks plan past c.0 ++ registered_at_end c.0 (act_of plan e)) [] ≡ cond t (on_node q d false) []) [
      | true ↦ λ h. ap (λ l. l ++ registered_at_end c.0 (act_of plan e)) (ended_has_none plan past c.0 h) ∙ here
      | false ↦ λ h. refl
    ] refl
    ∙ ap (λ t. cond t (on_node q d false) []) (sym known.1)))
act_tells plan past e v _ at same noted =
    nowhere (at_end_of plan past e) 0 (length plan.blocks) (λ k low. tells_new plan past e k (λ h. sym (same k) ∙ h) (ap (registered_at_end k) at))

-- the act is of the plan, and marks are kept
noted_at : (plan : PlanView) (past : List Event) (e : Event) (v : MachineView) → IsPlan plan → BlockMarksAre plan past v → Noted plan past v (act_of plan e)
noted_at plan past e v valid marks c q d at =
    let low = declared_within plan c (and_parts (is_declared plan c) _ (recorded_fits plan e (NotifyBlock c q d) valid at)).0 in
    let room = room_at is_of_block plan e (NotifyBlock c q d) at refl in
    (low, marks.ended c.0 (omega (arith, low, room)))

tells : (plan : PlanView) (past : List Event) (e : Event) (v : MachineView) → IsPlan plan → IsLawful plan (e ∷ past) → BlockMarksAre plan past v
    → flat_map (at_end_of plan past e) (range_with_len 0 (length plan.blocks)) ≡ at_end v e ++ at_told v (act_of plan e)
tells plan past (End w d) v valid lawful marks =
    let known = ltb-true d.0 (length plan.blocks) (and_parts (is_worker w) (has_block plan d.0) (allowed plan past (End w d) lawful.1).known).1 in
    end_tells plan past w d v known marks ∙ sym (append-nil (map (notify_submission v) (list_at v.marks.notify d.0)))
tells plan past e v valid lawful marks = act_tells plan past e v (act_of plan e) refl (λ k. refl) (noted_at plan past e v valid marks)

-- ## All together

cancel_same : (plan : PlanView) (past : List Event) (v : MachineView) (o : Option Obj) → SourcesAre plan past v → at_cancel plan v o ≡ at_cancel_of plan past o
cancel_same plan past v None ties = refl
cancel_same plan past v (Some s) ties = ap (λ t. cond t [] (option_map_or (λ b. on_node s b false) (cancel_block plan s.0) [])) (ties.cancelled s.0)

-- the view tells what the event submits
pub submits_are : (plan : PlanView) (past : List Event) (e : Event) (v : MachineView) → IsPlan plan → IsLawful plan (e ∷ past) → PartsFit plan v → OwnFit plan v → GroupsAre plan past v → BlocksAre plan past v
    → SourcesAre plan past v → BlockMarksAre plan past v → submits plan v e ≡ new_submissions plan past e
submits_are plan past e v valid lawful fit own groups blocks sources marks =
    let first = submitted_by plan (act_of plan e) ++ accepted_by plan e in
    let ends = at_end v e in
    let told = at_told v (act_of plan e) in
    let empties = at_empty v (emptied_by plan v e) in
    let fired = at_notify v (act_of plan e) in
    append_assoc (((first ++ at_cancel plan v (cancels plan e)) ++ ends) ++ told) empties fired
    ∙ (ap (λ l. l ++ (empties ++ fired)) (append_assoc (first ++ at_cancel plan v (cancels plan e)) ends told)
    ∙ (ap (λ l. ((first ++ l) ++ (ends ++ told)) ++ (empties ++ fired)) (cancel_same plan past v (cancels plan e) sources)
    ∙ (ap (λ l. ((first ++ at_cancel_of plan past (cancels plan e)) ++ l) ++ (empties ++ fired)) (sym (tells plan past e v valid lawful marks))
    ∙ ap (λ l. ((first ++ at_cancel_of plan past (cancels plan e)) ++ flat_map (at_end_of plan past e) (range_with_len 0 (length plan.blocks))) ++ l) (sym (fires plan past e v valid lawful fit own groups blocks)))))
