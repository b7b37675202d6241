-- Which blocks are cancelled, have started and have ended, and the notify blocks of blocks, after an event.
use Rattle.std.proofs.Common.{◌≡◌, ⊎_elim, ℕ, ◌<◌, ◌≤◌, ◌==◌, Bool, true, false, not, ◌&&◌, ◌||◌, cond, List, [], ◌∷◌, ◌++◌, length, map, get_or, set, Option, Some, refl, ap, sym, ◌∙◌, arith, eq-eqb, ne_eqb}
use Rattle.std.specs.List.{count_by}
use Rattle.std.proofs.lemmas.Bool.{cases_eq, cases_lt, and_parts}
use Rattle.std.proofs.lemmas.List.{append-nil, map-append, get_or_past}
use Rattle.gcd_plan.proofs.Places.{get_or-replicate_same}
use Rattle.gcd_plan.specs.PlanView.{PlanView}
use Rattle.gcd_plan.specs.Validity.{IsPlan, is_declared}
use Rattle.gcd_plan.specs.declared.act.Act.{Act}
use Rattle.gcd_plan.specs.declared.act.Act.TheVariants.{CancelBlock, NotifyBlock}
use Rattle.gcd_plan.specs.declared.numbers.Blk.{Blk}
use Rattle.gcd_plan.specs.declared.numbers.Obj.{Obj}
use Rattle.gcd_plan.proofs.Within.{declared_within}
use Rattle.gcd_event.specs.declared.event.Event.{Event}
use Rattle.gcd_event.specs.declared.event.Event.TheVariants.{Start, Act as Acted, End}
use Rattle.gcd_history.specs.Runs.{act_at, act_of, is_started, is_ended}
use Rattle.gcd_history.specs.Cancelled.{cancels_block, is_block_cancelled}
use Rattle.gcd_history.specs.Submitted.{on_node, registered_at_end, end_notify_blocks}
use Rattle.gcd_history.specs.Permitted.{IsLawful}
use Rattle.gcd_history.proofs.Blocks.SubmittedOnNodes.{recorded_fits}
use Rattle.gcd_history.proofs.Blocks.SubmittedOnce.{is_of}
use Rattle.gcd_history.proofs.Blocks.NotifiedOnce.{ended_has_none}
use Rattle.gcd_lists.specs.ListsView.{list_at}
use Rattle.gcd_plan.specs.Needs.{is_of_block, mark_room}
use Rattle.gcd_blockobj.specs.MarksView.{MarksView, is_cancelled_at, has_begun_at, has_ended_at, with_notify}
use Rattle.gcd_refinement.specs.MachineView.{MachineView, machine_of, block_at}
use Rattle.gcd_refinement.specs.Shape.{PartsFit, OwnFit}
use Rattle.gcd_refinement.specs.Ties.{BlockMarksAre, notify_submission}
use Rattle.gcd_refinement.specs.AfterStrips.{all_told, told_if_ended, marks_by, marks_after}
use Rattle.gcd_refinement.specs.After.{after}
use Rattle.gcd_refinement.proofs.Lists.Writes.{entry_set, entry_within, entry_cleared}
use Rattle.gcd_plan.proofs.Needed.{room_low}
use Rattle.gcd_refinement.proofs.Rooms.{room_at}
use Rattle.gcd_refinement.proofs.Groups.NotifyQueues.{home_of, homed, homes_after}
use Rattle.gcd_refinement.proofs.Blocks.Registered.{registers_at}
use Rattle.gcd_refinement.proofs.Blocks.Unregistered.{WaitsNowhere, at_group_once, at_block_once, not_at_block, Lacks, told_eq, told_as_before}
use Rattle.gcd_refinement.proofs.Step.GroupTies.{nothing_mapped}

-- ## The outset

pub block_marks_begin : (plan : PlanView) → BlockMarksAre plan [] (machine_of plan)
block_marks_begin plan =
    let n = mark_room plan in
    record {
      cancelled = λ b. get_or-replicate_same n b false;
      began = λ b low. get_or-replicate_same n b false;
      ended = λ b low. get_or-replicate_same n b false;
      notify = λ b. ap (map (notify_submission (machine_of plan))) (get_or-replicate_same n b []);
    }

-- ## Who is cancelled

or_none : (t : Bool) → t ≡ (t || false)
or_none true = refl
or_none false = refl

cancelled_by : (plan : PlanView) (past : List Event) (e : Event) (v : MachineView) (b : ℕ) (act : Option Act) → IsPlan plan → PartsFit plan v → BlockMarksAre plan past v → act_of plan e ≡ act
    → is_cancelled_at (marks_by v.marks act) b ≡ (is_block_cancelled plan past b || (cancels_block b act && not (is_started past b)))
cancelled_by plan past e v b (Some (CancelBlock c)) valid fit ties at =
    let low = declared_within plan c (recorded_fits plan e (CancelBlock c) valid at) in
    let room = room_at is_of_block plan e (CancelBlock c) at refl in
    let long = fit.cancelled_blocks in
    ap (λ t. is_cancelled_at (cond t v.marks (record v.marks { cancelled = set v.marks.cancelled c.0 true })) b) (ties.began c.0 (omega (arith, low, room)))
    ∙ ⊎_elim
    (λ (same : c.0 ≡ b).
    let here = eq-eqb c.0 b same in
    ap (λ n. is_cancelled_at (cond (is_started past n) v.marks (record v.marks { cancelled = set v.marks.cancelled c.0 true })) b) same
    ∙ (elim (is_started past b) as (λ t. is_cancelled_at (cond t v.marks (record v.marks { cancelled = set v.marks.cancelled c.0 true })) b ≡ (is_block_cancelled plan past b || (true && not t))) [
      | true ↦ ties.cancelled b ∙ or_none (is_block_cancelled plan past b)
      | false ↦ entry_set v.marks.cancelled c.0 b true false (omega (arith, low, room, long)) ∙ (ap (λ t. cond t true (is_cancelled_at v.marks b)) here ∙ or_all (is_block_cancelled plan past b))
    ]
    ∙ ap (λ t. is_block_cancelled plan past b || (t && not (is_started past b))) (sym here)))
    (λ (other : c.0 ≡ b → ⊥).
    let there = ne_eqb c.0 b other in
    elim (is_started past c.0) as (λ t. is_cancelled_at (cond t v.marks (record v.marks { cancelled = set v.marks.cancelled c.0 true })) b ≡ is_cancelled_at v.marks b) [
      | true ↦ refl
      | false ↦ entry_set v.marks.cancelled c.0 b true false (omega (arith, low, room, long)) ∙ ap (λ t. cond t true (is_cancelled_at v.marks b)) there
    ]
    ∙ (ties.cancelled b ∙ (or_none (is_block_cancelled plan past b) ∙ ap (λ t. is_block_cancelled plan past b || (t && not (is_started past b))) (sym there))))
    (cases_eq c.0 b)
  where
    or_all : (t : Bool) → true ≡ (t || true)
    or_all true = refl
    or_all false = refl
cancelled_by plan past e v b (Some (NotifyBlock c q d)) valid fit ties at =
    let one = with_notify v.marks c.0 d in
    elim (has_ended_at one c.0) as (λ t. is_cancelled_at (cond t (all_told one c.0) one) b ≡ (is_block_cancelled plan past b || false)) [
      | true ↦ ties.cancelled b ∙ or_none (is_block_cancelled plan past b)
      | false ↦ ties.cancelled b ∙ or_none (is_block_cancelled plan past b)
    ]
cancelled_by plan past e v b act valid fit ties at = ties.cancelled b ∙ or_none (is_block_cancelled plan past b)

cancelled_step : (plan : PlanView) (past : List Event) (e : Event) (v : MachineView) (b : ℕ) → IsPlan plan → PartsFit plan v → BlockMarksAre plan past v → is_cancelled_at (marks_after plan v e) b ≡ is_block_cancelled plan (e ∷ past) b
cancelled_step plan past (Acted w run i) v b valid fit ties = cancelled_by plan past (Acted w run i) v b (act_at plan run i) valid fit ties refl
cancelled_step plan past e v b valid fit ties = ties.cancelled b ∙ or_none (is_block_cancelled plan past b)

-- ## Who has started, and has ended

-- an act changes neither
began_by : (marks : MarksView) (act : Option Act) → (marks_by marks act).began ≡ marks.began
began_by marks (Some (CancelBlock c)) = elim (has_begun_at marks c.0) as (λ t. (cond t marks (record marks { cancelled = set marks.cancelled c.0 true })).began ≡ marks.began) [ true ↦ refl | false ↦ refl ]
began_by marks (Some (NotifyBlock c q d)) =
    let one = with_notify marks c.0 d in
    elim (has_ended_at one c.0) as (λ t. (cond t (all_told one c.0) one).began ≡ marks.began) [ true ↦ refl | false ↦ refl ]
began_by marks act = refl

ended_by : (marks : MarksView) (act : Option Act) → (marks_by marks act).ended ≡ marks.ended
ended_by marks (Some (CancelBlock c)) = elim (has_begun_at marks c.0) as (λ t. (cond t marks (record marks { cancelled = set marks.cancelled c.0 true })).ended ≡ marks.ended) [ true ↦ refl | false ↦ refl ]
ended_by marks (Some (NotifyBlock c q d)) =
    let one = with_notify marks c.0 d in
    elim (has_ended_at one c.0) as (λ t. (cond t (all_told one c.0) one).ended ≡ marks.ended) [ true ↦ refl | false ↦ refl ]
ended_by marks act = refl

began_step : (plan : PlanView) (past : List Event) (e : Event) (v : MachineView) (b : ℕ) → PartsFit plan v → BlockMarksAre plan past v → b < mark_room plan → has_begun_at (marks_after plan v e) b ≡ is_started (e ∷ past) b
began_step plan past (Start w c) v b fit ties low =
    let long = fit.began_blocks in
    entry_within v.marks.began c.0 b true false (omega (arith, low, long))
    ∙ elim (c.0 == b) as (λ t. cond t true (has_begun_at v.marks b) ≡ (t || is_started past b)) [ true ↦ refl | false ↦ ties.began b low ]
began_step plan past (Acted w run i) v b fit ties low = ap (λ l. get_or l b false) (began_by v.marks (act_at plan run i)) ∙ ties.began b low
began_step plan past e v b fit ties low = ties.began b low

ended_step : (plan : PlanView) (past : List Event) (e : Event) (v : MachineView) (b : ℕ) → PartsFit plan v → BlockMarksAre plan past v → b < mark_room plan → has_ended_at (marks_after plan v e) b ≡ is_ended (e ∷ past) b
ended_step plan past (End w c) v b fit ties low =
    let long = fit.ended_blocks in
    entry_within v.marks.ended c.0 b true false (omega (arith, low, long))
    ∙ elim (c.0 == b) as (λ t. cond t true (has_ended_at v.marks b) ≡ (t || is_ended past b)) [ true ↦ refl | false ↦ ties.ended b low ]
ended_step plan past (Acted w run i) v b fit ties low = ap (λ l. get_or l b false) (ended_by v.marks (act_at plan run i)) ∙ ties.ended b low
ended_step plan past e v b fit ties low = ties.ended b low

-- ## Who is told

-- what the act registers at block b
abbrev noted_by : ℕ → Option Act → List (Blk × Bool)
noted_by b (Some (NotifyBlock c q d)) = cond (c.0 == b) ((d, false) ∷ []) []
noted_by b _ = []

-- a block that has ended is listed for none
none_listed : (plan : PlanView) (past : List Event) (v : MachineView) (b : ℕ) → BlockMarksAre plan past v → is_ended past b ≡ true → list_at v.marks.notify b ≡ []
none_listed plan past v b ties h = nothing_mapped (notify_submission v) (list_at v.marks.notify b) (ties.notify b ∙ ended_has_none plan past b h)

listed_still : (plan : PlanView) (past : List Event) (v : MachineView) (b : ℕ) → BlockMarksAre plan past v → list_at v.marks.notify b ≡ cond (is_ended past b) [] (list_at v.marks.notify b ++ [])
listed_still plan past v b ties =
    elim (is_ended past b) as (λ t. is_ended past b ≡ t → list_at v.marks.notify b ≡ cond t [] (list_at v.marks.notify b ++ [])) [
      | true ↦ λ h. none_listed plan past v b ties h
      | false ↦ λ h. sym (append-nil (list_at v.marks.notify b))
    ] refl

noted : (plan : PlanView) (past : List Event) (v : MachineView) (c d : Blk) (b : ℕ) → BlockMarksAre plan past v → c.0 < length v.marks.notify.lists → has_ended_at v.marks c.0 ≡ is_ended past c.0
    → list_at (told_if_ended (with_notify v.marks c.0 d) c.0).notify b ≡ cond (is_ended past b) [] (list_at v.marks.notify b ++ cond (c.0 == b) ((d, false) ∷ []) [])
noted plan past v c d b ties low ended =
    let one = with_notify v.marks c.0 d in
    let list = list_at v.marks.notify c.0 ++ (d, false) ∷ [] in
    let put : list_at one.notify b ≡ cond (c.0 == b) list (list_at v.marks.notify b) = entry_set v.marks.notify.lists c.0 b list [] low in
    ap (λ t. list_at (cond t (all_told one c.0) one).notify b) ended
    ∙ ⊎_elim
    (λ (same : c.0 ≡ b).
    let here = eq-eqb c.0 b same in
    ap (λ n. list_at (cond (is_ended past n) (all_told one c.0) one).notify b) same
    ∙ (elim (is_ended past b) as (λ t. list_at (cond t (all_told one c.0) one).notify b ≡ cond t [] (list_at v.marks.notify b ++ (d, false) ∷ [])) [
      | true ↦ entry_cleared one.notify.lists c.0 b [] ∙ ap (λ t. cond t [] (list_at one.notify b)) here
      | false ↦ put ∙ (ap (λ t. cond t list (list_at v.marks.notify b)) here ∙ ap (λ n. list_at v.marks.notify n ++ (d, false) ∷ []) same)
    ]
    ∙ ap (λ t. cond (is_ended past b) [] (list_at v.marks.notify b ++ cond t ((d, false) ∷ []) [])) (sym here)))
    (λ (other : c.0 ≡ b → ⊥).
    let there = ne_eqb c.0 b other in
    let kept : list_at one.notify b ≡ list_at v.marks.notify b = put ∙ ap (λ t. cond t list (list_at v.marks.notify b)) there in
    elim (is_ended past c.0) as (λ t. list_at (cond t (all_told one c.0) one).notify b ≡ list_at v.marks.notify b) [
      | true ↦ entry_cleared one.notify.lists c.0 b [] ∙ (ap (λ t. cond t [] (list_at one.notify b)) there ∙ kept)
      | false ↦ kept
    ]
    ∙ (listed_still plan past v b ties ∙ ap (λ t. cond (is_ended past b) [] (list_at v.marks.notify b ++ cond t ((d, false) ∷ []) [])) (sym there)))
    (cases_eq c.0 b)

listed_by_act : (plan : PlanView) (past : List Event) (e : Event) (v : MachineView) (b : ℕ) (act : Option Act) → IsPlan plan → PartsFit plan v → BlockMarksAre plan past v → act_of plan e ≡ act
    → list_at (marks_by v.marks act).notify b ≡ cond (is_ended past b) [] (list_at v.marks.notify b ++ noted_by b act)
listed_by_act plan past e v b (Some (NotifyBlock c q d)) valid fit ties at =
    let low = declared_within plan c (and_parts (is_declared plan c) _ (recorded_fits plan e (NotifyBlock c q d) valid at)).0 in
    let room = room_at is_of_block plan e (NotifyBlock c q d) at refl in
    let long = fit.told in
    noted plan past v c d b ties (omega (arith, low, room, long)) (ties.ended c.0 (omega (arith, low, room)))
listed_by_act plan past e v b (Some (CancelBlock c)) valid fit ties at =
    elim (has_begun_at v.marks c.0) as (λ t. list_at (cond t v.marks (record v.marks { cancelled = set v.marks.cancelled c.0 true })).notify b ≡ list_at v.marks.notify b) [ true ↦ refl | false ↦ refl ]
    ∙ listed_still plan past v b ties
listed_by_act plan past e v b act valid fit ties at = listed_still plan past v b ties

listed_step : (plan : PlanView) (past : List Event) (e : Event) (v : MachineView) (b : ℕ) → IsPlan plan → PartsFit plan v → BlockMarksAre plan past v
    → list_at (marks_after plan v e).notify b ≡ cond (is_ended (e ∷ past) b) [] (list_at v.marks.notify b ++ noted_by b (act_of plan e))
listed_step plan past (Acted w run i) v b valid fit ties = listed_by_act plan past (Acted w run i) v b (act_at plan run i) valid fit ties refl
listed_step plan past (End w c) v b valid fit ties =
    entry_cleared v.marks.notify.lists c.0 b []
    ∙ elim (c.0 == b) as (λ t. cond t [] (list_at v.marks.notify b) ≡ cond (t || is_ended past b) [] (list_at v.marks.notify b ++ [])) [
      | true ↦ refl
      | false ↦ listed_still plan past v b ties
    ]
listed_step plan past e v b valid fit ties = listed_still plan past v b ties

-- those that waited for an end lack what the act registers
lacks_at_block : (plan : PlanView) (past : List Event) (e : Event) (v : MachineView) (k : ℕ) → IsPlan plan → IsLawful plan (e ∷ past) → PartsFit plan v → BlockMarksAre plan past v → Lacks v (act_of plan e) (list_at v.marks.notify k)
lacks_at_block plan past e v k valid lawful fit ties =
    record {
      at_group = λ g q b at. by b.0 (at_group_once plan past e g q b valid lawful at);
      at_block = λ c q d at. by d.0 (at_block_once plan past e c q d valid lawful at);
    }
  where
    by : (b : ℕ) → WaitsNowhere plan past b → count_by (is_of b) (map (notify_submission v) (list_at v.marks.notify k)) ≡ 0
    by b none =
        ⊎_elim
        (λ (low : k < length plan.blocks). ap (count_by (is_of b)) (ties.notify k) ∙ not_at_block plan past b k none low)
        (λ (high : length plan.blocks ≤ k).
        let long = fit.told in
        let room = room_low is_of_block plan in
        ap (λ l. count_by (is_of b) (map (notify_submission v) l)) (get_or_past v.marks.notify.lists k [] (omega (arith, high, long, room))))
        (cases_lt k (length plan.blocks))

-- what is registered is told as the history has it
told_now : (v : MachineView) (blocks : ℕ → Obj) (k : ℕ) (act : Option Act) → ((b : ℕ) → (block_at v b).home ≡ homed b act (blocks b)) → map (notify_submission v) (noted_by k act) ≡ registered_at_end k act
told_now v blocks k (Some (NotifyBlock c q d)) homes =
    let home : (block_at v d.0).home ≡ q = homes d.0 ∙ ap (λ t. cond t q (blocks d.0)) (eq-eqb d.0 d.0 refl) in
    elim (c.0 == k) as (λ t. map (notify_submission v) (cond t ((d, false) ∷ []) []) ≡ cond t (on_node q d false) []) [
      | true ↦ ap (λ s. s ∷ []) (told_eq (d, false) (block_at v d.0).home q home)
      | false ↦ refl
    ]
told_now v blocks k act homes = refl

mapped_if : (v : MachineView) (t : Bool) (xs ys : List (Blk × Bool)) → map (notify_submission v) (cond t [] (xs ++ ys)) ≡ cond t [] (map (notify_submission v) xs ++ map (notify_submission v) ys)
mapped_if v true xs ys = refl
mapped_if v false xs ys = map-append (notify_submission v) xs ys

notify_step : (plan : PlanView) (past : List Event) (e : Event) (v : MachineView) (b : ℕ) → IsPlan plan → IsLawful plan (e ∷ past) → PartsFit plan v → OwnFit plan v → BlockMarksAre plan past v
    → map (notify_submission (after plan v e)) (list_at (marks_after plan v e).notify b) ≡ end_notify_blocks plan (e ∷ past) b
notify_step plan past e v b valid lawful fit own ties =
    let homes : (k : ℕ) → home_of (after plan v e).blocks k ≡ homed k (act_of plan e) (home_of v.blocks k) = λ k. homes_after plan v e k (registers_at plan e (length v.blocks) valid own.blocks) in
    ap (map (notify_submission (after plan v e))) (listed_step plan past e v b valid fit ties)
    ∙ (mapped_if (after plan v e) (is_ended (e ∷ past) b) (list_at v.marks.notify b) (noted_by b (act_of plan e))
    ∙ (ap (λ l. cond (is_ended (e ∷ past) b) [] (l ++ map (notify_submission (after plan v e)) (noted_by b (act_of plan e)))) (told_as_before plan e v (act_of plan e) (list_at v.marks.notify b) homes (lacks_at_block plan past e v b valid lawful fit ties) ∙ ties.notify b)
    ∙ ap (λ l. cond (is_ended (e ∷ past) b) [] (end_notify_blocks plan past b ++ l)) (told_now (after plan v e) (home_of v.blocks) b (act_of plan e) homes)))

-- ## The step

pub block_marks_step : (plan : PlanView) (past : List Event) (e : Event) (v : MachineView) → IsPlan plan → IsLawful plan (e ∷ past) → PartsFit plan v → OwnFit plan v → BlockMarksAre plan past v → BlockMarksAre plan (e ∷ past) (after plan v e)
block_marks_step plan past e v valid lawful fit own ties = record {
  cancelled = λ b. cancelled_step plan past e v b valid fit ties;
  began = λ b low. began_step plan past e v b fit ties low;
  ended = λ b low. ended_step plan past e v b fit ties low;
  notify = λ b. notify_step plan past e v b valid lawful fit own ties;
}
