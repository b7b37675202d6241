-- Whose wait the End of a block ends, and which blocks it submits by itself: the private steps, as what they change of each part.
use Rattle.std.proofs.Common.{◌≡◌, ⊎_elim, ℕ, ◌+◌, ◌<◌, ◌≤◌, ◌==◌, true, false, not, cond, List, [], ◌∷◌, ◌++◌, length, map, Option, Some, None, option_to_list, option_and_then, refl, ap, sym, ◌∙◌, arith}
use Rattle.std.specs.List.{fold, list_all}
use Rattle.std.proofs.Math.Nat.{add-zero}
use Rattle.std.proofs.lemmas.Bool.{both_ways, cases_lt}
use Rattle.std.proofs.lemmas.List.{get_or-set_same, get_or_past, set_past, length-append}
use Rattle.std.proofs.lemmas.List.Folds.{list_all-append}
use Rattle.std.proofs.lemmas.List.Sums.{fold-append}
use Rattle.gcd_plan.specs.PlanView.{PlanView}
use Rattle.gcd_plan.specs.declared.act.Act.{Act}
use Rattle.gcd_plan.specs.declared.act.Act.TheVariants.{NotifyBlock}
use Rattle.gcd_plan.specs.declared.numbers.Blk.{Blk}
use Rattle.gcd_plan.specs.declared.numbers.Obj.{Obj}
use Rattle.gcd_event.specs.declared.event.Event.{Event}
use Rattle.gcd_history.specs.declared.submission.Submission.{Submission}
use Rattle.gcd_history.specs.Runs.{act_of, is_ended}
use Rattle.gcd_history.specs.Submitted.{on_node, registered_at_end, end_notify_blocks}
use Rattle.gcd_lists.specs.ListsView.{list_at}
use Rattle.gcd_apply.specs.StripsView.{with_done}
use Rattle.gcd_blockobj.specs.MarksView.{MarksView, has_ended_at, with_ended}
use Rattle.gcd_refinement.specs.MachineView.{MachineView, block_at, applier_at}
use Rattle.gcd_refinement.specs.Ties.{BlockMarksAre, notify_submission}
use Rattle.gcd_refinement.specs.Submits.{done_by}
use Rattle.gcd_refinement.specs.After.{pushed, noted, marked}
use Rattle.gcd_refinement.specs.AfterSleepers.{none_waiting, none_applying}
use Rattle.gcd_refinement.specs.AfterStrips.{all_told}
use Rattle.gcd_machine.specs.Steps.{all_over, let_go, caller_let_go, waiters_let_go, applier_let_go, strip_ended, waits_ended, fired_at, told_at}
use Rattle.gcd_machine.proofs.Steps.Activations.{all_submitted}
use Rattle.gcd_machine.proofs.Steps.EmptyGroups.{HasHomes, sent, fired_is, as_sent, sent_homes}

-- ## Waits

-- the waits of some blocks are over, and then those of others
pub over_in_turn : (m : MachineView) (first later : List Blk) → all_over (all_over m first) later ≡ all_over m (first ++ later)
over_in_turn m [] later = refl
over_in_turn m (b ∷ first) later = over_in_turn (let_go m b) first later

-- who waits for the end may wake
pub called_is : (m : MachineView) (caller : Option Blk) → caller_let_go m caller ≡ all_over m (option_to_list caller)
called_is m None = refl
called_is m (Some c) = refl

-- the block that applied the strip
abbrev pub applying : MachineView → Option ℕ → List Blk
applying m strip = option_to_list (option_and_then (applier_at m) strip)

-- a strip has one block less that has not ended, and who applied it may wake after the last
abbrev strip_view : MachineView → Option ℕ → Blk → MachineView
strip_view m strip b = record (all_over m (applying m strip)) {
  appliers = none_applying m.appliers strip;
  strips = with_done m.strips b.0;
}

abbrev done_after : MachineView → Option ℕ → Blk → MachineView
done_after m strip b = record (applier_let_go m strip) { strips = with_done (applier_let_go m strip).strips b.0 }

strip_from : (m : MachineView) (strip : Option ℕ) (b : Blk) → done_after m strip b ≡ strip_view m strip b
strip_from m None b = refl
strip_from m (Some a) b =
    elim (applier_at m a) as (λ o. ◌≡◌ {A = MachineView}
    (record (caller_let_go (record m { appliers = none_applying m.appliers (Some a) }) o) {
      strips = with_done (caller_let_go (record m { appliers = none_applying m.appliers (Some a) }) o).strips b.0;
    })
    (record (all_over m (option_to_list o)) { appliers = none_applying m.appliers (Some a); strips = with_done m.strips b.0 })) [
      | None ↦ refl
      | Some c ↦ refl
    ]

-- all of these may wake, and nobody waits for the block any more
abbrev pub let_go_of : MachineView → Blk → Option Blk → List Blk
let_go_of m b caller = option_to_list caller ++ map (λ w. w.0) (list_at m.waiters b.0) ++ applying m (done_by m b)

abbrev pub waits_view : MachineView → Blk → Option Blk → MachineView
waits_view m b caller = record (all_over m (let_go_of m b caller)) {
  waiters = none_waiting m.waiters b;
  appliers = none_applying m.appliers (done_by m b);
  strips = with_done m.strips b.0;
}

pub waits_is : (m : MachineView) (b : Blk) (caller : Option Blk) → waits_ended m b caller ≡ waits_view m b caller
waits_is m b caller =
    let callers = option_to_list caller in
    let waiting = map (λ w. w.0) (list_at m.waiters b.0) in
    let none = none_waiting m.waiters b in
    ap (λ (x : MachineView). strip_ended (waiters_let_go x b) b) (called_is m caller)
    ∙ (ap (λ (x : MachineView). strip_ended (record x { waiters = none }) b) (over_in_turn m callers waiting)
    ∙ (strip_from (record (all_over m (callers ++ waiting)) { waiters = none }) (done_by m b) b
    ∙ ap (λ (x : MachineView). record x {
      waiters = none;
      appliers = none_applying m.appliers (done_by m b);
      strips = with_done m.strips b.0;
    }) (over_in_turn m (callers ++ waiting) (applying m (done_by m b)))))

-- ## Notify blocks

-- the submissions of one list, and then those of another
pub submitted_in_turn : (m : MachineView) (first later : List Submission) → all_submitted (all_submitted m first) later ≡ all_submitted m (first ++ later)
submitted_in_turn m first later =
    let lists = fold-append pushed m.lists first later in
    let blocks = fold-append noted m.blocks first later in
    let busy = fold-append marked m.busy first later in
    let long = length-append first later in
    let left : m.left + length (first ++ later) ≡ m.left + length first + length later = omega (arith, long) in
    rw (lists, blocks, busy, left) refl

-- a block of which no mark is kept has no list
beyond_marks : (marks : MarksView) (b : ℕ) → length marks.ended ≡ length marks.notify.lists → has_ended_at (with_ended marks b) b ≡ false → length marks.notify.lists ≤ b
beyond_marks marks b long none =
    ⊎_elim
    (λ (low : b < length marks.ended). absurd (both_ways (has_ended_at (with_ended marks b) b) none (get_or-set_same marks.ended b true false low)))
    (λ (high : length marks.ended ≤ b). omega (arith, high, long))
    (cases_lt b (length marks.ended))

-- the machine with all that waited for the end of the block submitted
abbrev pub told_view : MachineView → (ℕ → Obj) → MarksView → Blk → MachineView
told_view m home marks b = record (all_submitted m (map (sent home) (list_at marks.notify b.0))) { marks = all_told marks b.0 }

-- where the block has ended
pub told_ended : (m : MachineView) (home : ℕ → Obj) (b : Blk) → HasHomes m home → has_ended_at m.marks b.0 ≡ true → told_at m b ≡ told_view m home m.marks b
told_ended m home b homes ended =
    let ws = list_at m.marks.notify b.0 in
    ap (λ t. cond t (record (fold fired_at m (map (λ w. w.0) ws)) { marks = all_told m.marks b.0 }) m) ended
    ∙ ap (λ (x : MachineView). record x { marks = all_told m.marks b.0 }) (fired_is m home ws homes)

-- where no mark of it is kept nothing changes
told_beyond : (m : MachineView) (home : ℕ → Obj) (b : Blk) → length m.marks.notify.lists ≤ b.0 → has_ended_at m.marks b.0 ≡ false → told_at m b ≡ told_view m home m.marks b
told_beyond m home b high none =
    let empty = get_or_past m.marks.notify.lists b.0 [] high in
    let same = set_past m.marks.notify.lists b.0 [] high in
    rw (none, empty, same) (simp add-zero)

-- at its End
pub told_at_end : (m : MachineView) (home : ℕ → Obj) (marks : MarksView) (b : Blk) → HasHomes m home → length marks.ended ≡ length marks.notify.lists → m.marks ≡ with_ended marks b.0
    → told_at m b ≡ told_view m home m.marks b
told_at_end m home marks b homes long is =
    elim (has_ended_at m.marks b.0) as (λ t. has_ended_at m.marks b.0 ≡ t → told_at m b ≡ told_view m home m.marks b) [
      | true ↦ λ ended. told_ended m home b homes ended
      | false ↦ λ none.
          let lists : length m.marks.notify.lists ≡ length marks.notify.lists = ap (λ (v : MarksView). length v.notify.lists) is in
          let high = beyond_marks marks b.0 long (sym (ap (λ v. has_ended_at v b.0) is) ∙ none) in
          told_beyond m home b (omega (arith, lists, high)) none
    ] refl

-- what is submitted keeps the homes
pub told_homes : (m : MachineView) (home : ℕ → Obj) (marks : MarksView) (b : Blk) → HasHomes m home → HasHomes (told_view m home marks b) home
told_homes m home marks b homes k = sent_homes m.blocks home (list_at marks.notify b.0) k ∙ homes k

-- ## No notify block is a barrier

registered_plain : (b : ℕ) (act : Option Act) → list_all (λ s. not s.barrier) (registered_at_end b act) ≡ true
registered_plain b (Some (NotifyBlock c q d)) =
    elim (c.0 == b) as (λ t. list_all (λ s. not s.barrier) (cond t (on_node q d false) []) ≡ true) [ true ↦ refl | false ↦ refl ]
registered_plain b _ = refl

end_plain : (plan : PlanView) (past : List Event) (b : ℕ) → list_all (λ s. not s.barrier) (end_notify_blocks plan past b) ≡ true
end_plain plan [] b = refl
end_plain plan (e ∷ past) b =
    elim (is_ended (e ∷ past) b) as (λ t. list_all (λ s. not s.barrier) (cond t [] (end_notify_blocks plan past b ++ registered_at_end b (act_of plan e))) ≡ true) [
      | true ↦ refl
      | false ↦ rw (list_all-append, end_plain plan past b, registered_plain b (act_of plan e)) refl
    ]

-- so what waits for the end of a block is sent as it is told
pub end_is_sent : (plan : PlanView) (past : List Event) (v : MachineView) (b : ℕ) → BlockMarksAre plan past v
    → map (notify_submission v) (list_at v.marks.notify b) ≡ map (sent (λ k. (block_at v k).home)) (list_at v.marks.notify b)
end_is_sent plan past v b marks =
    as_sent (λ k. (block_at v k).home) v (list_at v.marks.notify b) (λ k. refl) (ap (list_all (λ s. not s.barrier)) (marks.notify b) ∙ end_plain plan past b)
