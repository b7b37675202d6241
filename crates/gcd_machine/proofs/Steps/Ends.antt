-- The End of a block: its run closes on its node, what waits for its end is submitted, who waits for it may wake, and the group that
-- counted it has one member less.
use Rattle.std.proofs.Common.{◌≡◌, ℕ, ◌+◌, ◌-◌, ◌<◌, ◌≤◌, ◌==◌, true, false, cond, List, ◌++◌, length, map, Option, Some, None, refl, ap, ◌∙◌, arith}
use Rattle.std.specs.List.{slice_set, fold}
use Rattle.gcd_plan.specs.PlanView.{PlanView}
use Rattle.gcd_plan.specs.declared.numbers.Blk.{Blk}
use Rattle.gcd_plan.specs.declared.numbers.Obj.{Obj}
use Rattle.gcd_event.specs.declared.event.Event.{Event}
use Rattle.gcd_event.specs.declared.event.Event.TheVariants.{End}
use Rattle.gcd_history.specs.declared.submission.Submission.{Submission}
use Rattle.gcd_lists.specs.ListsView.{list_at}
use Rattle.gcd_group.specs.GroupsView.{GroupsView, count_at, with_one_less}
use Rattle.gcd_blockobj.specs.MarksView.{with_ended}
use Rattle.gcd_refinement.specs.MachineView.{MachineView, block_at}
use Rattle.gcd_refinement.specs.Ties.{GroupsAre, BlockMarksAre}
use Rattle.gcd_refinement.specs.Submits.{sleepers_at}
use Rattle.gcd_refinement.specs.After.{closed, barrier_ended, all_fired, with_wakeable, after}
use Rattle.gcd_refinement.specs.AfterLimits.{without_limit, without_ripe}
use Rattle.gcd_refinement.specs.AfterSleepers.{all_woken, none_waiting, none_applying}
use Rattle.gcd_refinement.specs.AfterStrips.{all_told}
use Rattle.gcd_apply.specs.StripsView.{with_done}
use Rattle.gcd_refinement.specs.Submits.{done_by}
use Rattle.gcd_machine.specs.Steps.{closed_block, emptied, member_left, waits_ended, told_at, stepped}
use Rattle.gcd_machine.proofs.Steps.Activations.{units, counted, all_submitted}
use Rattle.gcd_machine.proofs.Steps.EmptyGroups.{HasHomes, with_groups, sent, emptied_is, due_at_last, told_is_sent}
use Rattle.gcd_machine.proofs.Steps.EndWaits.{over_in_turn, let_go_of, waits_view, waits_is, told_view, told_at_end, told_homes, submitted_in_turn, end_is_sent}

-- the block has ended, and its run is closed
abbrev closed_view : MachineView → ℕ → Blk → MachineView
closed_view m w b = record m {
  tree = closed m.tree (block_at m b.0).node;
  drains = barrier_ended m.drains (block_at m b.0).node (block_at m b.0).barrier;
  marks = with_ended m.marks b.0;
  ended = slice_set m.ended b.0 true;
  left = m.left - 1;
  workers = slice_set m.workers w None;
  running = m.running - 1;
}

closed_is : (m : MachineView) (w : ℕ) (b : Blk) → closed_block m w b ≡ closed_view m w b
closed_is m w b =
    elim (block_at m b.0).node as (λ o. (block_at m b.0).node ≡ o → closed_block m w b ≡ closed_view m w b) [
      | None ↦ λ e. rw e
      | Some n ↦ λ e. rw e
    ] refl

-- the homes of the blocks, and what the end submits
abbrev home_in : MachineView → ℕ → Obj
home_in m k = (block_at m k).home

abbrev by_end : MachineView → Blk → List Submission
by_end m b = map (sent (home_in m)) (list_at m.marks.notify b.0)

-- the machine once these blocks are submitted
abbrev told : MachineView → ℕ → Blk → MachineView
told m w b = told_view (closed_view m w b) (home_in m) (with_ended m.marks b.0) b

told_is : (m : MachineView) (w : ℕ) (b : Blk) → length m.marks.ended ≡ length m.marks.notify.lists → told_at (closed_block m w b) b ≡ told m w b
told_is m w b long =
    ap (λ (x : MachineView). told_at x b) (closed_is m w b)
    ∙ told_at_end (closed_view m w b) (home_in m) m.marks b (λ k. refl) long refl

-- the machine before the group is left
abbrev over_view : MachineView → ℕ → Blk → MachineView
over_view m w b = waits_view (told m w b) b (block_at m b.0).caller

over_is : (m : MachineView) (w : ℕ) (b : Blk) → length m.marks.ended ≡ length m.marks.notify.lists
    → waits_ended (told_at (closed_block m w b) b) b (block_at m b.0).caller ≡ over_view m w b
over_is m w b long =
    ap (λ (x : MachineView). waits_ended x b (block_at m b.0).caller) (told_is m w b long)
    ∙ waits_is (told m w b) b (block_at m b.0).caller

over_homes : (m : MachineView) (w : ℕ) (b : Blk) → HasHomes (over_view m w b) (home_in m)
over_homes m w b = told_homes (closed_view m w b) (home_in m) (with_ended m.marks b.0) b (λ k. refl)

abbrev left_view : MachineView → ℕ → Blk → Option Obj → MachineView
left_view m w b group = counted m (member_left (over_view m w b) group)

stepped_over : (m : MachineView) (w : ℕ) (b : Blk) → length m.marks.ended ≡ length m.marks.notify.lists → stepped m (End w b) ≡ left_view m w b (block_at m b.0).group
stepped_over m w b long = ap (λ (x : MachineView). counted m (member_left x (block_at m b.0).group)) (over_is m w b long)

-- ## The group that counted the block

-- nobody waits for the end of the block, nor for the strip of which it is the last
abbrev unwaited : MachineView → Blk → MachineView → MachineView
unwaited m b x = record x {
  waiters = none_waiting m.waiters b;
  appliers = none_applying m.appliers (done_by m b);
  strips = with_done m.strips b.0;
}

-- all that is registered at the group is submitted, and nobody sleeps there
abbrev emptied_by_end : MachineView → Obj → GroupsView → MachineView → MachineView
emptied_by_end m g fewer over = counted m (record (all_submitted over (map (sent (home_in m)) (list_at m.groups.notify g.0))) {
  groups = all_fired fewer g.0;
  sleepers = all_woken m.sleepers (Some g);
})

-- the same where the submissions are made, and these waits are over
abbrev with_end : MachineView → Blk → Obj → GroupsView → List Blk → MachineView → MachineView
with_end m b g fewer over x = counted m (record (unwaited m b x) {
  marks = all_told (with_ended m.marks b.0) b.0;
  wakeable = fold with_wakeable m.wakeable over;
  ahead = fold without_limit m.ahead over;
  ripe = fold without_ripe m.ripe over;
  groups = all_fired fewer g.0;
  sleepers = all_woken m.sleepers (Some g);
})

-- one is left less than with all that is submitted
later_less : (a n : ℕ) → 1 ≤ a → a - 1 + n ≡ a + n - 1
later_less a n some = omega (arith, some)

left_by_end : (plan : PlanView) (past : List Event) (m : MachineView) (w : ℕ) (b : Blk) (o : Option Obj)
    → GroupsAre plan past m → BlockMarksAre plan past m → ((g : Obj) → o ≡ Some g → g.0 < length m.groups.due) → 1 ≤ m.left → (block_at m b.0).group ≡ o
    → left_view m w b o ≡ after m.plan m (End w b)
left_by_end plan past m w b None groups marks low some e =
    rw (e, end_is_sent plan past m b.0 marks) (simp (units, later_less))
left_by_end plan past m w b (Some g) groups marks low some e =
    let fewer = with_one_less m.groups g.0 (m.len + 1) in
    let over = over_view m w b in
    let sleeping = sleepers_at m (Some g) in
    let waiting = let_go_of m b (block_at m b.0).caller in
    let registered = map (sent (home_in m)) (list_at m.groups.notify g.0) in
    elim (count_at m.groups g.0 == 1) as (λ t. (count_at m.groups g.0 == 1) ≡ t → left_view m w b (Some g) ≡ after m.plan m (End w b)) [
      | true ↦ λ one.
          ap (λ t. counted m (cond t (emptied (with_groups over fewer) g) (with_groups over fewer))) one
          ∙ (ap (counted m) (emptied_is over g fewer (home_in m) (over_homes m w b) (due_at_last m.groups g.0 (m.len + 1) one (low g refl)))
          ∙ (ap (λ (x : MachineView). emptied_by_end m g fewer (unwaited m b x)) (over_in_turn (told m w b) waiting sleeping)
          ∙ (ap (with_end m b g fewer (waiting ++ sleeping)) (submitted_in_turn (closed_view m w b) (by_end m b) registered)
          ∙ rw (e, one, told_is_sent plan past m g.0 groups, end_is_sent plan past m b.0 marks) (simp (units, later_less)))))
      | false ↦ λ more.
          ap (λ t. counted m (cond t (emptied (with_groups over fewer) g) (with_groups over fewer))) more
          ∙ rw (e, more, groups.fired g.0, end_is_sent plan past m b.0 marks) (simp (units, later_less))
    ] refl

pub end_stepped : (plan : PlanView) (past : List Event) (m : MachineView) (w : ℕ) (b : Blk)
    → GroupsAre plan past m → BlockMarksAre plan past m → length m.marks.ended ≡ length m.marks.notify.lists
    → ((g : Obj) → (block_at m b.0).group ≡ Some g → g.0 < length m.groups.due) → 1 ≤ m.left
    → stepped m (End w b) ≡ after m.plan m (End w b)
end_stepped plan past m w b groups marks long low some =
    stepped_over m w b long ∙ left_by_end plan past m w b (block_at m b.0).group groups marks low some refl
