-- Acts on blocks as objects: a wait for the end of one, and a notify block of one. The private steps together make what the event
-- changes.
use Rattle.std.proofs.Common.{◌≡◌, ⊎_elim, ℕ, ◌+◌, ◌<◌, ◌≤◌, Bool, true, false, List, [], ◌∷◌, ◌++◌, length, map, Some, refl, ap, sym, ◌∙◌, arith}
use Rattle.std.proofs.lemmas.Bool.{both_ways, cases_lt}
use Rattle.std.proofs.lemmas.List.{get_or-set_same, get_or_past, length-set}
use Rattle.gcd_plan.specs.PlanView.{PlanView}
use Rattle.gcd_plan.specs.declared.act.Act.TheVariants.{WaitBlock, NotifyBlock}
use Rattle.gcd_plan.specs.declared.numbers.Blk.{Blk}
use Rattle.gcd_plan.specs.declared.numbers.Obj.{Obj}
use Rattle.gcd_plan.specs.declared.numbers.Run.TheVariants.{Block}
use Rattle.gcd_event.specs.declared.event.Event.{Event}
use Rattle.gcd_event.specs.declared.event.Event.TheVariants.{Act as Acted}
use Rattle.gcd_history.specs.Runs.{act_at}
use Rattle.gcd_history.specs.Submitted.{on_node}
use Rattle.gcd_history.proofs.Blocks.NotifiedOnce.{ended_has_none}
use Rattle.gcd_lists.specs.ListsView.{list_at}
use Rattle.gcd_plan.specs.Needs.{mark_room}
use Rattle.gcd_blockobj.specs.MarksView.{MarksView, has_ended_at, with_notify}
use Rattle.gcd_refinement.specs.MachineView.{MachineView, idle, block_at, ended_at}
use Rattle.gcd_refinement.specs.declared.progress.BlockProgress.{BlockProgress}
use Rattle.gcd_refinement.specs.Ties.{BlockMarksAre, notify_submission}
use Rattle.gcd_refinement.specs.After.{with_block, after}
use Rattle.gcd_refinement.specs.AfterStrips.{all_told}
use Rattle.gcd_machine.specs.Steps.{acted, act_taken, told_at, stepped}
use Rattle.gcd_machine.proofs.Steps.Activations.{units, counted, all_submitted}
use Rattle.gcd_machine.proofs.Steps.EmptyGroups.{sent}
use Rattle.gcd_machine.proofs.Steps.EndWaits.{told_ended}

pub wait_block_stepped : (m : MachineView) (w : ℕ) (b : Blk) (i : ℕ) (c : Blk) → act_at m.plan (Block b) i ≡ Some (WaitBlock c)
    → stepped m (Acted w (Block b) i) ≡ after m.plan m (Acted w (Block b) i)
wait_block_stepped m w b i c at =
    elim (ended_at m c.0) as (λ t. ended_at m c.0 ≡ t → stepped m (Acted w (Block b) i) ≡ after m.plan m (Acted w (Block b) i)) [
      | true ↦ λ e. rw (at, e) (simp units)
      | false ↦ λ e. rw (at, e) (simp units)
    ] refl

-- ## Notify blocks

-- a block that is marked as ended is one of which marks are kept
within_marks : (marks : MarksView) (c : ℕ) → has_ended_at marks c ≡ true → c < length marks.ended
within_marks marks c ended =
    ⊎_elim
    (λ (low : c < length marks.ended). low)
    (λ (high : length marks.ended ≤ c). absurd (both_ways (has_ended_at marks c) (get_or_past marks.ended c false high) ended))
    (cases_lt c (length marks.ended))

none_told : (v : MachineView) (ws : List (Blk × Bool)) → map (notify_submission v) ws ≡ [] → ws ≡ []
none_told v [] h = refl
none_told v (w ∷ ws) h = cc

none_registered : (plan : PlanView) (past : List Event) (v : MachineView) (c : ℕ) → BlockMarksAre plan past v → length v.marks.ended ≡ mark_room plan → has_ended_at v.marks c ≡ true → list_at v.marks.notify c ≡ []
none_registered plan past v c marks kept ended =
    let low = within_marks v.marks c ended in
    let is = sym (marks.ended c (omega (arith, low, kept))) ∙ ended in
    none_told v (list_at v.marks.notify c) (marks.notify c ∙ ended_has_none plan past c is)

-- the block is behind those that wait for the end of block c, and has its home
abbrev noted_view : MachineView → Blk → Blk → Obj → Blk → MachineView
noted_view m b c q d = record (acted m (Block b)) {
  blocks = with_block (acted m (Block b)).blocks d.0 (λ x. record x { home = q });
  marks = with_notify m.marks c.0 d;
}

-- the homes of its blocks
abbrev home_in : MachineView → ℕ → Obj
home_in m k = (block_at m k).home

only_one : (m : MachineView) (b c : Blk) (q : Obj) (d : Blk) → list_at m.marks.notify c.0 ≡ [] → c.0 < length m.marks.notify.lists
    → list_at (noted_view m b c q d).marks.notify c.0 ≡ (d, false) ∷ []
only_one m b c q d none low =
    get_or-set_same m.marks.notify.lists c.0 (list_at m.marks.notify c.0 ++ (d, false) ∷ []) [] low
    ∙ ap (λ ws. ws ++ (d, false) ∷ []) none

its_home : (m : MachineView) (b c : Blk) (q : Obj) (d : Blk) → d.0 < length m.blocks → home_in (noted_view m b c q d) d.0 ≡ q
its_home m b c q d low =
    let long = length-set m.blocks b.0 (record (block_at m b.0) { done = (block_at m b.0).done + 1 }) in
    ap (λ (x : BlockProgress). x.home) (get_or-set_same (acted m (Block b)).blocks d.0 (record (block_at (acted m (Block b)) d.0) { home = q }) idle (omega (arith, low, long)))

it_is_sent : (m : MachineView) (b c : Blk) (q : Obj) (d : Blk) → list_at m.marks.notify c.0 ≡ [] → c.0 < length m.marks.notify.lists → d.0 < length m.blocks
    → map (sent (home_in (noted_view m b c q d))) (list_at (noted_view m b c q d).marks.notify c.0) ≡ on_node q d false
it_is_sent m b c q d none low blk =
    ap (map (sent (home_in (noted_view m b c q d)))) (only_one m b c q d none low)
    ∙ ap (λ h. on_node h d false) (its_home m b c q d blk)

pub notify_block_stepped : (plan : PlanView) (past : List Event) (m : MachineView) (w : ℕ) (b : Blk) (i : ℕ) (c : Blk) (q : Obj) (d : Blk)
    → BlockMarksAre plan past m → length m.marks.ended ≡ mark_room plan → length m.marks.ended ≡ length m.marks.notify.lists → d.0 < length m.blocks
    → act_at m.plan (Block b) i ≡ Some (NotifyBlock c q d)
    → stepped m (Acted w (Block b) i) ≡ after m.plan m (Acted w (Block b) i)
notify_block_stepped plan past m w b i c q d marks kept long blk at =
    let told = noted_view m b c q d in
    ap (λ o. counted m (act_taken m w (Block b) o)) at
    ∙ elim (has_ended_at m.marks c.0) as (λ t. has_ended_at m.marks c.0 ≡ t → counted m (told_at told c) ≡ after m.plan m (Acted w (Block b) i)) [
      | true ↦ λ ended.
          let none = none_registered plan past m c.0 marks kept ended in
          let low = within_marks m.marks c.0 ended in
          ap (counted m) (told_ended told (home_in told) c (λ k. refl) ended)
          ∙ (ap (λ subs. counted m (record (all_submitted told subs) { marks = all_told told.marks c.0 })) (it_is_sent m b c q d none (omega (arith, low, long)) blk)
          ∙ rw (at, ended) (simp units))
      | false ↦ λ goes. rw (at, goes) (simp units)
    ] refl
