-- Acts that leave a group, or register a notify block at one: the private steps together make what the event changes.
use Rattle.std.proofs.Common.{◌≡◌, ℕ, ◌+◌, ◌-◌, ◌<◌, ◌==◌, Bool, true, false, cond, List, [], ◌∷◌, ◌++◌, length, map, Some, refl, ap, sym, ◌∙◌, arith}
use Rattle.std.specs.List.{fold}
use Rattle.std.proofs.lemmas.Bool.{eqb-true}
use Rattle.std.proofs.lemmas.List.{get_or-set_same, length-set}
use Rattle.gcd_plan.specs.PlanView.{PlanView}
use Rattle.gcd_plan.specs.declared.act.Act.TheVariants.{Leave, Notify}
use Rattle.gcd_plan.specs.declared.numbers.Blk.{Blk}
use Rattle.gcd_plan.specs.declared.numbers.Obj.{Obj}
use Rattle.gcd_plan.specs.declared.numbers.Run.{Run}
use Rattle.gcd_plan.specs.declared.numbers.Run.TheVariants.{Block, Source}
use Rattle.gcd_event.specs.declared.event.Event.{Event}
use Rattle.gcd_event.specs.declared.event.Event.TheVariants.{Act as Acted}
use Rattle.gcd_history.specs.Runs.{act_at}
use Rattle.gcd_history.specs.Submitted.{on_node}
use Rattle.gcd_lists.specs.ListsView.{list_at}
use Rattle.gcd_group.specs.GroupsView.{GroupsView, count_at, entered_at, due_at, with_one_less, with_entered, with_notify}
use Rattle.gcd_history.specs.declared.submission.Submission.{Submission}
use Rattle.gcd_refinement.specs.MachineView.{MachineView, idle, block_at}
use Rattle.gcd_refinement.specs.declared.progress.BlockProgress.{BlockProgress}
use Rattle.gcd_refinement.specs.Ties.{GroupsAre, notify_submission}
use Rattle.gcd_refinement.specs.Submits.{sleepers_at}
use Rattle.gcd_refinement.specs.After.{with_block, with_wakeable, all_fired, after}
use Rattle.gcd_refinement.specs.AfterSleepers.{all_woken}
use Rattle.gcd_refinement.specs.AfterLimits.{without_limit, without_ripe}
use Rattle.gcd_refinement.proofs.Step.Submits.{none_waits}
use Rattle.gcd_machine.specs.Steps.{acted, act_taken, all_fired_at, emptied, stepped}
use Rattle.gcd_machine.proofs.Steps.Activations.{units, counted, all_submitted}
use Rattle.gcd_machine.proofs.Steps.EmptyGroups.{HasHomes, kept_home, with_groups, sent, all_fired_is, none_fired_is, emptied_is, due_at_last, told_is_sent}

-- the homes that the machine's blocks have
abbrev home_in : MachineView → ℕ → Obj
home_in m k = (block_at m k).home

-- an act counts, and changes no home
acted_homes : (m : MachineView) (run : Run) → HasHomes (acted m run) (home_in m)
acted_homes m (Block b) k = kept_home m.blocks b.0 k (λ (x : BlockProgress). record x { done = x.done + 1 }) (λ x. refl)
acted_homes m (Source s) k = refl

-- ## Leave

-- the group has one enter less
abbrev less : MachineView → Obj → GroupsView
less m g = with_entered (with_one_less m.groups g.0 (m.len + 1)) g.0 (entered_at m.groups g.0 - 1)

-- it is left, and empty if it counted just this
abbrev left_if : MachineView → Run → Obj → Bool → MachineView
left_if m run g last = counted m (cond last (emptied (with_groups (acted m run) (less m g)) g) (with_groups (acted m run) (less m g)))

taken : (m : MachineView) (w : ℕ) (run : Run) (g : Obj) → counted m (act_taken m w run (Some (Leave g))) ≡ left_if m run g (count_at m.groups g.0 == 1)
taken m w (Block b) g = refl
taken m w (Source s) g = refl

-- the machine after the last has left
abbrev emptied_by_leave : MachineView → Run → Obj → MachineView
emptied_by_leave m run g = counted m (record (all_submitted (acted m run) (map (sent (home_in m)) (list_at m.groups.notify g.0))) {
  groups = all_fired (less m g) g.0;
  sleepers = all_woken (acted m run).sleepers (Some g);
  wakeable = fold with_wakeable (acted m run).wakeable (sleepers_at (acted m run) (Some g));
  ahead = fold without_limit (acted m run).ahead (sleepers_at (acted m run) (Some g));
  ripe = fold without_ripe (acted m run).ripe (sleepers_at (acted m run) (Some g));
})

emptied_stepped : (plan : PlanView) (past : List Event) (m : MachineView) (w : ℕ) (run : Run) (i : ℕ) (g : Obj)
    → GroupsAre plan past m → act_at m.plan run i ≡ Some (Leave g) → (count_at m.groups g.0 == 1) ≡ true
    → emptied_by_leave m run g ≡ after m.plan m (Acted w run i)
emptied_stepped plan past m w (Block b) i g groups at one = rw (at, one, told_is_sent plan past m g.0 groups) (simp units)
emptied_stepped plan past m w (Source s) i g groups at one = rw (at, one, told_is_sent plan past m g.0 groups) (simp units)

others_stay : (plan : PlanView) (past : List Event) (m : MachineView) (w : ℕ) (run : Run) (i : ℕ) (g : Obj)
    → GroupsAre plan past m → act_at m.plan run i ≡ Some (Leave g) → (count_at m.groups g.0 == 1) ≡ false
    → left_if m run g false ≡ after m.plan m (Acted w run i)
others_stay plan past m w (Block b) i g groups at more = rw (at, more, groups.fired g.0) (simp units)
others_stay plan past m w (Source s) i g groups at more = rw (at, more, groups.fired g.0) (simp units)

pub leave_stepped : (plan : PlanView) (past : List Event) (m : MachineView) (w : ℕ) (run : Run) (i : ℕ) (g : Obj)
    → GroupsAre plan past m → g.0 < length m.groups.due → act_at m.plan run i ≡ Some (Leave g)
    → stepped m (Acted w run i) ≡ after m.plan m (Acted w run i)
leave_stepped plan past m w run i g groups low at =
    ap (λ o. counted m (act_taken m w run o)) at
    ∙ (taken m w run g
    ∙ elim (count_at m.groups g.0 == 1) as (λ t. (count_at m.groups g.0 == 1) ≡ t → left_if m run g t ≡ after m.plan m (Acted w run i)) [
      | true ↦ λ one.
          ap (counted m) (emptied_is (acted m run) g (less m g) (home_in m) (acted_homes m run) (due_at_last m.groups g.0 (m.len + 1) one low))
          ∙ emptied_stepped plan past m w run i g groups at one
      | false ↦ λ more. others_stay plan past m w run i g groups at more
    ] refl)

-- ## Notify

-- nobody has registered at an empty group
none_registered : (plan : PlanView) (past : List Event) (v : MachineView) (g : ℕ) → GroupsAre plan past v → (count_at v.groups g == 0) ≡ true → list_at v.groups.notify g ≡ []
none_registered plan past v g groups empty =
    no_told (list_at v.groups.notify g) (groups.notify g ∙ none_waits plan past g (sym (groups.counts g) ∙ eqb-true (count_at v.groups g) 0 empty))
  where
    no_told : (ws : List (Blk × Bool)) → map (notify_submission v) ws ≡ [] → ws ≡ []
    no_told [] h = refl
    no_told (w ∷ ws) h = cc

-- the block is behind the notify blocks of the group, and has its home
abbrev told_of : MachineView → Blk → Obj → Obj → Blk → MachineView
told_of m b g q c = record (acted m (Block b)) {
  blocks = with_block (acted m (Block b)).blocks c.0 (λ x. record x { home = q });
  groups = with_notify m.groups g.0 c;
}

-- all that are due are submitted
abbrev fired_view : MachineView → Obj → List Submission → MachineView
fired_view m g subs = record (all_submitted m subs) { groups = all_fired m.groups g.0 }

-- at an empty group the block is the only one there
only_one : (plan : PlanView) (past : List Event) (m : MachineView) (b : Blk) (g q : Obj) (c : Blk) → GroupsAre plan past m → g.0 < length m.groups.notify.lists → (count_at m.groups g.0 == 0) ≡ true
    → list_at (told_of m b g q c).groups.notify g.0 ≡ (c, false) ∷ []
only_one plan past m b g q c groups low empty =
    get_or-set_same m.groups.notify.lists g.0 (list_at m.groups.notify g.0 ++ (c, false) ∷ []) [] low
    ∙ ap (λ ws. ws ++ (c, false) ∷ []) (none_registered plan past m g.0 groups empty)

due_now : (plan : PlanView) (past : List Event) (m : MachineView) (b : Blk) (g q : Obj) (c : Blk) → GroupsAre plan past m → g.0 < length m.groups.notify.lists → g.0 < length m.groups.due → (count_at m.groups g.0 == 0) ≡ true
    → due_at (told_of m b g q c).groups g.0 ≡ length (list_at (told_of m b g q c).groups.notify g.0)
due_now plan past m b g q c groups low wide empty =
    rw empty (get_or-set_same m.groups.due g.0 (length (list_at m.groups.notify g.0) + 1) 0 wide)
    ∙ (ap (λ ws. length ws + 1) (none_registered plan past m g.0 groups empty) ∙ sym (ap length (only_one plan past m b g q c groups low empty)))

-- it goes to the queue that its registration says
its_home : (m : MachineView) (b : Blk) (g q : Obj) (c : Blk) → c.0 < length (acted m (Block b)).blocks → home_in (told_of m b g q c) c.0 ≡ q
its_home m b g q c low =
    ap (λ (x : BlockProgress). x.home) (get_or-set_same (acted m (Block b)).blocks c.0 (record (block_at (acted m (Block b)) c.0) { home = q }) idle low)

it_is_sent : (plan : PlanView) (past : List Event) (m : MachineView) (b : Blk) (g q : Obj) (c : Blk)
    → GroupsAre plan past m → g.0 < length m.groups.notify.lists → c.0 < length (acted m (Block b)).blocks → (count_at m.groups g.0 == 0) ≡ true
    → map (sent (home_in (told_of m b g q c))) (list_at (told_of m b g q c).groups.notify g.0) ≡ on_node q c false
it_is_sent plan past m b g q c groups low blk empty =
    ap (map (sent (home_in (told_of m b g q c)))) (only_one plan past m b g q c groups low empty)
    ∙ ap (λ h. on_node h c false) (its_home m b g q c blk)

told_at_once : (plan : PlanView) (past : List Event) (m : MachineView) (w : ℕ) (b : Blk) (i : ℕ) (g q : Obj) (c : Blk)
    → GroupsAre plan past m → g.0 < length m.groups.notify.lists → g.0 < length m.groups.due → c.0 < length (acted m (Block b)).blocks
    → act_at m.plan (Block b) i ≡ Some (Notify g q c) → (count_at m.groups g.0 == 0) ≡ true
    → counted m (all_fired_at (told_of m b g q c) g) ≡ after m.plan m (Acted w (Block b) i)
told_at_once plan past m w b i g q c groups low wide blk at empty =
    ap (counted m) (all_fired_is (told_of m b g q c) g (home_in (told_of m b g q c)) (λ k. refl) (due_now plan past m b g q c groups low wide empty))
    ∙ (ap (λ subs. counted m (fired_view (told_of m b g q c) g subs)) (it_is_sent plan past m b g q c groups low blk empty)
    ∙ rw (at, empty) (simp units))

pub notify_stepped : (plan : PlanView) (past : List Event) (m : MachineView) (w : ℕ) (b : Blk) (i : ℕ) (g q : Obj) (c : Blk)
    → GroupsAre plan past m → g.0 < length m.groups.notify.lists → g.0 < length m.groups.due → c.0 < length m.blocks
    → act_at m.plan (Block b) i ≡ Some (Notify g q c)
    → stepped m (Acted w (Block b) i) ≡ after m.plan m (Acted w (Block b) i)
notify_stepped plan past m w b i g q c groups low wide blk at =
    ap (λ o. counted m (act_taken m w (Block b) o)) at
    ∙ elim (count_at m.groups g.0 == 0) as (λ t. (count_at m.groups g.0 == 0) ≡ t → counted m (all_fired_at (told_of m b g q c) g) ≡ after m.plan m (Acted w (Block b) i)) [
      | true ↦ λ empty.
          let long = length-set m.blocks b.0 (record (block_at m b.0) { done = (block_at m b.0).done + 1 }) in
          told_at_once plan past m w b i g q c groups low wide (omega (arith, blk, long)) at empty
      | false ↦ λ more.
          ap (counted m) (none_fired_is (told_of m b g q c) g (rw more (groups.fired g.0)))
          ∙ rw (at, more, groups.fired g.0) (simp units)
    ] refl
