-- What an act changes: the private steps together make what its event changes. Those that end or tell a group are in
-- `Groups`.
use Rattle.std.proofs.Common.{◌≡◌, ℕ, ◌<◌, ◌==◌, true, false, List, Some, length, refl, ap, ◌∙◌}
use Rattle.gcd_plan.specs.PlanView.{PlanView}
use Rattle.gcd_plan.specs.Validity.{is_handler_act}
use Rattle.gcd_plan.specs.declared.act.Act.{Act}
use Rattle.gcd_plan.specs.declared.act.Act.TheVariants.{Async, Barrier, Sync, BarrierSync, GroupAsync, Notify, Enter, Leave, GroupWait, GroupWaitFor, Signal, Wait, WaitFor, Suspend, Resume, Activate, Target, Merge, Cancel, Retain, Release, Apply, CancelBlock, WaitBlock, NotifyBlock}
use Rattle.gcd_plan.specs.declared.numbers.Blk.{Blk}
use Rattle.gcd_plan.specs.declared.numbers.Obj.{Obj}
use Rattle.gcd_plan.specs.declared.numbers.Run.{Run}
use Rattle.gcd_plan.specs.declared.numbers.Run.TheVariants.{Block, Source}
use Rattle.gcd_event.specs.declared.event.Event.{Event}
use Rattle.gcd_event.specs.declared.event.Event.TheVariants.{Act as Acted}
use Rattle.gcd_history.specs.Runs.{act_at}
use Rattle.gcd_group.specs.GroupsView.{count_at}
use Rattle.gcd_sema.specs.SemasView.{has_value_at}
use Rattle.gcd_refinement.specs.MachineView.{MachineView}
use Rattle.gcd_plan.specs.Needs.{mark_room}
use Rattle.gcd_refinement.specs.Ties.{GroupsAre, BlockMarksAre}
use Rattle.gcd_refinement.specs.After.{after}
use Rattle.gcd_machine.specs.Steps.{acted, act_taken, stepped}
use Rattle.gcd_machine.proofs.Steps.Activations.{units, counted, activated_is, resumed_is, cancelled_is}
use Rattle.gcd_machine.proofs.Steps.Groups.{leave_stepped, notify_stepped}
use Rattle.gcd_machine.proofs.Steps.Strips.{apply_stepped}
use Rattle.gcd_machine.proofs.Steps.Blocks.{wait_block_stepped, notify_block_stepped}

-- the event's steps make what it changes
abbrev pub IsStepped : MachineView → ℕ → Run → ℕ → Type 0
IsStepped m w run i = stepped m (Acted w run i) ≡ after m.plan m (Acted w run i)

resume_stepped : (m : MachineView) (w : ℕ) (run : Run) (i : ℕ) (o : Obj) → act_at m.plan run i ≡ Some (Resume o) → IsStepped m w run i
resume_stepped m w (Block b) i o at =
    ap (λ a. counted m (act_taken m w (Block b) a)) at ∙ (ap (counted m) (resumed_is (acted m (Block b)) o) ∙ rw at (simp units))
resume_stepped m w (Source s) i o at =
    ap (λ a. counted m (act_taken m w (Source s) a)) at ∙ (ap (counted m) (resumed_is (acted m (Source s)) o) ∙ rw at (simp units))

activate_stepped : (m : MachineView) (w : ℕ) (run : Run) (i : ℕ) (o : Obj) → act_at m.plan run i ≡ Some (Activate o) → IsStepped m w run i
activate_stepped m w (Block b) i o at =
    ap (λ a. counted m (act_taken m w (Block b) a)) at ∙ (ap (counted m) (activated_is (acted m (Block b)) o) ∙ rw at (simp units))
activate_stepped m w (Source s) i o at =
    ap (λ a. counted m (act_taken m w (Source s) a)) at ∙ (ap (counted m) (activated_is (acted m (Source s)) o) ∙ rw at (simp units))

cancel_stepped : (m : MachineView) (w : ℕ) (run : Run) (i : ℕ) (s : Obj) → act_at m.plan run i ≡ Some (Cancel s) → IsStepped m w run i
cancel_stepped m w (Block b) i s at =
    ap (λ a. counted m (act_taken m w (Block b) a)) at ∙ (ap (counted m) (cancelled_is (acted m (Block b)) s) ∙ rw at (simp units))
cancel_stepped m w (Source t) i s at =
    ap (λ a. counted m (act_taken m w (Source t) a)) at ∙ (ap (counted m) (cancelled_is (acted m (Source t)) s) ∙ rw at (simp units))

wait_stepped : (m : MachineView) (w : ℕ) (b : Blk) (i : ℕ) (s : Obj) → act_at m.plan (Block b) i ≡ Some (Wait s) → IsStepped m w (Block b) i
wait_stepped m w b i s at =
    elim (has_value_at m.semas s.0) as (λ t. has_value_at m.semas s.0 ≡ t → IsStepped m w (Block b) i) [
      | true ↦ λ e. rw (at, e) (simp units)
      | false ↦ λ e. rw (at, e) (simp units)
    ] refl

limited_wait_stepped : (m : MachineView) (w : ℕ) (b : Blk) (i : ℕ) (s : Obj) (ms : ℕ) → act_at m.plan (Block b) i ≡ Some (WaitFor s ms) → IsStepped m w (Block b) i
limited_wait_stepped m w b i s ms at =
    elim (has_value_at m.semas s.0) as (λ t. has_value_at m.semas s.0 ≡ t → IsStepped m w (Block b) i) [
      | true ↦ λ e. rw (at, e) (simp units)
      | false ↦ λ e. rw (at, e) (simp units)
    ] refl

group_wait_stepped : (m : MachineView) (w : ℕ) (b : Blk) (i : ℕ) (g : Obj) → act_at m.plan (Block b) i ≡ Some (GroupWait g) → IsStepped m w (Block b) i
group_wait_stepped m w b i g at =
    elim (count_at m.groups g.0 == 0) as (λ t. (count_at m.groups g.0 == 0) ≡ t → IsStepped m w (Block b) i) [
      | true ↦ λ e. rw (at, e) (simp units)
      | false ↦ λ e. rw (at, e) (simp units)
    ] refl

limited_group_wait_stepped : (m : MachineView) (w : ℕ) (b : Blk) (i : ℕ) (g : Obj) (ms : ℕ) → act_at m.plan (Block b) i ≡ Some (GroupWaitFor g ms) → IsStepped m w (Block b) i
limited_group_wait_stepped m w b i g ms at =
    elim (count_at m.groups g.0 == 0) as (λ t. (count_at m.groups g.0 == 0) ≡ t → IsStepped m w (Block b) i) [
      | true ↦ λ e. rw (at, e) (simp units)
      | false ↦ λ e. rw (at, e) (simp units)
    ] refl

-- the places that the act writes
pub record HasPlaces (m : MachineView) (act : Act) : Type 0 where
  pub leave : (g : Obj) → act ≡ Leave g → g.0 < length m.groups.due
  pub notify : (g q : Obj) (c : Blk) → act ≡ Notify g q c → (g.0 < length m.groups.notify.lists) × (g.0 < length m.groups.due) × (c.0 < length m.blocks)
  pub apply : (q : Obj) (a : ℕ) → act ≡ Apply q a → q.0 < length m.lists.lists
  pub notify_block : (c : Blk) (q : Obj) (d : Blk) → act ≡ NotifyBlock c q d → d.0 < length m.blocks
  pub kept : length m.marks.ended ≡ mark_room m.plan
  pub listed : length m.marks.ended ≡ length m.marks.notify.lists

pub block_stepped : (plan : PlanView) (past : List Event) (m : MachineView) (w : ℕ) (b : Blk) (i : ℕ) (act : Act) → GroupsAre plan past m → BlockMarksAre m.plan past m → HasPlaces m act → act_at m.plan (Block b) i ≡ Some act → IsStepped m w (Block b) i
block_stepped plan past m w b i (Async q c) groups marks low at = rw at (simp units)
block_stepped plan past m w b i (Barrier q c) groups marks low at = rw at (simp units)
block_stepped plan past m w b i (Sync q c) groups marks low at = rw at (simp units)
block_stepped plan past m w b i (BarrierSync q c) groups marks low at = rw at (simp units)
block_stepped plan past m w b i (GroupAsync g q c) groups marks low at = rw at (simp units)
block_stepped plan past m w b i (Notify g q c) groups marks low at =
    let places = low.notify g q c refl in
    notify_stepped plan past m w b i g q c groups places.0 places.1 places.2 at
block_stepped plan past m w b i (Enter g) groups marks low at = rw at (simp units)
block_stepped plan past m w b i (Leave g) groups marks low at = leave_stepped plan past m w (Block b) i g groups (low.leave g refl) at
block_stepped plan past m w b i (GroupWait g) groups marks low at = group_wait_stepped m w b i g at
block_stepped plan past m w b i (GroupWaitFor g ms) groups marks low at = limited_group_wait_stepped m w b i g ms at
block_stepped plan past m w b i (Wait s) groups marks low at = wait_stepped m w b i s at
block_stepped plan past m w b i (WaitFor s ms) groups marks low at = limited_wait_stepped m w b i s ms at
block_stepped plan past m w b i (Signal s) groups marks low at = rw at (simp units)
block_stepped plan past m w b i (Suspend o) groups marks low at = rw at (simp units)
block_stepped plan past m w b i (Resume o) groups marks low at = resume_stepped m w (Block b) i o at
block_stepped plan past m w b i (Activate o) groups marks low at = activate_stepped m w (Block b) i o at
block_stepped plan past m w b i (Target o t) groups marks low at = rw at (simp units)
block_stepped plan past m w b i (Merge s n) groups marks low at = rw at (simp units)
block_stepped plan past m w b i (Cancel s) groups marks low at = cancel_stepped m w (Block b) i s at
block_stepped plan past m w b i (Retain o) groups marks low at = rw at (simp units)
block_stepped plan past m w b i (Release o) groups marks low at = rw at (simp units)
block_stepped plan past m w b i (Apply q a) groups marks low at = apply_stepped m w b i q a (low.apply q a refl) at
block_stepped plan past m w b i (CancelBlock c) groups marks low at = rw at (simp units)
block_stepped plan past m w b i (WaitBlock c) groups marks low at = wait_block_stepped m w b i c at
block_stepped plan past m w b i (NotifyBlock c q d) groups marks low at =
    notify_block_stepped m.plan past m w b i c q d marks low.kept low.listed (low.notify_block c q d refl) at

-- a handler submits no block, and waits for nothing
pub handler_stepped : (plan : PlanView) (past : List Event) (m : MachineView) (w : ℕ) (t : Obj) (i : ℕ) (act : Act) → GroupsAre plan past m → BlockMarksAre m.plan past m → HasPlaces m act → is_handler_act act ≡ true → act_at m.plan (Source t) i ≡ Some act → IsStepped m w (Source t) i
handler_stepped plan past m w t i (Enter g) groups marks low may at = rw at (simp units)
handler_stepped plan past m w t i (Leave g) groups marks low may at = leave_stepped plan past m w (Source t) i g groups (low.leave g refl) at
handler_stepped plan past m w t i (Signal s) groups marks low may at = rw at (simp units)
handler_stepped plan past m w t i (Suspend o) groups marks low may at = rw at (simp units)
handler_stepped plan past m w t i (Resume o) groups marks low may at = resume_stepped m w (Source t) i o at
handler_stepped plan past m w t i (Activate o) groups marks low may at = activate_stepped m w (Source t) i o at
handler_stepped plan past m w t i (Target o n) groups marks low may at = rw at (simp units)
handler_stepped plan past m w t i (Merge s n) groups marks low may at = rw at (simp units)
handler_stepped plan past m w t i (Cancel s) groups marks low may at = cancel_stepped m w (Source t) i s at
handler_stepped plan past m w t i (Retain o) groups marks low may at = rw at (simp units)
handler_stepped plan past m w t i (Release o) groups marks low may at = rw at (simp units)
handler_stepped plan past m w t i (CancelBlock c) groups marks low may at = rw at (simp units)
handler_stepped plan past m w t i act groups marks low may at = cc
