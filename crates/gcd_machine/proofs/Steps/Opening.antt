-- The run of a block that opens on its node.
use Rattle.std.proofs.Common.{◌≡◌, ℕ, ◌+◌, ◌-◌, Bool, true, false, cond, List, length, set, Some, refl, ap, ◌∙◌}
use Rattle.std.proofs.lemmas.List.{length-drop}
use Rattle.gcd_plan.specs.declared.numbers.Obj.{Obj}
use Rattle.gcd_lists.specs.ListsView.{ListsView, list_at}
use Rattle.gcd_tree.specs.TreeView.{TreeView}
use Rattle.gcd_drain.specs.DrainsView.{DrainsView, barriers_at, with_barriers}
use Rattle.gcd_refinement.specs.MachineView.{MachineView}
use Rattle.gcd_refinement.specs.After.{opened, barrier_began, pending_in, stays_busy}
use Rattle.gcd_refinement.specs.AfterSleepers.{popped}
use Rattle.gcd_machine.specs.Steps.{begun_on, taken_off}
use Rattle.gcd_machine.proofs.Steps.GroupLoops.{rest_back}

-- what is one thing in either case
in_either_case : {X : Type 0} (x y z : X) (test : Bool) → (test ≡ true → x ≡ y) → (test ≡ false → x ≡ z) → x ≡ cond test y z
in_either_case x y z true is_y is_z = is_y refl
in_either_case x y z false is_y is_z = is_z refl

-- one less waits
one_less_waits : (lists : ListsView) (n : Obj) → length (list_at (popped lists (Some n)) n.0) ≡ length (list_at lists n.0) - 1
one_less_waits lists n = ap length (rest_back lists.lists n.0) ∙ length-drop 1 (list_at lists n.0)

abbrev with_off : MachineView → ListsView → List Bool → MachineView
with_off m lists busy = record m { lists = lists; busy = busy }

pub off_is : (m : MachineView) (n : Obj) {busy : Bool} {marks : List Bool} {lists : ListsView} {pending : ℕ} → lists ≡ popped m.lists (Some n)
    → pending ≡ pending_in m n.0 → busy ≡ stays_busy (length (list_at lists n.0)) pending → marks ≡ set m.busy n.0 busy → with_off m lists marks ≡ taken_off m n
off_is m n {busy} {marks} {lists} {pending} lists_is pending_is busy_is marks_is =
    let rest = popped m.lists (Some n) in
    let waiting = ap (λ (l : ListsView). length (list_at l n.0)) lists_is ∙ one_less_waits m.lists n in
    let stays = busy_is
    ∙ (ap (λ k. stays_busy k pending) waiting
    ∙ ap (λ k. stays_busy (length (list_at m.lists n.0) - 1) k) pending_is) in
    ap (λ l. with_off m l marks) lists_is ∙ ap (with_off m rest) (marks_is ∙ ap (set m.busy n.0) stays)

abbrev with_run : MachineView → TreeView → DrainsView → MachineView
with_run m tree drains = record m { tree = tree; drains = drains }

pub begun_is : (m : MachineView) (n : Obj) {barrier : Bool} {off : MachineView} {tree : TreeView} {drains : DrainsView} → off ≡ taken_off m n
    → tree ≡ opened off.tree (Some n) → (barrier ≡ true → drains ≡ with_barriers off.drains n.0 (barriers_at off.drains n.0 + 1))
    → (barrier ≡ false → drains ≡ off.drains) → with_run off tree drains ≡ begun_on m n barrier
begun_is m n {barrier} {off} {tree} {drains} off_is tree_is is_barrier is_plain =
    let drains_is = in_either_case drains (with_barriers off.drains n.0 (barriers_at off.drains n.0 + 1)) off.drains barrier is_barrier is_plain in
    ap (λ t. with_run off t drains) tree_is
    ∙ (ap (with_run off (opened off.tree (Some n))) drains_is
    ∙ ap (λ (x : MachineView). with_run x (opened x.tree (Some n)) (barrier_began x.drains (Some n) barrier)) off_is)
