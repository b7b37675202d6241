-- A start and an end at once: the node's target, its barriers and the worker come back to what they were.
use Rattle.std.proofs.Common.{◌≡◌, ⊎_elim, ℕ, zero, suc, ◌+◌, ◌-◌, ◌<◌, ◌≤◌, ◌==◌, Bool, true, false, ◌||◌, cond, List, [], length, get_or, set, Option, Some, None, refl, ap, sym, ◌∙◌, arith}
use Rattle.std.specs.List.{list_any, slice_index_or}
use Rattle.std.specs.Option.{option_map_or}
use Rattle.std.proofs.lemmas.Bool.{cases_lt, eqb-true}
use Rattle.std.proofs.lemmas.List.{get_or-set_same, get_or_past, set-get_or, set-set, set_past}
use Rattle.gcd_plan.proofs.Options.{none_from_is_some}
use Rattle.gcd_plan.specs.Chains.{chain_by}
use Rattle.gcd_plan.specs.declared.numbers.Blk.{Blk}
use Rattle.gcd_plan.specs.declared.numbers.Obj.{Obj}
use Rattle.gcd_plan.specs.declared.numbers.Run.{Run}
use Rattle.gcd_plan.specs.declared.numbers.Run.TheVariants.{Block}
use Rattle.gcd_event.specs.declared.event.Event.TheVariants.{Start}
use Rattle.gcd_tree.specs.TreeView.{TreeView, has_mover_at, is_moving_at, settled_to, target_at, with_open}
use Rattle.gcd_drain.specs.DrainsView.{DrainsView, barriers_at, with_barriers}
use Rattle.gcd_blockobj.specs.MarksView.{with_begun, with_ended}
use Rattle.gcd_refinement.specs.MachineView.{MachineView, at_worker, block_at, idle}
use Rattle.gcd_refinement.specs.declared.progress.BlockProgress.{BlockProgress}
use Rattle.gcd_refinement.specs.After.{barrier_began, barrier_ended, closed, opened, with_block}
use Rattle.gcd_machine.proofs.Conditions.Kept.{block_read}
use Rattle.gcd_machine.specs.Conditions.{CanBegin, CanStart}
use Rattle.gcd_machine.specs.Steps.{closed_block, passed, run_begun, run_closed, set_free, stepped, taken_off, taken_up}

-- ## What goes up and down again

up_and_down : (n : ℕ) → n + 1 - 1 ≡ n
up_and_down n = omega arith

put_back : {X : Type 0} (xs : List X) (i : ℕ) (x old d : X) → get_or xs i d ≡ old → set (set xs i x) i old ≡ xs
put_back xs i x old d was = set-set xs i x old ∙ (ap (set xs i) (sym was) ∙ set-get_or xs i d)

either_is : {X : Type 0} (x y z : X) (test : Bool) → (test ≡ true → x ≡ z) → (test ≡ false → y ≡ z) → cond test x y ≡ z
either_is x y z true first second = first refl
either_is x y z false first second = second refl

-- ## The node

-- an object is the first of its chain
first_still : (p : ℕ → Bool) (next : ℕ → ℕ) (bound n : ℕ) → 0 < bound → list_any p (chain_by next bound n) ≡ false → p n ≡ false
first_still p next zero n some none = absurd (omega (arith, some))
first_still p next (suc bound) n some none =
    elim (p n) as (λ v. (v || list_any p (cond (n == 0) [] (chain_by next bound (next n)))) ≡ false → v ≡ false) [
      | true ↦ λ e. cc
      | false ↦ λ e. refl
    ] none

no_request : (tree : TreeView) (n : Obj) → n.0 < length tree.targets → has_mover_at tree n.0 ≡ false → slice_index_or tree.requests n.0 None ≡ None
no_request tree n low still =
    none_from_is_some (slice_index_or tree.requests n.0 None) (first_still (is_moving_at tree) (target_at tree) (length tree.targets) n.0 (omega (arith, low)) still)

tree_back : (tree : TreeView) (n : Obj) → slice_index_or tree.requests n.0 None ≡ None → closed (opened tree (Some n)) (Some n) ≡ tree
tree_back tree n none =
    let xs = tree.open_on in
    let k = get_or xs n.0 0 in
    let more = with_open tree n.0 (k + 1) in
    ⊎_elim
    (λ (low : n.0 < length xs).
    let here : get_or (set xs n.0 (k + 1)) n.0 0 ≡ k + 1 = get_or-set_same xs n.0 (k + 1) 0 low in
    ap (λ i. cond (i == 1) (settled_to (with_open more n.0 0) n.0 (slice_index_or tree.requests n.0 None)) (with_open more n.0 (i - 1))) here
    ∙ either_is (settled_to (with_open more n.0 0) n.0 (slice_index_or tree.requests n.0 None)) (with_open more n.0 (k + 1 - 1)) tree (k + 1 == 1)
    (λ last.
    let one = eqb-true (k + 1) 1 last in
    ap (settled_to (with_open more n.0 0) n.0) none ∙ ap (λ (ys : List ℕ). record tree { open_on = ys }) (put_back xs n.0 (k + 1) 0 0 (omega (arith, one))))
    (λ others. ap (with_open more n.0) (up_and_down k) ∙ ap (λ (ys : List ℕ). record tree { open_on = ys }) (put_back xs n.0 (k + 1) k 0 refl)))
    (λ (high : length xs ≤ n.0).
    let same : more ≡ tree = ap (λ (ys : List ℕ). record tree { open_on = ys }) (set_past xs n.0 (k + 1) high) in
    ap (λ (t : TreeView). closed t (Some n)) same
    ∙ (ap (λ i. cond (i == 1) (settled_to (with_open tree n.0 0) n.0 (slice_index_or tree.requests n.0 None)) (with_open tree n.0 (i - 1))) (get_or_past xs n.0 0 high)
    ∙ ap (λ (ys : List ℕ). record tree { open_on = ys }) (set_past xs n.0 0 high)))
    (cases_lt n.0 (length xs))

drains_back : (drains : DrainsView) (n : Obj) (barrier : Bool) → n.0 < length drains.barriers → barrier_ended (barrier_began drains (Some n) barrier) (Some n) barrier ≡ drains
drains_back drains n false low = refl
drains_back drains n true low =
    let xs = drains.barriers in
    let k = barriers_at drains n.0 in
    let more = with_barriers drains n.0 (k + 1) in
    ap (λ i. with_barriers more n.0 (i - 1)) (get_or-set_same xs n.0 (k + 1) 0 low)
    ∙ (ap (with_barriers more n.0) (up_and_down k) ∙ ap (λ (ys : List ℕ). record drains { barriers = ys }) (put_back xs n.0 (k + 1) k 0 refl))

-- a run that opens on the node, if there is one, and closes leaves them
record Stays (t : TreeView) (d : DrainsView) (node : Option Obj) (barrier : Bool) : Type 0 where
  tree : closed (opened t node) node ≡ t
  drains : barrier_ended (barrier_began d node barrier) node barrier ≡ d

stays : (m : MachineView) (w : ℕ) (b : Blk) → CanStart m w b → Stays m.tree m.drains (block_at m b.0).node (block_at m b.0).barrier
stays m w b can = at (block_at m b.0).node can.node
  where
    at : (node : Option Obj) → ((n : Obj) → node ≡ Some n → CanBegin m n (block_at m b.0).barrier) → Stays m.tree m.drains node (block_at m b.0).barrier
    at None begins = record { tree = refl; drains = refl }
    at (Some n) begins =
        let begin = begins n refl in
        record {
          tree = tree_back m.tree n (no_request m.tree n begin.opens.node begin.opens.still);
          drains = drains_back m.drains n (block_at m b.0).barrier begin.fenced;
        }

-- ## The whole

-- block b is over, after so many events
abbrev over_by : MachineView → Blk → ℕ → MachineView
over_by m b len = record m { ended = set m.ended b.0 true; left = m.left - 1; marks = with_ended m.marks b.0; len = len }

abbrev with_node : MachineView → TreeView → DrainsView → List (Option Run) → ℕ → MachineView
with_node m tree drains workers running = record m { tree = tree; drains = drains; workers = workers; running = running }

through : (k : MachineView) (w : ℕ) (b : Blk) (node : Option Obj) (barrier : Bool) (len : ℕ) → at_worker k w ≡ None → Stays k.tree k.drains node barrier
    → set_free (run_closed (over_by (taken_up (run_begun k node barrier) w (Block b)) b len) node barrier) w ≡ over_by (option_map_or (taken_off k) node k) b len
through k w b None barrier len free stay =
    let workers = put_back k.workers w (Some (Block b)) None None free in
    ap (λ (ws : List (Option Run)). with_node (over_by k b len) k.tree k.drains ws (k.running + 1 - 1)) workers
    ∙ ap (with_node (over_by k b len) k.tree k.drains k.workers) (up_and_down k.running)
through k w b (Some n) barrier len free stay =
    let workers = put_back k.workers w (Some (Block b)) None None free in
    let x = over_by (taken_off k n) b len in
    let drains = barrier_ended (barrier_began k.drains (Some n) barrier) (Some n) barrier in
    let twice = set (set k.workers w (Some (Block b))) w None in
    ap (λ (t : TreeView). with_node x t drains twice (k.running + 1 - 1)) stay.tree
    ∙ (ap (λ (d : DrainsView). with_node x k.tree d twice (k.running + 1 - 1)) stay.drains
    ∙ (ap (λ (ws : List (Option Run)). with_node x k.tree k.drains ws (k.running + 1 - 1)) workers
    ∙ ap (with_node x k.tree k.drains k.workers) (up_and_down k.running)))

begun_blocks : (k : MachineView) (node : Option Obj) (barrier : Bool) → (run_begun k node barrier).blocks ≡ k.blocks
begun_blocks k None barrier = refl
begun_blocks k (Some n) barrier = refl

-- the block once it has started, as it is read
pub cell_is : (m : MachineView) (w : ℕ) (b : Blk) (d : BlockProgress) → b.0 < length m.blocks
    → get_or (stepped m (Start w b)).blocks b.0 d ≡ record (block_at m b.0) { started = true }
cell_is m w b d low =
    let noted : MachineView = record m { blocks = with_block m.blocks b.0 (λ x. record x { started = true }); marks = with_begun m.marks b.0 } in
    ap (λ (xs : List BlockProgress). get_or xs b.0 d) (begun_blocks noted (block_at m b.0).node (block_at m b.0).barrier)
    ∙ get_or-set_same m.blocks b.0 (record (block_at m b.0) { started = true }) d low

pub cell_read : (m : MachineView) (w : ℕ) (b : Blk) (read : BlockProgress) → b.0 < length m.blocks → read ≡ get_or m.blocks b.0 read
    → record read { started = true } ≡ get_or (stepped m (Start w b)).blocks b.0 (record read { started = true })
cell_read m w b read low is =
    ap (λ (r : BlockProgress). record r { started = true }) (block_read m b is low) ∙ sym (cell_is m w b (record read { started = true }) low)

pub passed_is : (m : MachineView) (w : ℕ) (b : Blk) → CanStart m w b → at_worker m w ≡ None
    → record (passed m b) { len = m.len + 1 } ≡ closed_block (stepped m (Start w b)) w b
passed_is m w b can free =
    let noted : MachineView = record m { blocks = with_block m.blocks b.0 (λ x. record x { started = true }); marks = with_begun m.marks b.0 } in
    let cell = block_at m b.0 in
    let over = over_by (taken_up (run_begun noted cell.node cell.barrier) w (Block b)) b (m.len + 1) in
    sym
    (ap (λ (x : BlockProgress). set_free (run_closed over x.node x.barrier) w) (cell_is m w b idle can.blk)
    ∙ through noted w b cell.node cell.barrier (m.len + 1) free (stays m w b can))
