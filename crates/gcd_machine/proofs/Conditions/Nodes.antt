-- What the steps on a node ask: a run may open where nothing on its chain is held, and closes where it is open.
use Rattle.std.proofs.Common.{◌≡◌, ℕ, ◌+◌, ◌^◌, ◌<◌, ◌≤◌, ◌==◌, Bool, true, false, not, ◌&&◌, List, [], ◌∷◌, length, Some, None, option_and_then, option_map, refl, ap, sym, ◌∙◌, arith, eq-eqb}
use Rattle.std.specs.List.{list_any, range_with_len}
use Rattle.std.specs.Option.{option_map_or}
use Rattle.std.proofs.lemmas.Bool.{and_from, false_from_ne_true, both_ways, or_parts, or_from}
use Rattle.std.proofs.lemmas.List.{length-map}
use Rattle.std.proofs.lemmas.List.Sums.{count_by-le-length}
use Rattle.std.proofs.lemmas.List.FromFn.{length-range_with_len}
use Rattle.gcd_plan.specs.PlanView.{PlanView}
use Rattle.gcd_plan.specs.StartRule.{is_held}
use Rattle.gcd_plan.specs.declared.numbers.Blk.{Blk}
use Rattle.gcd_plan.specs.declared.numbers.Obj.{Obj}
use Rattle.gcd_plan.specs.declared.numbers.Run.{Run}
use Rattle.gcd_plan.specs.declared.numbers.Run.TheVariants.{Block}
use Rattle.gcd_event.specs.declared.event.Event.{Event}
use Rattle.gcd_history.specs.Runs.{open_runs, is_open}
use Rattle.gcd_history.specs.Submitted.{submission_of}
use Rattle.gcd_history.specs.Tree.{node_of_run, is_run_on, chain, is_moving}
use Rattle.gcd_history.specs.Holds.{hold, is_active, is_free}
use Rattle.gcd_history.specs.Permitted.{knowledge, is_on, is_barrier_on}
use Rattle.gcd_plan.proofs.Sums.{count_by_some}
use Rattle.gcd_history.proofs.Runs.OpenNodes.{any_open}
use Rattle.gcd_tree.specs.TreeView.{is_moving_at}
use Rattle.gcd_timer.specs.TimersView.{due_count_at, is_due_at}
use Rattle.gcd_refinement.specs.MachineView.{MachineView, block_at}
use Rattle.gcd_refinement.specs.Stands.{IsTied}
use Rattle.gcd_machine.specs.Conditions.{HasPending, CanOpen, CanClose, CanBegin, CanCloseOn}
use Rattle.gcd_machine.proofs.Views.Chains.{chain_told, moving_told}

-- ## Chains

-- a test that fails on all, and whatever implies it
none_of : (p q : ℕ → Bool) (xs : List ℕ) → ((x : ℕ) → q x ≡ true → p x ≡ true) → list_any p xs ≡ false → list_any q xs ≡ false
none_of p q [] implies none = refl
none_of p q (x ∷ xs) implies none =
    let parts = or_parts (p x) (list_any p xs) none in
    or_from (q x) (list_any q xs) (false_from_ne_true (q x) (λ h. both_ways (p x) parts.0 (implies x h))) (none_of p q xs implies parts.1)

unfree : (plan : PlanView) (past : List Event) (o : ℕ) → is_moving plan past o ≡ true → not (is_free plan past o) ≡ true
unfolding is_free
unfree plan past o moving =
    elim (is_active plan past o) as (λ a. not (a && (hold plan past o == 0 && not (is_moving plan past o))) ≡ true) [
      | true ↦ elim (hold plan past o == 0) as (λ h. not (h && not (is_moving plan past o)) ≡ true) [ true ↦ ap (λ s. not (not s)) moving | false ↦ refl ]
      | false ↦ refl
    ]

-- nothing on a chain that is not held is moving
unheld : (plan : PlanView) (past : List Event) (xs : List ℕ) → is_held (knowledge plan past) xs ≡ false → list_any (is_moving plan past) xs ≡ false
unfolding knowledge
unheld plan past xs free = none_of (λ o. not (is_free plan past o)) (is_moving plan past) xs (unfree plan past) free

-- ## Nodes

module _ (past : List Event) (m : MachineView) (t : IsTied m.plan past m) (room : length past + 1 < 2 ^ 32) where
  pub has_list : (n : Obj) → n.0 < length m.plan.objects → n.0 < length m.lists.lists
  has_list n low = let lists = t.parts.lists in omega (arith, low, lists)

  due_low : (s : ℕ) → due_count_at m.timers s ≤ m.timers.moment
  due_low s =
      let few = count_by-le-length (is_due_at m.timers s) (range_with_len 1 m.timers.moment) in
      let long = length-range_with_len 1 m.timers.moment in
      omega (arith, few, long)

  pub has_pending : (s : Obj) → s.0 < length m.plan.objects → HasPending m s
  has_pending s low =
      let kinds = ap length t.parts.source_kinds ∙ length-map m.plan.objects (λ o. o.kind) in
      let timers = ap length t.parts.timer_kinds ∙ length-map m.plan.objects (λ o. o.kind) in
      let handlers = t.own.handlers in
      let few = t.small.pending s.0 in
      let due = due_low s.0 in
      let moment = t.small.moment in
      let until = t.valid.until_high in
      record {
        source = omega (arith, low, kinds);
        timer = omega (arith, low, timers);
        handler = omega (arith, low, handlers);
        taken = t.sources.taken s.0;
        room = omega (arith, few, due, moment, until, room);
      }

  pub can_open : (n : Obj) → n.0 < length m.plan.objects → is_held (knowledge m.plan past) (chain m.plan past n.0) ≡ false → CanOpen m n
  can_open n low free =
      let long = t.parts.targets in
      let few = t.small.runs in
      record {
        node = omega (arith, low, long);
        still =
            ap (list_any (is_moving_at m.tree)) (chain_told m.plan past m t.tree long n.0)
            ∙ none_of (is_moving m.plan past) (is_moving_at m.tree) (chain m.plan past n.0) (λ o h. sym (moving_told m.plan past m t.tree long o) ∙ h) (unheld m.plan past (chain m.plan past n.0) free);
        runs = omega (arith, few, room);
      }

  -- a run that is open on the node
  pub can_close : (n : Obj) (run : Run) → n.0 < length m.plan.objects → is_open past run ≡ true → node_of_run m.plan past run ≡ Some n.0 → CanClose m n
  can_close n run low live on =
      let long = t.parts.targets in
      let runs = t.tree.runs n.0 in
      let here : is_run_on m.plan past n.0 run ≡ true = ap (λ o. option_map_or (λ k. k == n.0) o false) on ∙ eq-eqb n.0 n.0 refl in
      let some = count_by_some (is_run_on m.plan past n.0) (open_runs past) (any_open past (is_run_on m.plan past n.0) run live here) in
      record { node = omega (arith, low, long); is_open = omega (arith, runs, some) }

  pub can_begin : (n : Obj) (barrier : Bool) → n.0 < length m.plan.objects → is_held (knowledge m.plan past) (chain m.plan past n.0) ≡ false → CanBegin m n barrier
  can_begin n barrier low free =
      let long = t.parts.barriers in
      let busy = t.own.busy in
      let few = t.small.barriers n.0 in
      record {
        off = record { list = has_list n low; marked = omega (arith, low, busy); pending = has_pending n low };
        opens = can_open n low free;
        fenced = omega (arith, low, long);
        barriers = λ h. omega (arith, few, room);
      }

  barrier_told : (n : Obj) (b : Blk) → option_and_then (λ s. s.node) (submission_of m.plan past b.0) ≡ Some n → option_map_or (λ s. s.barrier) (submission_of m.plan past b.0) false ≡ true → is_barrier_on m.plan past n.0 (Block b) ≡ true
  barrier_told n b =
      elim (submission_of m.plan past b.0) as (λ o. option_and_then (λ s. s.node) o ≡ Some n → option_map_or (λ s. s.barrier) o false ≡ true → option_map_or (λ s. s.barrier && is_on n.0 s) o false ≡ true) [
        | None ↦ λ on h. cc
        | Some s ↦ λ on h. and_from s.barrier (is_on n.0 s) h (ap (λ k. option_map_or (λ o. o.0 == n.0) k false) on ∙ eq-eqb n.0 n.0 refl)
      ]

  -- a block whose run is open on the node
  pub can_close_on : (n : Obj) (b : Blk) → is_open past (Block b) ≡ true → (block_at m b.0).node ≡ Some n → CanCloseOn m n (block_at m b.0).barrier
  can_close_on n b live on =
      let low = t.own.nodes b.0 n on in
      let long = t.parts.barriers in
      let node = sym (t.blocks.node b.0) ∙ on in
      let barriers = t.drains.barriers n.0 in
      record {
        closes = can_close n (Block b) low live (ap (option_map (λ o. o.0)) node);
        fenced = omega (arith, low, long);
        barriers = λ h.
            let told = barrier_told n b node (sym (t.blocks.barrier b.0) ∙ h) in
            let some = count_by_some (is_barrier_on m.plan past n.0) (open_runs past) (any_open past (is_barrier_on m.plan past n.0) (Block b) live told) in
            omega (arith, some, barriers);
      }
