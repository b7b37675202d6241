-- What a new target asks: the object is a queue or source, and no cycle comes of it; and where the object has a child, nothing
-- is open beneath it, since it is inactive.
use Rattle.std.proofs.Common.{◌≡◌, ℕ, ◌==◌, nat_lt, true, false, not, ◌&&◌, ◌||◌, cond, List, [], ◌∷◌, length, Some, refl, ap, sym, ◌∙◌, arith}
use Rattle.std.specs.List.{list_any, range_with_len, slice_index_or}
use Rattle.std.specs.Option.{option_map_or}
use Rattle.std.proofs.Math.Path.{fun_ext}
use Rattle.std.proofs.lemmas.Bool.{and_parts, both_ways}
use Rattle.gcd_plan.specs.PlanView.{starts_active}
use Rattle.gcd_plan.specs.Chains.{is_in}
use Rattle.gcd_plan.specs.Kinds.{has_kind, is_node, is_queue, is_queue_kind, is_node_kind}
use Rattle.gcd_plan.specs.Validity.{is_held_object}
use Rattle.gcd_plan.specs.declared.act.Act.TheVariants.{Target}
use Rattle.gcd_plan.specs.declared.numbers.Obj.{Obj}
use Rattle.gcd_plan.proofs.Within.{has_object}
use Rattle.gcd_event.specs.declared.event.Event.{Event}
use Rattle.gcd_history.specs.Runs.{act_of, open_runs}
use Rattle.gcd_history.specs.Tree.{is_run_on, is_open_on, chain, chain_of_run, would_cycle, aims_at, has_child}
use Rattle.gcd_history.specs.Holds.{is_active}
use Rattle.gcd_history.specs.Permitted.{IsLawful}
use Rattle.gcd_plan.proofs.Sums.{count_by_none}
use Rattle.gcd_history.proofs.Runs.OpenNodes.{open_on_to}
use Rattle.gcd_history.proofs.Sums.{sum_by_none}
use Rattle.gcd_history.proofs.Blocks.SubmittedOnNodes.{recorded_fits}
use Rattle.gcd_history.proofs.Tree.Stands.{stands}
use Rattle.gcd_tree.specs.TreeView.{open_on_at, is_node_at, chain_at, aims_at as aims_in, has_child_at, open_from, open_beneath_at}
use Rattle.gcd_refinement.specs.MachineView.{MachineView}
use Rattle.gcd_refinement.specs.Stands.{IsTied}
use Rattle.gcd_refinement.proofs.LawfulActs.{proper, proper_parts}
use Rattle.gcd_machine.specs.Conditions.{CanTarget}
use Rattle.gcd_machine.proofs.Views.Kinds.{kind_told}
use Rattle.gcd_machine.proofs.Views.Chains.{chain_told, cycle_told}
use Rattle.gcd_history.proofs.Tree.TargetActs.{code_none}

module _ (past : List Event) (m : MachineView) (t : IsTied m.plan past m) where
  node_told : (o : ℕ) → is_node_at m.tree o ≡ is_node m.plan o
  node_told o = ap (λ xs. slice_index_or xs o false) t.parts.nodes ∙ kind_told is_node_kind m.plan o

  aims_told : (p o : ℕ) → aims_in m.tree p o ≡ aims_at m.plan past p o
  aims_told p o = ap (λ a. a.target == o || option_map_or (λ q. q == o) a.request false) (t.tree.aims p)

  child_told : (o : ℕ) → has_child_at m.tree o ≡ has_child m.plan past o
  child_told o =
      ap (λ f. list_any f (range_with_len 0 (length m.tree.targets)))
      (fun_ext (λ p. ap (λ k. not (p == 0) && (k && (not (p == o) && aims_in m.tree p o))) (node_told p) ∙ ap (λ a. not (p == 0) && (is_node m.plan p && (not (p == o) && a))) (aims_told p o)))
      ∙ ap (λ n. list_any (λ p. not (p == 0) && (is_node m.plan p && (not (p == o) && aims_at m.plan past p o))) (range_with_len 0 n)) t.parts.targets

  -- no run is open on a node beneath an inactive object
  shut_beneath : (o p : ℕ) → is_active m.plan past o ≡ false → is_in o (chain m.plan past p) ≡ true → open_on_at m.tree p ≡ 0
  shut_beneath o p inactive within =
      elim (is_open_on m.plan past p) as (λ b. is_open_on m.plan past p ≡ b → open_on_at m.tree p ≡ 0) [
        | true ↦ λ live.
            let run = open_on_to m.plan past p live in
            let inside : is_in o (chain_of_run m.plan past run.0) ≡ true = ap (λ k. is_in o (option_map_or (chain m.plan past) k [])) run.2 ∙ within in
            absurd (both_ways (is_active m.plan past o) inactive ((stands m.plan past t.valid t.lawful).active o run.0 run.1 inside))
        | false ↦ λ shut. t.tree.runs p ∙ count_by_none (is_run_on m.plan past p) (open_runs past) shut
      ] refl

  quiet_beneath : (o : ℕ) → is_active m.plan past o ≡ false → open_beneath_at m.tree o ≡ 0
  quiet_beneath o inactive =
      sum_by_none (open_from m.tree o) (range_with_len 0 (length m.tree.targets)) (λ k p at.
      elim (is_in o (chain_at m.tree p)) as (λ b. is_in o (chain_at m.tree p) ≡ b → cond b (open_on_at m.tree p) 0 ≡ 0) [
        | true ↦ λ within. shut_beneath o p inactive (ap (is_in o) (sym (chain_told m.plan past m t.tree t.parts.targets p)) ∙ within)
        | false ↦ λ apart. refl
      ] refl)

  -- an object with a child may have another target only where it is inactive
  inactive_parent : (o : ℕ) → has_child m.plan past o ≡ true → (starts_active m.plan o && has_child m.plan past o) ≡ false → (not (starts_active m.plan o) && is_active m.plan past o) ≡ false → is_active m.plan past o ≡ false
  inactive_parent o child five four =
      elim (starts_active m.plan o) as (λ s. (s && has_child m.plan past o) ≡ false → (not s && is_active m.plan past o) ≡ false → is_active m.plan past o ≡ false) [
        | true ↦ λ h k. absurd (both_ways (has_child m.plan past o) h child)
        | false ↦ λ h k. k
      ] five four

  pub can_target : (e : Event) (o q : Obj) → IsLawful m.plan (e ∷ past) → act_of m.plan e ≡ Some (Target o q) → CanTarget m o q
  can_target e o q lawful at =
      let long = t.parts.targets in
      let fits = and_parts (is_held_object m.plan o) (is_queue m.plan q.0) (recorded_fits m.plan e (Target o q) t.valid at) in
      let node = (and_parts (nat_lt 0 o.0) (has_kind is_node_kind m.plan o.0) fits.0).1 in
      let object = has_object is_node_kind m.plan o.0 node in
      let target = has_object is_queue_kind m.plan q.0 fits.1 in
      let codes = (proper_parts m.plan past (Target o q) (proper m.plan past e (Target o q) lawful at)).1 in
      let three = code_none 3 (would_cycle m.plan past o.0 q.0) ((4, not (starts_active m.plan o.0) && is_active m.plan past o.0) ∷ (5, starts_active m.plan o.0 && has_child m.plan past o.0) ∷ []) codes in
      let four = code_none 4 (not (starts_active m.plan o.0) && is_active m.plan past o.0) ((5, starts_active m.plan o.0 && has_child m.plan past o.0) ∷ []) three.1 in
      let five = code_none 5 (starts_active m.plan o.0 && has_child m.plan past o.0) [] four.1 in
      record {
        object = omega (arith, object, long);
        target = omega (arith, target, long);
        node = node_told o.0 ∙ node;
        no_cycle = cycle_told m.plan past m t.tree long o.0 q.0 ∙ three.0;
        quiet = λ child. quiet_beneath o.0 (inactive_parent o.0 (sym (child_told o.0) ∙ child) five.0 four.0);
      }
