-- What the parts tell of the objects, for the start rule, is what the history says of them.
use Rattle.std.proofs.Common.{◌≡◌, ⊎_elim, ℕ, ◌<◌, ◌==◌, nat_lt, Bool, true, false, not, ◌&&◌, ◌||◌, cond, List, [], ◌∷◌, length, Option, Some, None, is_some, option_map, unwrap_or, refl, ap, sym, ◌∙◌, arith}
use Rattle.std.specs.List.{slice_get, slice_index_or, list_any, count_by, sum_by, range_with_len}
use Rattle.std.specs.Option.{option_map_or}
use Rattle.std.proofs.Math.Path.{fun_ext}
use Rattle.std.proofs.lemmas.Bool.{cases_Bool, both_ways, lt-ltb, false_from_ne_true}
use Rattle.std.proofs.lemmas.Option.{slice_get-map}
use Rattle.gcd_plan.specs.PlanView.{PlanView}
use Rattle.gcd_plan.specs.Kinds.{has_kind, is_node, is_node_kind, is_exclusive, is_exclusive_kind, has_barriers, is_concurrent_kind}
use Rattle.gcd_plan.specs.Validity.{IsPlan}
use Rattle.gcd_plan.specs.Chains.{chain_by, is_in}
use Rattle.gcd_plan.specs.StartRule.{Knowledge, is_fenced as is_fenced_by}
use Rattle.gcd_plan.specs.declared.kind.Kind.{Kind}
use Rattle.gcd_plan.specs.declared.numbers.Obj.{Obj}
use Rattle.gcd_plan.specs.declared.numbers.Run.{Run}
use Rattle.gcd_plan.proofs.Within.{has_object}
use Rattle.gcd_event.specs.declared.event.Event.{Event}
use Rattle.gcd_history.specs.Runs.{open_runs, is_open}
use Rattle.gcd_history.specs.Tree.{node_of_run, is_run_on, target, is_moving, chain, chain_of_run, open_on, is_open_on, is_open_beneath, next_on_walk, would_cycle, aims_at, has_child}
use Rattle.gcd_history.specs.Holds.{is_free}
use Rattle.gcd_history.specs.Permitted.{IsLawful, knowledge, is_barrier_on, is_barrier_open, is_fenced}
use Rattle.gcd_plan.proofs.Sums.{count_by_none, count_by_some}
use Rattle.gcd_history.proofs.Runs.OpenNodes.{any_open, open_any, open_node, open_on_from, open_on_to}
use Rattle.gcd_tree.specs.TreeView.{target_at, request_at, is_moving_at, open_on_at, is_node_at, chain_at, walk_next, would_cycle_at, is_child_of, has_child_at, open_from, open_beneath_at}
use Rattle.gcd_tree.proofs.PlanTree.{is_node_at-tree_of}
use Rattle.gcd_tree.proofs.TreeChanges.{from-le-beneath}
use Rattle.gcd_drain.specs.DrainsView.{barriers_at, has_kind_at, is_exclusive_at}
use Rattle.gcd_drain.specs.Rule.{is_free_by, is_open_beneath_at, knowledge_of, is_fenced_at}
use Rattle.gcd_refinement.specs.MachineView.{MachineView}
use Rattle.gcd_refinement.specs.Shape.{PartsFit}
use Rattle.gcd_refinement.specs.Ties.{TreeIs, HoldsAre, DrainsAre}

-- ## Counts and tests

-- a count is above 0 where something passes
pub above_zero : {X : Type 0} (p : X → Bool) (xs : List X) → nat_lt 0 (count_by p xs) ≡ list_any p xs
above_zero p xs =
    ⊎_elim
    (λ (some : list_any p xs ≡ true). lt-ltb 0 (count_by p xs) (omega (arith, count_by_some p xs some)) ∙ sym some)
    (λ (none : list_any p xs ≡ false). ap (nat_lt 0) (count_by_none p xs none) ∙ sym none)
    (cases_Bool (list_any p xs))

-- a sum of nothing
no_terms : (f : ℕ → ℕ) (a n : ℕ) → ((k : ℕ) → f k ≡ 0) → sum_by f (range_with_len a n) ≡ 0
no_terms f a n none = ap (λ g. sum_by g (range_with_len a n)) (fun_ext none) ∙ all_zero (range_with_len a n)
  where
    all_zero : (xs : List ℕ) → sum_by (λ k. 0) xs ≡ 0
    all_zero [] = refl
    all_zero (x ∷ xs) = all_zero xs

-- ## Targets

targets_are : (plan : PlanView) (past : List Event) (v : MachineView) → TreeIs plan past v → target_at v.tree ≡ target plan past
targets_are plan past v tree = fun_ext (λ o. ap (λ a. a.target) (tree.aims o))

walks_are : (plan : PlanView) (past : List Event) (v : MachineView) → TreeIs plan past v → walk_next v.tree ≡ next_on_walk plan past
walks_are plan past v tree = fun_ext (λ o. ap (λ a. unwrap_or a.request a.target) (tree.aims o))

pub chain_is : (plan : PlanView) (past : List Event) (v : MachineView) (o : ℕ) → PartsFit plan v → TreeIs plan past v → chain_at v.tree o ≡ chain plan past o
chain_is plan past v o fit tree =
    ap (λ next. chain_by next (length v.tree.targets) o) (targets_are plan past v tree)
    ∙ ap (λ n. chain_by (target plan past) n o) fit.targets

pub cycle_is : (plan : PlanView) (past : List Event) (v : MachineView) (o t : ℕ) → PartsFit plan v → TreeIs plan past v → would_cycle_at v.tree o t ≡ would_cycle plan past o t
cycle_is plan past v o t fit tree =
    ap (λ next. is_in o (chain_by next (length v.tree.targets) t)) (walks_are plan past v tree)
    ∙ ap (λ n. is_in o (chain_by (next_on_walk plan past) n t)) fit.targets

pub node_at_is : (plan : PlanView) (v : MachineView) (o : ℕ) → PartsFit plan v → is_node_at v.tree o ≡ is_node plan o
node_at_is plan v o fit = ap (λ l. slice_index_or l o false) fit.nodes ∙ is_node_at-tree_of plan o

child_is : (plan : PlanView) (past : List Event) (v : MachineView) (o p : ℕ) → PartsFit plan v → TreeIs plan past v
    → is_child_of v.tree o p ≡ (not (p == 0) && (is_node plan p && (not (p == o) && aims_at plan past p o)))
child_is plan past v o p fit tree =
    ap (λ b. not (p == 0) && (b && (not (p == o) && (target_at v.tree p == o || option_map_or (λ t. t == o) (request_at v.tree p) false)))) (node_at_is plan v p fit)
    ∙ ap (λ a. not (p == 0) && (is_node plan p && (not (p == o) && (a.target == o || option_map_or (λ t. t == o) a.request false)))) (tree.aims p)

pub child_at_is : (plan : PlanView) (past : List Event) (v : MachineView) (o : ℕ) → PartsFit plan v → TreeIs plan past v → has_child_at v.tree o ≡ has_child plan past o
child_at_is plan past v o fit tree =
    ap (λ n. list_any (is_child_of v.tree o) (range_with_len 0 n)) fit.targets
    ∙ ap (λ p. list_any p (range_with_len 0 (length plan.objects))) (fun_ext (λ p. child_is plan past v o p fit tree))

-- ## Freedom

moving_is : (plan : PlanView) (past : List Event) (v : MachineView) (o : ℕ) → TreeIs plan past v → is_moving_at v.tree o ≡ is_moving plan past o
moving_is plan past v o tree = mapped (slice_index_or v.tree.requests o None) ∙ ap (λ a. is_some a.request) (tree.aims o)
  where
    mapped : (r : Option Obj) → is_some r ≡ is_some (option_map (λ t. t.0) r)
    mapped None = refl
    mapped (Some t) = refl

free_is : (plan : PlanView) (past : List Event) (v : MachineView) (o : ℕ) → TreeIs plan past v → HoldsAre plan past v → is_free_by v.tree v.holds o ≡ is_free plan past o
unfolding is_free
free_is plan past v o tree holds =
    let moves = moving_is plan past v o tree in
    let active = holds.active o in
    let hold = holds.holds o in
    rw (moves, active, hold) refl

-- ## Exclusion

kind_is : (test : Kind → Bool) (plan : PlanView) (v : MachineView) (o : ℕ) → PartsFit plan v → has_kind_at test v.drains o ≡ has_kind test plan o
kind_is test plan v o fit =
    ap (λ l. option_map_or test (slice_get l o) false) fit.drain_kinds
    ∙ ap (λ kind. option_map_or test kind false) (slice_get-map (λ obj. obj.kind) plan.objects o)

-- a run that is open beneath an object is counted there
counted_beneath : (plan : PlanView) (past : List Event) (v : MachineView) (o : ℕ) → IsPlan plan → IsLawful plan past → PartsFit plan v → TreeIs plan past v
    → is_open_beneath plan past o ≡ true → 0 < open_beneath_at v.tree o
counted_beneath plan past v o valid lawful fit tree beneath =
    let found = open_any past (λ run. is_in o (chain_of_run plan past run)) beneath in
    on_node found.0 found.1 (node_of_run plan past found.0) refl found.2
  where
    on_node : (q : Run) → is_open past q ≡ true → (node : Option ℕ) → node_of_run plan past q ≡ node → is_in o (option_map_or (chain plan past) node []) ≡ true
        → 0 < open_beneath_at v.tree o
    on_node q live None is inside = cc
    on_node q live (Some n) is inside =
        let long = fit.targets in
        let low : n < length plan.objects = has_object is_node_kind plan n (open_node plan past q n valid lawful live is) in
        let here : is_in o (chain_at v.tree n) ≡ true = ap (is_in o) (chain_is plan past v n fit tree) ∙ inside in
        let some = count_by_some (is_run_on plan past n) (open_runs past) (open_on_from plan past q n live is) in
        let runs : open_on_at v.tree n ≡ open_on plan past n = tree.runs n in
        let less = from-le-beneath v.tree o n (omega (arith, low, long)) here in
        omega (arith, less, some, runs)

-- and where none is open beneath it, nothing is counted
pub nothing_beneath : (plan : PlanView) (past : List Event) (v : MachineView) (o : ℕ) → PartsFit plan v → TreeIs plan past v
    → is_open_beneath plan past o ≡ false → open_beneath_at v.tree o ≡ 0
nothing_beneath plan past v o fit tree none = no_terms (open_from v.tree o) 0 (length v.tree.targets) no_term
  where
    no_term : (p : ℕ) → open_from v.tree o p ≡ 0
    no_term p =
        ⊎_elim
        (λ (inside : is_in o (chain_at v.tree p) ≡ true).
        ap (λ b. cond b (open_on_at v.tree p) 0) inside
        ∙ (tree.runs p
        ∙ count_by_none (is_run_on plan past p) (open_runs past)
        (false_from_ne_true (is_open_on plan past p) (λ some.
        let found = open_on_to plan past p some in
        let there : is_in o (chain plan past p) ≡ true = ap (is_in o) (sym (chain_is plan past v p fit tree)) ∙ inside in
        let beneath : is_open_beneath plan past o ≡ true =
        any_open past (λ run. is_in o (chain_of_run plan past run)) found.0 found.1 (ap (λ k. is_in o (option_map_or (chain plan past) k [])) found.2 ∙ there) in
        absurd (both_ways (is_open_beneath plan past o) none beneath)))))
        (λ (outside : is_in o (chain_at v.tree p) ≡ false). ap (λ b. cond b (open_on_at v.tree p) 0) outside)
        (cases_Bool (is_in o (chain_at v.tree p)))

pub beneath_is : (plan : PlanView) (past : List Event) (v : MachineView) (o : ℕ) → IsPlan plan → IsLawful plan past → PartsFit plan v → TreeIs plan past v
    → is_open_beneath_at v.tree o ≡ is_open_beneath plan past o
beneath_is plan past v o valid lawful fit tree =
    ⊎_elim
    (λ (some : is_open_beneath plan past o ≡ true). lt-ltb 0 (open_beneath_at v.tree o) (counted_beneath plan past v o valid lawful fit tree some) ∙ sym some)
    (λ (none : is_open_beneath plan past o ≡ false). ap (nat_lt 0) (nothing_beneath plan past v o fit tree none) ∙ sym none)
    (cases_Bool (is_open_beneath plan past o))

-- ## The whole

known_by : (ℕ → Bool) → (ℕ → Bool) → (ℕ → Bool) → Knowledge
known_by free exclusive beneath = record { is_free = free; is_exclusive = exclusive; is_open_beneath = beneath }

pub knowledge_is : (plan : PlanView) (past : List Event) (v : MachineView) → IsPlan plan → IsLawful plan past → PartsFit plan v → TreeIs plan past v → HoldsAre plan past v
    → knowledge_of v.drains v.tree v.holds ≡ knowledge plan past
unfolding knowledge known_by
knowledge_is plan past v valid lawful fit tree holds =
    ap (λ f. known_by f (is_exclusive_at v.drains) (is_open_beneath_at v.tree)) (fun_ext (λ o. free_is plan past v o tree holds))
    ∙ (ap (λ f. known_by (is_free plan past) f (is_open_beneath_at v.tree)) (fun_ext (λ o. kind_is is_exclusive_kind plan v o fit))
    ∙ ap (known_by (is_free plan past) (is_exclusive plan)) (fun_ext (λ o. beneath_is plan past v o valid lawful fit tree)))

-- ## The barrier rule

pub fenced_is : (plan : PlanView) (past : List Event) (v : MachineView) (barrier : Bool) (n : ℕ) → PartsFit plan v → TreeIs plan past v → DrainsAre plan past v
    → is_fenced_at v.drains v.tree barrier n ≡ is_fenced plan past barrier n
unfolding is_fenced is_barrier_open
fenced_is plan past v barrier n fit tree drains =
    let open_barriers : nat_lt 0 (barriers_at v.drains n) ≡ list_any (is_barrier_on plan past n) (open_runs past) =
    ap (nat_lt 0) (drains.barriers n) ∙ above_zero (is_barrier_on plan past n) (open_runs past) in
    let runs : nat_lt 0 (open_on_at v.tree n) ≡ is_open_on plan past n = ap (nat_lt 0) (tree.runs n) ∙ above_zero (is_run_on plan past n) (open_runs past) in
    ap (λ b. is_fenced_by (not (n == 0) && b) (nat_lt 0 (barriers_at v.drains n)) barrier (nat_lt 0 (open_on_at v.tree n))) (kind_is is_concurrent_kind plan v n fit)
    ∙ (ap (λ b. is_fenced_by (has_barriers plan n) b barrier (nat_lt 0 (open_on_at v.tree n))) open_barriers
    ∙ ap (λ b. is_fenced_by (has_barriers plan n) (list_any (is_barrier_on plan past n) (open_runs past)) barrier b) runs)
