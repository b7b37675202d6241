-- What a plan's tree has before the first event.
use Rattle.std.proofs.Common.{◌≡◌, ℕ, zero, suc, ◌+◌, ◌*◌, ◌<◌, Bool, true, false, List, [], ◌∷◌, ◌++◌, length, map, replicate, get_or, None, is_some, option_map, unwrap_or, refl, ap, sym, ◌∙◌, subst, arith, slice_get}
use Rattle.std.specs.Option.{option_map_or}
use Rattle.std.specs.List.{sum, range_with_len}
use Rattle.std.proofs.lemmas.Bool.{true≢false, both_ways, eqb-true, and_parts}
use Rattle.std.proofs.lemmas.List.{length-map, length-replicate}
use Rattle.std.proofs.lemmas.List.Folds.{sum_by-replicate}
use Rattle.std.proofs.lemmas.List.FromFn.{fill_by_all, map-range_with_len_more}
use Rattle.std.proofs.lemmas.List.Sums.{AllPass-from_list_all}
use Rattle.std.proofs.lemmas.Option.{slice_get-get_or, slice_get_within}
use Rattle.gcd_plan.specs.declared.numbers.Obj.{Obj}
use Rattle.gcd_plan.specs.declared.kind.Kind.{Kind}
use Rattle.gcd_plan.specs.declared.kind.Kind.TheVariants.{Serial, Concurrent, Group, Semaphore, Add, Or, Replace, Timer, Read}
use Rattle.gcd_plan.specs.PlanView.{PlanView, ObjView, first_target}
use Rattle.gcd_plan.specs.Kinds.{is_node_kind, is_node}
use Rattle.gcd_plan.specs.Validity.{IsPlan, is_object, has_fields, root_view}
use Rattle.gcd_plan.specs.Chains.{chain_by, is_in}
use Rattle.gcd_plan.proofs.Within.{target_within}
use Rattle.gcd_tree.specs.TreeView.{TreeView, tree_of, target_at, request_at, is_moving_at, open_on_at, is_node_at, walk_next}
use Rattle.gcd_tree.specs.IsTree.{IsTree}
use Rattle.gcd_plan.proofs.Places.{get_or-replicate_same}
use Rattle.gcd_plan.proofs.Walks.{chain_agree}
use Rattle.gcd_tree.proofs.TreeChanges.{beneath-le-all}
use Rattle.gcd_tree.proofs.Runs.{IsCountedTree}

-- ---- the lists by object

target_read : (objects : List ObjView) (o : ℕ)
    → (get_or (map (λ x. x.target) objects) o (record { 0 = 0 })).0 ≡ option_map_or (λ x. x.target.0) (slice_get objects o) 0
target_read [] o = refl
target_read (x ∷ xs) zero = refl
target_read (x ∷ xs) (suc o) = target_read xs o

node_read : (objects : List ObjView) (o : ℕ)
    → get_or (map (λ x. is_node_kind x.kind) objects) o false ≡ option_map_or is_node_kind (option_map (λ x. x.kind) (slice_get objects o)) false
node_read [] o = refl
node_read (x ∷ xs) zero = refl
node_read (x ∷ xs) (suc o) = node_read xs o

-- the target of an object in a plan's tree is its first target
pub target_at-tree_of : (plan : PlanView) (o : ℕ) → target_at (tree_of plan) o ≡ first_target plan o
target_at-tree_of plan o = target_read plan.objects o

-- none has a request
pub request_at-tree_of : (plan : PlanView) (o : ℕ) → request_at (tree_of plan) o ≡ None
request_at-tree_of plan o = ap (option_map (λ t. t.0)) (get_or-replicate_same (length plan.objects) o None)

-- nothing is open
pub open_on_at-tree_of : (plan : PlanView) (o : ℕ) → open_on_at (tree_of plan) o ≡ 0
open_on_at-tree_of plan o = get_or-replicate_same (length plan.objects) o 0

-- its nodes are the plan's queues and sources
pub is_node_at-tree_of : (plan : PlanView) (o : ℕ) → is_node_at (tree_of plan) o ≡ is_node plan o
is_node_at-tree_of plan o = node_read plan.objects o

-- the first target of object o
abbrev pub first_obj : PlanView → ℕ → Obj
first_obj plan o = record { 0 = first_target plan o }

-- a list that is filled by number, one more and in whole
pub filled_more : {A : Type 0} (f : ℕ → A) (o : ℕ) (items next : List A) (x : A) → items ≡ map f (range_with_len 0 o) → x ≡ f o
    → next ≡ items ++ x ∷ [] → next ≡ map f (range_with_len 0 (o + 1))
filled_more f o items next x so_far here e =
    e ∙ ap (λ xs. xs ++ x ∷ []) so_far ∙ ap (λ y. map f (range_with_len 0 o) ++ y ∷ []) here
    ∙ sym (map-range_with_len_more f 0 o o (omega arith))

pub filled_targets : (plan : PlanView) (o : ℕ) (items : List Obj) → items ≡ map (first_obj plan) (range_with_len 0 o)
    → o ≡ length plan.objects → items ≡ (tree_of plan).targets
filled_targets plan o items so_far whole =
    so_far ∙ ap (λ n. map (first_obj plan) (range_with_len 0 n)) whole
    ∙ sym (fill_by_all (first_obj plan) (tree_of plan).targets (length plan.objects) (record { 0 = 0 })
    (length-map plan.objects (λ x. x.target))
    (λ k _. ap (λ n. record { 0 = n }) (target_read plan.objects k)))

pub filled_nodes : (plan : PlanView) (o : ℕ) (items : List Bool) → items ≡ map (is_node plan) (range_with_len 0 o)
    → o ≡ length plan.objects → items ≡ (tree_of plan).nodes
filled_nodes plan o items so_far whole =
    so_far ∙ ap (λ n. map (is_node plan) (range_with_len 0 n)) whole
    ∙ sym (fill_by_all (is_node plan) (tree_of plan).nodes (length plan.objects) false
    (length-map plan.objects (λ x. is_node_kind x.kind))
    (λ k _. node_read plan.objects k))

-- ---- what is valid

plain_at_root : (plan : PlanView) (kind : Kind) (o : ObjView) → has_fields plan kind o ≡ true → is_node_kind kind ≡ false → o.target.0 ≡ 0
plain_at_root plan Serial o h none = absurd (true≢false none)
plain_at_root plan Concurrent o h none = absurd (true≢false none)
plain_at_root plan Group o h none = eqb-true _ _ (and_parts _ _ h).0
plain_at_root plan (Semaphore n) o h none = eqb-true _ _ (and_parts _ _ h).0
plain_at_root plan Add o h none = absurd (true≢false none)
plain_at_root plan Or o h none = absurd (true≢false none)
plain_at_root plan Replace o h none = absurd (true≢false none)
plain_at_root plan (Timer start every) o h none = absurd (true≢false none)
plain_at_root plan Read o h none = absurd (true≢false none)

fields_at : (plan : PlanView) → IsPlan plan → (o : ℕ) → o < length plan.objects
    → has_fields plan (get_or plan.objects o root_view).kind (get_or plan.objects o root_view) ≡ true
fields_at plan valid o lt =
    let whole = AllPass-from_list_all (is_object plan) plan.objects valid.objects o root_view lt in
    (and_parts _ _ (and_parts _ _ whole).1).1

first_target_at : (plan : PlanView) (o : ℕ) → o < length plan.objects → first_target plan o ≡ (get_or plan.objects o root_view).target.0
first_target_at plan o lt = ap (λ r. option_map_or (λ x. x.target.0) r 0) (slice_get-get_or plan.objects o root_view lt)

first_target_plain : (plan : PlanView) → IsPlan plan → (o : ℕ) → o < length plan.objects → is_node plan o ≡ false → first_target plan o ≡ 0
first_target_plain plan valid o lt none =
    let kind : is_node plan o ≡ is_node_kind (get_or plan.objects o root_view).kind =
    ap (λ r. option_map_or is_node_kind (option_map (λ x. x.kind) r) false) (slice_get-get_or plan.objects o root_view lt) in
    first_target_at plan o lt ∙ plain_at_root plan _ (get_or plan.objects o root_view) (fields_at plan valid o lt) (sym kind ∙ none)

rests_all : (plan : PlanView) (o : ℕ) → is_moving_at (tree_of plan) o ≡ false
rests_all plan o = ap is_some (get_or-replicate_same (length plan.objects) o None)

walks_all : (plan : PlanView) (o : ℕ) → walk_next (tree_of plan) o ≡ first_target plan o
walks_all plan o = ap (λ r. unwrap_or (option_map (λ t. t.0) r) (target_at (tree_of plan) o)) (get_or-replicate_same (length plan.objects) o None) ∙ target_at-tree_of plan o

chains_as : (plan : PlanView) → IsPlan plan → (f : ℕ → ℕ) (n o : ℕ) → ((x : ℕ) → f x ≡ first_target plan x) → n ≡ length plan.objects
    → o < n → is_in 0 (chain_by f n o) ≡ true
chains_as plan valid f n o same e lt =
    ap (λ k. is_in 0 (chain_by f k o)) e
    ∙ ap (is_in 0) (chain_agree (first_target plan) f (length plan.objects) o (λ x _. same x))
    ∙ valid.targets o (omega (arith, e, lt))

pub IsTree-tree_of : (plan : PlanView) → IsPlan plan → IsTree (tree_of plan)
IsTree-tree_of plan valid =
    let many : length (tree_of plan).targets ≡ length plan.objects = length-map plan.objects (λ x. x.target) in
    record {
      root = omega (arith, many, slice_get_within plan.objects 0 root_view valid.root);
      few = omega (arith, many, valid.few_objects);
      as_many_requests = length-replicate (length plan.objects) None ∙ sym many;
      as_many_open_on = length-replicate (length plan.objects) 0 ∙ sym many;
      as_many_nodes = length-map plan.objects (λ x. is_node_kind x.kind) ∙ sym many;
      targets_fit = λ o lt. omega (arith, many, target_at-tree_of plan o, target_within plan valid o (omega (arith, lt, many)));
      walks_fit = λ o lt. omega (arith, many, walks_all plan o, target_within plan valid o (omega (arith, lt, many)));
      chains_end = λ o lt. chains_as plan valid (target_at (tree_of plan)) _ o (target_at-tree_of plan) many lt;
      walks_end = λ o lt. chains_as plan valid (walk_next (tree_of plan)) _ o (walks_all plan) many lt;
      root_stays = request_at-tree_of plan 0;
      others_rest = λ o lt none.
          (target_at-tree_of plan o ∙ first_target_plain plan valid o (omega (arith, lt, many)) (sym (is_node_at-tree_of plan o) ∙ none), request_at-tree_of plan o);
      movers_are_open = λ o _ moving. absurd (both_ways _ (rests_all plan o) moving);
      open_chains_stay = λ o p _ busy. absurd (omega (arith, busy, open_on_at-tree_of plan p));
    }

-- the counts before the first event are 0
counted_first : (plan : PlanView) → IsPlan plan → IsCountedTree (tree_of plan) (replicate (length plan.objects) 0)
counted_first plan valid =
    let tree = IsTree-tree_of plan valid in (
      tree,
      record {
        as_many = tree.as_many_open_on;
        exact = λ o _.
            let none : sum (tree_of plan).open_on ≡ length plan.objects * 0 = sum_by-replicate (λ x. x) (length plan.objects) 0 in
            omega (arith, get_or-replicate_same {A = ℕ} (length plan.objects) o 0, beneath-le-all (tree_of plan) o tree.as_many_open_on, none);
      },
    )

pub counted_as : (plan : PlanView) → IsPlan plan → (view : TreeView) (counts : List ℕ)
    → view.targets ≡ (tree_of plan).targets → view.requests ≡ (tree_of plan).requests → view.open_on ≡ (tree_of plan).open_on
    → view.nodes ≡ (tree_of plan).nodes → counts ≡ replicate (length plan.objects) 0 → IsCountedTree view counts
counted_as plan valid view counts targets requests open_on nodes zero_counts =
    let same : view ≡ tree_of plan = λ i. record { targets = targets i; requests = requests i; open_on = open_on i; nodes = nodes i } in
    subst (λ v. IsCountedTree v counts) (sym same) (subst (IsCountedTree (tree_of plan)) (sym zero_counts) (counted_first plan valid))
