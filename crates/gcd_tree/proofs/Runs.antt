-- That a tree stays one, and its counts those of what is open beneath, at each call.
use Rattle.std.proofs.Common.{◌≡◌, ◌≢◌, ℕ, ◌+◌, ◌-◌, ◌^◌, ◌<◌, ◌≤◌, ◌==◌, Bool, true, false, cond, inl, inr, List, [], ◌∷◌, length, get_or, set, Option, Some, None, is_some, option_map, unwrap_or, refl, ap, sym, ◌∙◌, subst, arith, length-set, get_or-set_other, get_or-set_same, slice_index, slice_index_or}
use Rattle.std.specs.List.{list_any, sum, count_by}
use Rattle.std.proofs.lemmas.Bool.{false≢true, true≢false, both_ways, eqb-true, cases_eq, cases_Bool, or_left, or_right, or_cases, true_from_ne_false, false_from_ne_true}
use Rattle.std.proofs.lemmas.List.{get_or_read}
use Rattle.gcd_plan.specs.declared.numbers.Obj.{Obj}
use Rattle.gcd_plan.specs.Chains.{chain_by, is_in}
use Rattle.gcd_tree.specs.TreeView.{TreeView, target_at, is_moving_at, open_on_at, is_node_at, chain_at, has_mover_at, walk_next, would_cycle_at, has_child_at, open_beneath_at, with_target, with_request, with_open}
use Rattle.gcd_tree.specs.IsTree.{IsTree, CountBeneath}
use Rattle.gcd_plan.proofs.Sums.{cond-le-one}
use Rattle.gcd_tree.proofs.Walks.{count_by-chain_by, not_again}
use Rattle.gcd_tree.proofs.TreeChanges.{from-le-beneath, beneath-le-all, beneath-with_open, quiet_below, not_root, IsTree-with_open, IsTree-with_request, cond_zero, IsTree-retargeted, beneath-retargeted, Retargets}

-- a tree, and counts that say how many runs are open beneath each object
abbrev pub IsCountedTree : TreeView → List ℕ → Type 0
IsCountedTree view counts = IsTree view × CountBeneath view counts

-- how often x stands on the chain of the node
abbrev pub passes : TreeView → ℕ → ℕ → ℕ
passes view node x = count_by (λ y. y == x) (chain_at view node)

cond_sum : (b : Bool) (k n : ℕ) → n ≡ k + 1 → cond b n 0 ≡ cond b k 0 + cond b 1 0
cond_sum true k n e = e
cond_sum false k n e = refl

any_of : (p : ℕ → Bool) (q : ℕ) (xs : List ℕ) → is_in q xs ≡ true → p q ≡ true → list_any p xs ≡ true
any_of p q [] on h = absurd (false≢true on)
any_of p q (x ∷ xs) on h = elim (or_cases (x == q) (is_in q xs) on) [
  | inl here ↦ or_left (p x) (list_any p xs) (ap p (eqb-true x q here) ∙ h)
  | inr later ↦ or_right (p x) (list_any p xs) (any_of p q xs later h)
]

-- what is read where it was written
pub read_back : (xs : List ℕ) (i v r : ℕ) → i < length xs → r ≡ get_or (set xs i v) i r → r ≡ v
read_back xs i v r lt e = e ∙ get_or-set_same xs i v r lt

-- one less than what is read, where that is not 0
pub one_less : (xs : List ℕ) (i v : ℕ) → i < length xs → v ≡ get_or xs i v → 0 < get_or xs i 0 → get_or xs i 0 ≡ v - 1 + 1
one_less xs i v lt e some = let read = get_or_read xs i v lt e 0 in omega (arith, read, some)

-- ---- a run more

pub opened_room : (view : TreeView) (counts : List ℕ) → IsCountedTree view counts → (node : ℕ) → node < length view.targets
    → sum view.open_on + 1 < 2 ^ 32 → (x : ℕ) → x < length view.targets → slice_index counts x + passes view node x < 2 ^ 32
opened_room view counts counted node lt room x within =
    let once = count_by-chain_by (target_at view) (length view.targets) node x (counted.0.chains_end node lt) in
    omega (
      arith,
      once,
      cond-le-one (is_in x (chain_at view node)),
      counted.1.exact x within,
      beneath-le-all view x counted.0.as_many_open_on,
      room,
    )

pub counted_opened : (view : TreeView) (counts next : List ℕ) → IsCountedTree view counts → (node n : ℕ) → node < length view.targets
    → has_mover_at view node ≡ false → n ≡ open_on_at view node + 1 → length next ≡ length counts
    → ((x : ℕ) → x < length view.targets → slice_index next x ≡ slice_index counts x + passes view node x)
    → IsCountedTree (with_open view node n) next
counted_opened view counts next counted node n lt none more same raised =
    let tree = counted.0 in (
      IsTree-with_open view tree node n lt (λ moving. omega (arith, more))
          (λ _ q on moving. absurd (both_ways _ none (any_of (is_moving_at view) q (chain_at view node) on moving))),
      record {
        as_many = same ∙ counted.1.as_many;
        exact = λ x within.
            let once = count_by-chain_by (target_at view) (length view.targets) node x (tree.chains_end node lt) in
            let changed = beneath-with_open view node n x lt (omega (arith, lt, tree.as_many_open_on)) in
            omega (
              arith,
              once,
              changed,
              cond_sum (is_in x (chain_at view node)) (open_on_at view node) n more,
              raised x within,
              counted.1.exact x within,
            );
      },
    )

-- ---- a run less

pub closed_enough : (view : TreeView) (counts : List ℕ) → IsCountedTree view counts → (node : ℕ) → node < length view.targets
    → 0 < open_on_at view node → (x : ℕ) → x < length view.targets → passes view node x ≤ slice_index counts x
closed_enough view counts counted node lt some x within =
    let once = count_by-chain_by (target_at view) (length view.targets) node x (counted.0.chains_end node lt) in
    elim (cases_Bool (is_in x (chain_at view node))) [
      | inl on ↦
          let own = from-le-beneath view x node lt on in
          let one : ◌≡◌ {A = ℕ} (cond (is_in x (chain_at view node)) 1 0) 1 = ap (λ b. cond b 1 0) on in
          omega (arith, own, one, once, counted.1.exact x within, some)
      | inr off ↦
          let zero_times : ◌≡◌ {A = ℕ} (cond (is_in x (chain_at view node)) 1 0) 0 = ap (λ b. cond b 1 0) off in
          omega (arith, zero_times, once)
    ]

pub counted_closed : (view : TreeView) (counts next : List ℕ) → IsCountedTree view counts → (node n : ℕ) → node < length view.targets
    → open_on_at view node ≡ n + 1 → (is_moving_at view node ≡ true → 0 < n) → length next ≡ length counts
    → ((x : ℕ) → x < length view.targets → slice_index next x + passes view node x ≡ slice_index counts x)
    → IsCountedTree (with_open view node n) next
counted_closed view counts next counted node n lt less moves same lowered =
    let tree = counted.0 in (
      IsTree-with_open view tree node n lt moves (λ _ q on moving. tree.open_chains_stay q node lt (omega (arith, less)) on moving),
      record {
        as_many = same ∙ counted.1.as_many;
        exact = λ x within.
            let once = count_by-chain_by (target_at view) (length view.targets) node x (tree.chains_end node lt) in
            let changed = beneath-with_open view node n x lt (omega (arith, lt, tree.as_many_open_on)) in
            omega (
              arith,
              once,
              changed,
              cond_sum (is_in x (chain_at view node)) n (open_on_at view node) less,
              lowered x within,
              counted.1.exact x within,
            );
      },
    )

still_root : {t : ℕ} → Some t ≡ None → ⊥
still_root e = cc

moving_to : (view : TreeView) (o : ℕ) (t : Obj) → slice_index_or view.requests o None ≡ Some t → walk_next view o ≡ t.0
moving_to view o t e = ap (λ r. unwrap_or (option_map (λ y. y.0) r) (target_at view o)) e

-- a request is an object
pub request_fits : (view : TreeView) → IsTree view → (o : ℕ) (t : Obj) → o < length view.targets → slice_index_or view.requests o None ≡ Some t
    → t.0 < length view.targets
request_fits view tree o t lt asked =
    let goes = moving_to view o t asked in let fits = tree.walks_fit o lt in omega (arith, goes, fits)

pub counted_settled : (view : TreeView) (counts next : List ℕ) → IsCountedTree view counts → (node : ℕ) (t : Obj) → node < length view.targets
    → open_on_at view node ≡ 1 → slice_index_or view.requests node None ≡ Some t → length next ≡ length counts
    → ((x : ℕ) → x < length view.targets → slice_index next x + passes view node x ≡ slice_index counts x)
    → IsCountedTree (with_request (with_target (with_open view node 0) node t) node None) next
counted_settled view counts next counted node t lt one asked same lowered =
    let tree = counted.0 in
    let n = length view.targets in
    let after = with_request (with_target (with_open view node 0) node t) node None in
    let moves : is_moving_at view node ≡ true = ap is_some asked in
    let goes : walk_next view node ≡ t.0 = moving_to view node t asked in
    let fits : t.0 < n = omega (arith, goes, tree.walks_fit node lt) in
    let away : node ≢ 0 = λ at. still_root (sym (ap (option_map (λ y. y.0)) (ap (λ o. slice_index_or view.requests o None) (sym at) ∙ asked)) ∙ tree.root_stays) in
    let is_node : is_node_at view node ≡ true = true_from_ne_false _ (λ none.
    still_root (sym (ap (option_map (λ y. y.0)) asked) ∙ (tree.others_rest node lt none).1)) in
    let apart : is_in node (chain_by (walk_next view) n t.0) ≡ false =
    subst (λ y. is_in node (chain_by (walk_next view) n y) ≡ false) goes
    (not_again (walk_next view) n node away (tree.walks_end (walk_next view node) (tree.walks_fit node lt))) in
    let quiet : (m : ℕ) → m < n → m ≢ node → is_in node (chain_at view m) ≡ true → open_on_at view m ≡ 0 =
    λ m within other on. elim (cases_eq (open_on_at view m) 0) [
      | inl none ↦ none
      | inr some ↦ absurd (other (sym (tree.open_chains_stay node m within (omega (arith, some)) on moves)))
    ] in
    let change : Retargets view after node t.0 = record {
      as_many = length-set view.targets node t;
      as_many_requests = length-set view.requests node None;
      as_many_open_on = length-set view.open_on node 0;
      nodes = refl;
      target = ap (λ y. y.0) (get_or-set_same view.targets node t (record { 0 = 0 }) lt);
      targets = λ x other. ap (λ y. y.0) (get_or-set_other view.targets node x t (record { 0 = 0 }) other);
      request = get_or-set_same view.requests node None None (omega (arith, lt, tree.as_many_requests));
      requests = λ x other. get_or-set_other view.requests node x None None other;
      closed = get_or-set_same view.open_on node 0 0 (omega (arith, lt, tree.as_many_open_on));
      open_on = λ x other. get_or-set_other view.open_on node x 0 0 other;
    } in (
      IsTree-retargeted view after node t.0 tree change lt fits away is_node apart quiet,
      record {
        as_many = same ∙ counted.1.as_many ∙ sym change.as_many;
        exact = λ x within'.
            let within : x < n = omega (arith, within', change.as_many) in
            let once = count_by-chain_by (target_at view) n node x (tree.chains_end node lt) in
            let beneath = beneath-retargeted view after node t.0 tree change lt fits away is_node apart quiet x in
            let single = ap (λ k. cond (is_in x (chain_at view node)) k 0) one in
            omega (arith, once, beneath, single, lowered x within, counted.1.exact x within);
      },
    )

-- ---- another target

not_some : (r : Option Obj) → is_some r ≡ false → r ≡ None
not_some None e = refl
not_some (Some t) e = absurd (true≢false e)

pub counted_retargeted : (view : TreeView) (counts : List ℕ) → IsCountedTree view counts → (o : ℕ) (t : Obj)
    → o < length view.targets → t.0 < length view.targets → is_node_at view o ≡ true → would_cycle_at view o t.0 ≡ false
    → (has_child_at view o ≡ true → open_beneath_at view o ≡ 0) → open_on_at view o ≡ 0 → IsCountedTree (with_target view o t) counts
counted_retargeted view counts counted o t object fits node apart quiet none =
    let tree = counted.0 in
    let n = length view.targets in
    let after = with_target view o t in
    let away = not_root view tree o t.0 fits apart in
    let rests : slice_index_or view.requests o None ≡ None =
    not_some (slice_index_or view.requests o None) (false_from_ne_true _ (λ moves. let some = tree.movers_are_open o object moves in omega (arith, some, none))) in
    let change : Retargets view after o t.0 = record {
      as_many = length-set view.targets o t;
      as_many_requests = refl;
      as_many_open_on = refl;
      nodes = refl;
      target = ap (λ y. y.0) (get_or-set_same view.targets o t (record { 0 = 0 }) object);
      targets = λ x other. ap (λ y. y.0) (get_or-set_other view.targets o x t (record { 0 = 0 }) other);
      request = rests;
      requests = λ x other. refl;
      closed = none;
      open_on = λ x other. refl;
    } in
    let below = quiet_below view tree o away quiet in (
      IsTree-retargeted view after o t.0 tree change object fits away node apart below,
      record {
        as_many = counted.1.as_many ∙ sym change.as_many;
        exact = λ x within'.
            let within : x < n = omega (arith, within', change.as_many) in
            let beneath = beneath-retargeted view after o t.0 tree change object fits away node apart below x in
            let zero_runs = ap (λ k. cond (is_in x (chain_at view o)) k 0) none ∙ cond_zero (is_in x (chain_at view o)) in
            omega (arith, beneath, zero_runs, counted.1.exact x within);
      },
    )

pub counted_asked : (view : TreeView) (counts : List ℕ) → IsCountedTree view counts → (o : ℕ) (t : Obj)
    → o < length view.targets → t.0 < length view.targets → is_node_at view o ≡ true → would_cycle_at view o t.0 ≡ false
    → (has_child_at view o ≡ true → open_beneath_at view o ≡ 0) → 0 < open_on_at view o → IsCountedTree (with_request view o (Some t)) counts
counted_asked view counts counted o t object fits node apart quiet some =
    let tree = counted.0 in
    let away = not_root view tree o t.0 fits apart in (
      IsTree-with_request view tree o t object fits node apart (quiet_below view tree o away quiet) some,
      record { as_many = counted.1.as_many; exact = counted.1.exact },
    )
