-- That a tree stays one when a target, a request or a number of open runs changes, and how what is open beneath changes.
use Rattle.std.proofs.Common.{◌≡◌, ◌≢◌, ℕ, suc, ◌+◌, ◌<◌, ◌≤◌, ◌==◌, Bool, true, false, cond, inl, inr, length, Option, Some, None, is_some, unwrap_or, option_map, refl, ap, sym, ◌∙◌, subst, arith, length-set, get_or-set_other, get_or-set_same, slice_index_or}
use Rattle.std.specs.List.{sum_by, sum, range_with_len}
use Rattle.std.proofs.lemmas.Bool.{true≢false, both_ways, ne_eqb, eq-eqb, cases_eq, false_from_ne_true, true_from_ne_false, or_left, not_from_false, and_from}
use Rattle.std.proofs.lemmas.List.Sums.{sum_by-le-sum_by}
use Rattle.gcd_plan.specs.declared.numbers.Obj.{Obj}
use Rattle.gcd_plan.specs.Chains.{chain_by, is_in}
use Rattle.gcd_tree.specs.TreeView.{TreeView, target_at, request_at, is_moving_at, open_on_at, is_node_at, chain_at, walk_next, would_cycle_at, is_child_of, has_child_at, open_from, open_beneath_at, with_request, with_open}
use Rattle.gcd_tree.specs.IsTree.{IsTree}
use Rattle.gcd_plan.proofs.Quantifiers.{list_any_in_range}
use Rattle.gcd_plan.proofs.Walks.{chain_agree}
use Rattle.gcd_tree.proofs.Walks.{ends_within, ends_redirected, parting, step_to, in_range}
use Rattle.gcd_tree.proofs.Ranges.{sum_by-same, sum_by-changed, term-le-sum_by, sum-by_place}

-- ---- requests

next_of : (r : Option Obj) (d : ℕ) → is_some r ≡ false → unwrap_or (option_map (λ t. t.0) r) d ≡ d
next_of None d h = refl
next_of (Some t) d h = absurd (true≢false h)

-- an object that is not moving goes to its target
resting : (view : TreeView) (x : ℕ) → is_moving_at view x ≡ false → walk_next view x ≡ target_at view x
resting view x h = next_of (slice_index_or view.requests x None) (target_at view x) h

still : (view : TreeView) (x : ℕ) → request_at view x ≡ None → is_moving_at view x ≡ false
still view x h = none_some (slice_index_or view.requests x None) h
  where
    none_some : (r : Option Obj) → option_map (λ t. t.0) r ≡ None → is_some r ≡ false
    none_some None e = refl
    none_some (Some t) e = cc

-- where the walks part, the object is moving
parts_moving : (view : TreeView) (x : ℕ) → target_at view x ≢ walk_next view x → is_moving_at view x ≡ true
parts_moving view x apart = true_from_ne_false _ (λ rests. apart (sym (resting view x rests)))

-- ---- what is open beneath an object

pub cond_zero : (b : Bool) → ◌≡◌ {A = ℕ} (cond b 0 0) 0
cond_zero true = refl
cond_zero false = refl

cond_le : (b : Bool) (n : ℕ) → cond b n 0 ≤ n
cond_le true n = omega arith
cond_le false n = omega arith

-- the runs on an object whose chain has o are among those beneath o
pub from-le-beneath : (view : TreeView) (o p : ℕ) → p < length view.targets → is_in o (chain_at view p) ≡ true
    → open_on_at view p ≤ open_beneath_at view o
from-le-beneath view o p lt on =
    let term = term-le-sum_by (open_from view o) 0 (length view.targets) p (omega arith) (omega arith) in
    let own : ◌≡◌ {A = ℕ} (open_from view o p) (open_on_at view p) = ap (λ b. cond b (open_on_at view p) 0) on in
    omega (arith, term, own)

-- beneath an object are at most all open runs
pub beneath-le-all : (view : TreeView) (o : ℕ) → length view.open_on ≡ length view.targets → open_beneath_at view o ≤ sum view.open_on
beneath-le-all view o e =
    let less = sum_by-le-sum_by (open_from view o) (open_on_at view) (range_with_len 0 (length view.targets))
    (λ p. cond_le (is_in o (chain_at view p)) (open_on_at view p)) in
    let all : sum_by (open_on_at view) (range_with_len 0 (length view.targets)) ≡ sum view.open_on =
    ap (λ n. sum_by (open_on_at view) (range_with_len 0 n)) (sym e) ∙ sum-by_place view.open_on in
    omega (arith, less, all)

-- beneath root all open runs are
pub beneath_root : (view : TreeView) → IsTree view → open_beneath_at view 0 ≡ sum view.open_on
beneath_root view tree =
    sum_by-same (open_on_at view) (open_from view 0) 0 (length view.targets)
    (λ k _ lt. ap (λ b. cond b (open_on_at view k) 0) (tree.chains_end k (omega arith)))
    ∙ ap (λ n. sum_by (open_on_at view) (range_with_len 0 n)) (sym tree.as_many_open_on)
    ∙ sum-by_place view.open_on

-- with another number of runs open on o, what is open beneath x changes by the difference where o's chain has x
pub beneath-with_open : (view : TreeView) (o n x : ℕ) → o < length view.targets → o < length view.open_on
    → open_beneath_at (with_open view o n) x + cond (is_in x (chain_at view o)) (open_on_at view o) 0
    ≡ open_beneath_at view x + cond (is_in x (chain_at view o)) n 0
beneath-with_open view o n x lt lt' =
    let own : ◌≡◌ {A = ℕ} (open_on_at (with_open view o n) o) n = get_or-set_same view.open_on o n 0 lt' in
    let mine = cond (is_in x (chain_at view o)) (open_on_at view o) 0 in
    let theirs = cond (is_in x (chain_at view o)) n 0 in
    sum_by-changed (open_from view x) (open_from (with_open view o n) x) 0 (length view.targets) o mine theirs (omega arith) (omega arith)
    (let there : ◌≡◌ {A = ℕ} (open_from (with_open view o n) x o) theirs = ap (λ k. cond (is_in x (chain_at view o)) k 0) own in omega (arith, there))
    (λ k _ ne. ap (λ v. cond (is_in x (chain_at view k)) v 0) (get_or-set_other view.open_on o k n 0 ne))

-- ---- children

child_at : (view : TreeView) (o p : ℕ) → p ≢ 0 → p ≢ o → is_node_at view p ≡ true → target_at view p ≡ o → is_child_of view o p ≡ true
child_at view o p away other node there =
    and_from _ _ (not_from_false _ (ne_eqb p 0 away))
    (and_from _ _ node
    (and_from _ _ (not_from_false _ (ne_eqb p o other)) (or_left (target_at view p == o) _ (eq-eqb _ _ there))))

-- an object that another one's chain has is some object's target
has_child_below : (view : TreeView) → IsTree view → (o m : ℕ) → o ≢ 0 → m < length view.targets → m ≢ o
    → is_in o (chain_at view m) ≡ true → has_child_at view o ≡ true
has_child_below view tree o m away lt other on =
    let n = length view.targets in
    let s = step_to (target_at view) n m o other on in
    let below = in_range (target_at view) n n m s.from tree.targets_fit lt s.on_it in
    let node : is_node_at view s.from ≡ true = true_from_ne_false _ (λ none.
    away (sym s.steps ∙ (tree.others_rest s.from below none).0)) in
    list_any_in_range (is_child_of view o) n s.from below (child_at view o s.from s.away s.elsewhere node s.steps)

-- where o has no child, or nothing is open beneath it, no other object whose chain has it is open
pub quiet_below : (view : TreeView) → IsTree view → (o : ℕ) → o ≢ 0 → (has_child_at view o ≡ true → open_beneath_at view o ≡ 0)
    → (m : ℕ) → m < length view.targets → m ≢ o → is_in o (chain_at view m) ≡ true → open_on_at view m ≡ 0
quiet_below view tree o away quiet m lt other on =
    let none = quiet (has_child_below view tree o m away lt other on) in
    omega (arith, none, from-le-beneath view o m lt on)

-- a target that makes no cycle is not asked for root
pub not_root : (view : TreeView) → IsTree view → (o t : ℕ) → t < length view.targets → would_cycle_at view o t ≡ false → o ≢ 0
not_root view tree o t lt none at =
    both_ways _ none (subst (λ y. is_in y (chain_by (walk_next view) (length view.targets) t) ≡ true) (sym at) (tree.walks_end t lt))

-- ---- another number of open runs

pub IsTree-with_open : (view : TreeView) → IsTree view → (o n : ℕ) → o < length view.targets
    → (is_moving_at view o ≡ true → 0 < n)
    → (0 < n → (q : ℕ) → is_in q (chain_at view o) ≡ true → is_moving_at view q ≡ true → q ≡ o)
    → IsTree (with_open view o n)
IsTree-with_open view tree o n lt moves stays = record {
  root = tree.root;
  few = tree.few;
  as_many_requests = tree.as_many_requests;
  as_many_open_on = length-set view.open_on o n ∙ tree.as_many_open_on;
  as_many_nodes = tree.as_many_nodes;
  targets_fit = tree.targets_fit;
  walks_fit = tree.walks_fit;
  chains_end = tree.chains_end;
  walks_end = tree.walks_end;
  root_stays = tree.root_stays;
  others_rest = tree.others_rest;
  movers_are_open = λ x within moving. elim (cases_eq x o) [
    | inl here ↦
        let own = get_or-set_same view.open_on o n 0 (omega (arith, lt, tree.as_many_open_on)) in
        let some = moves (subst (λ y. is_moving_at view y ≡ true) here moving) in
        subst (λ y. 0 < open_on_at (with_open view o n) y) (sym here) (omega (arith, own, some))
    | inr elsewhere ↦
        let same = get_or-set_other view.open_on o x n 0 elsewhere in omega (arith, same, tree.movers_are_open x within moving)
  ];
  open_chains_stay = λ q p within open' on moving. elim (cases_eq p o) [
    | inl here ↦
        let own = get_or-set_same view.open_on o n 0 (omega (arith, lt, tree.as_many_open_on)) in
        let now = subst (λ y. 0 < open_on_at (with_open view o n) y) here open' in
        stays (omega (arith, own, now)) q (subst (λ y. is_in q (chain_at view y) ≡ true) here on) moving ∙ sym here
    | inr elsewhere ↦
        let same = get_or-set_other view.open_on o p n 0 elsewhere in
        tree.open_chains_stay q p within (omega (arith, same, open')) on moving
  ];
}

-- ---- a request

module _ (view : TreeView) (tree : IsTree view) (o : ℕ) (t : Obj) (object : o < length view.targets) (fits : t.0 < length view.targets)
    (node : is_node_at view o ≡ true) (apart : would_cycle_at view o t.0 ≡ false)
    (quiet : (m : ℕ) → m < length view.targets → m ≢ o → is_in o (chain_at view m) ≡ true → open_on_at view m ≡ 0)
    (is_open : 0 < open_on_at view o) where
  asked_at : slice_index_or (with_request view o (Some t)).requests o None ≡ Some t
  asked_at = get_or-set_same view.requests o (Some t) None (omega (arith, object, tree.as_many_requests))

  asked_not : (x : ℕ) → x ≢ o → slice_index_or (with_request view o (Some t)).requests x None ≡ slice_index_or view.requests x None
  asked_not x other = get_or-set_other view.requests o x (Some t) None other

  walks_to : walk_next (with_request view o (Some t)) o ≡ t.0
  walks_to = ap (λ r. unwrap_or (option_map (λ y. y.0) r) (target_at view o)) asked_at

  walks_as : (x : ℕ) → x ≢ o → walk_next (with_request view o (Some t)) x ≡ walk_next view x
  walks_as x other = ap (λ r. unwrap_or (option_map (λ y. y.0) r) (target_at view x)) (asked_not x other)

  walks_within : (x : ℕ) → x < length view.targets → walk_next (with_request view o (Some t)) x < length view.targets
  walks_within x within = elim (cases_eq x o) [
    | inl here ↦ subst (λ y. walk_next (with_request view o (Some t)) y < length view.targets) (sym here) (omega (arith, walks_to, fits))
    | inr other ↦ omega (arith, walks_as x other, tree.walks_fit x within)
  ]

  walks_still_end : (x : ℕ) → x < length view.targets → is_in 0 (chain_by (walk_next (with_request view o (Some t))) (length view.targets) x) ≡ true
  walks_still_end x within =
      let n = length view.targets in
      let f = walk_next view in
      let g = walk_next (with_request view o (Some t)) in
      ends_within g n (n + suc n) x walks_within within
      (ends_redirected f g o n n (n + suc n) x walks_as
      (subst (λ y. is_in o (chain_by f n y) ≡ false) (sym walks_to) apart)
      (subst (λ y. is_in 0 (chain_by f n y) ≡ true) (sym walks_to) (tree.walks_end t.0 fits))
      (tree.walks_end x within) (omega arith))

  pub IsTree-with_request : IsTree (with_request view o (Some t))
  IsTree-with_request = record {
    root = tree.root;
    few = tree.few;
    as_many_requests = length-set view.requests o (Some t) ∙ tree.as_many_requests;
    as_many_open_on = tree.as_many_open_on;
    as_many_nodes = tree.as_many_nodes;
    targets_fit = tree.targets_fit;
    walks_fit = walks_within;
    chains_end = tree.chains_end;
    walks_end = walks_still_end;
    root_stays = ap (λ r. option_map (λ y. y.0) r) (asked_not 0 (λ e. not_root view tree o t.0 fits apart (sym e))) ∙ tree.root_stays;
    others_rest = λ x within none. elim (cases_eq x o) [
      | inl here ↦ absurd (both_ways _ none (subst (λ y. is_node_at view y ≡ true) (sym here) node))
      | inr other ↦
          let rests = tree.others_rest x within none in
          (rests.0, ap (λ r. option_map (λ y. y.0) r) (asked_not x other) ∙ rests.1)
    ];
    movers_are_open = λ x within moving. elim (cases_eq x o) [
      | inl here ↦ subst (λ y. 0 < open_on_at view y) (sym here) is_open
      | inr other ↦ tree.movers_are_open x within (ap is_some (sym (asked_not x other)) ∙ moving)
    ];
    open_chains_stay = λ q p within open' on moving. elim (cases_eq q o) [
      | inl here ↦ elim (cases_eq p o) [
        | inl there ↦ here ∙ sym there
        | inr elsewhere ↦
            let none = quiet p within elsewhere (subst (λ y. is_in y (chain_at view p) ≡ true) here on) in
            absurd (omega (arith, none, open'))
      ]
      | inr other ↦ tree.open_chains_stay q p within open' on (ap is_some (sym (asked_not q other)) ∙ moving)
    ];
  }

-- ---- another target

-- the next tree has the target t for o, no request and no run open there, and else the same
pub record Retargets (view next : TreeView) (o t : ℕ) : Type 0 where
  pub as_many : length next.targets ≡ length view.targets
  pub as_many_requests : length next.requests ≡ length view.requests
  pub as_many_open_on : length next.open_on ≡ length view.open_on
  pub nodes : next.nodes ≡ view.nodes
  pub target : target_at next o ≡ t
  pub targets : (x : ℕ) → x ≢ o → target_at next x ≡ target_at view x
  pub request : slice_index_or next.requests o None ≡ None
  pub requests : (x : ℕ) → x ≢ o → slice_index_or next.requests x None ≡ slice_index_or view.requests x None
  pub closed : open_on_at next o ≡ 0
  pub open_on : (x : ℕ) → x ≢ o → open_on_at next x ≡ open_on_at view x

module _ (view next : TreeView) (o t : ℕ) (tree : IsTree view) (change : Retargets view next o t)
    (object : o < length view.targets) (fits : t < length view.targets) (away : o ≢ 0) (node : is_node_at view o ≡ true)
    (apart : is_in o (chain_by (walk_next view) (length view.targets) t) ≡ false)
    (quiet : (m : ℕ) → m < length view.targets → m ≢ o → is_in o (chain_at view m) ≡ true → open_on_at view m ≡ 0) where
  goes_to : walk_next next o ≡ t
  goes_to = ap (λ r. unwrap_or (option_map (λ y. y.0) r) (target_at next o)) change.request ∙ change.target

  goes_as : (x : ℕ) → x ≢ o → walk_next next x ≡ walk_next view x
  goes_as x other =
      ap (λ r. unwrap_or (option_map (λ y. y.0) r) (target_at next x)) (change.requests x other)
      ∙ ap (λ d. unwrap_or (option_map (λ y. y.0) (slice_index_or view.requests x None)) d) (change.targets x other)

  targets_within : (x : ℕ) → x < length view.targets → target_at next x < length view.targets
  targets_within x within = elim (cases_eq x o) [
    | inl here ↦ subst (λ y. target_at next y < length view.targets) (sym here) (omega (arith, change.target, fits))
    | inr other ↦ omega (arith, change.targets x other, tree.targets_fit x within)
  ]

  goes_within : (x : ℕ) → x < length view.targets → walk_next next x < length view.targets
  goes_within x within = elim (cases_eq x o) [
    | inl here ↦ subst (λ y. walk_next next y < length view.targets) (sym here) (omega (arith, goes_to, fits))
    | inr other ↦ omega (arith, goes_as x other, tree.walks_fit x within)
  ]

  -- the chain of the new target has not o: above it an object would be moving that is open, and o would be on its chain
  target_apart : is_in o (chain_by (target_at view) (length view.targets) t) ≡ false
  target_apart = false_from_ne_true _ (λ on.
      let n = length view.targets in
      let p = parting (target_at view) (walk_next view) n t o on apart in
      let below = in_range (target_at view) n n t p.at tree.targets_fit fits p.on_it in
      let busy = tree.movers_are_open p.at below (parts_moving view p.at p.apart) in
      let none = quiet p.at below p.elsewhere p.before in
      omega (arith, busy, none))

  chains_still_end : (x : ℕ) → x < length view.targets → is_in 0 (chain_by (target_at next) (length view.targets) x) ≡ true
  chains_still_end x within =
      let n = length view.targets in
      let f = target_at view in
      ends_within (target_at next) n (n + suc n) x targets_within within
      (ends_redirected f (target_at next) o n n (n + suc n) x change.targets
      (subst (λ y. is_in o (chain_by f n y) ≡ false) (sym change.target) target_apart)
      (subst (λ y. is_in 0 (chain_by f n y) ≡ true) (sym change.target) (tree.chains_end t fits))
      (tree.chains_end x within) (omega arith))

  goings_still_end : (x : ℕ) → x < length view.targets → is_in 0 (chain_by (walk_next next) (length view.targets) x) ≡ true
  goings_still_end x within =
      let n = length view.targets in
      let f = walk_next view in
      ends_within (walk_next next) n (n + suc n) x goes_within within
      (ends_redirected f (walk_next next) o n n (n + suc n) x goes_as
      (subst (λ y. is_in o (chain_by f n y) ≡ false) (sym goes_to) apart)
      (subst (λ y. is_in 0 (chain_by f n y) ≡ true) (sym goes_to) (tree.walks_end t fits))
      (tree.walks_end x within) (omega arith))

  -- a chain without o stays
  chain_stays : (m : ℕ) → is_in o (chain_at view m) ≡ false → chain_at next m ≡ chain_at view m
  chain_stays m without =
      ap (λ k. chain_by (target_at next) k m) change.as_many
      ∙ chain_agree (target_at view) (target_at next) (length view.targets) m
      (λ x on. change.targets x (λ e. both_ways _ without (subst (λ y. is_in y (chain_at view m) ≡ true) e on)))

  -- an open object's chain has not o
  open_without : (m : ℕ) → m < length view.targets → m ≢ o → 0 < open_on_at view m → is_in o (chain_at view m) ≡ false
  open_without m within other busy = false_from_ne_true _ (λ on. let none = quiet m within other on in omega (arith, none, busy))

  rests_there : is_moving_at next o ≡ false
  rests_there = ap is_some change.request

  pub IsTree-retargeted : IsTree next
  IsTree-retargeted = record {
    root = omega (arith, tree.root, change.as_many);
    few = omega (arith, tree.few, change.as_many);
    as_many_requests = change.as_many_requests ∙ tree.as_many_requests ∙ sym change.as_many;
    as_many_open_on = change.as_many_open_on ∙ tree.as_many_open_on ∙ sym change.as_many;
    as_many_nodes = ap length change.nodes ∙ tree.as_many_nodes ∙ sym change.as_many;
    targets_fit = λ x within. omega (arith, targets_within x (omega (arith, within, change.as_many)), change.as_many);
    walks_fit = λ x within. omega (arith, goes_within x (omega (arith, within, change.as_many)), change.as_many);
    chains_end = λ x within. subst (λ k. is_in 0 (chain_by (target_at next) k x) ≡ true) (sym change.as_many)
        (chains_still_end x (omega (arith, within, change.as_many)));
    walks_end = λ x within. subst (λ k. is_in 0 (chain_by (walk_next next) k x) ≡ true) (sym change.as_many)
        (goings_still_end x (omega (arith, within, change.as_many)));
    root_stays = ap (λ r. option_map (λ y. y.0) r) (change.requests 0 (λ e. away (sym e))) ∙ tree.root_stays;
    others_rest = λ x within none. elim (cases_eq x o) [
      | inl here ↦ absurd (both_ways _ none (subst (λ y. is_node_at next y ≡ true) (sym here) (ap (λ ns. slice_index_or ns o false) change.nodes ∙ node)))
      | inr other ↦
          let rests = tree.others_rest x (omega (arith, within, change.as_many)) (sym (ap (λ ns. slice_index_or ns x false) change.nodes) ∙ none) in
          (change.targets x other ∙ rests.0, ap (λ r. option_map (λ y. y.0) r) (change.requests x other) ∙ rests.1)
    ];
    movers_are_open = λ x within moving. elim (cases_eq x o) [
      | inl here ↦ absurd (both_ways _ rests_there (subst (λ y. is_moving_at next y ≡ true) here moving))
      | inr other ↦
          let busy = tree.movers_are_open x (omega (arith, within, change.as_many)) (ap is_some (sym (change.requests x other)) ∙ moving) in
          omega (arith, busy, change.open_on x other)
    ];
    open_chains_stay = λ q p within open' on moving. elim (cases_eq p o) [
      | inl here ↦ absurd (omega (arith, subst (λ y. 0 < open_on_at next y) here open', change.closed))
      | inr other ↦
          let below : p < length view.targets = omega (arith, within, change.as_many) in
          let busy : 0 < open_on_at view p = omega (arith, open', change.open_on p other) in
          let kept = chain_stays p (open_without p below other busy) in
          let elsewhere : q ≢ o = λ e. both_ways _ rests_there (subst (λ y. is_moving_at next y ≡ true) e moving) in
          tree.open_chains_stay q p below busy (ap (is_in q) (sym kept) ∙ on) (ap is_some (sym (change.requests q elsewhere)) ∙ moving)
    ];
  }

  from_stays : (x m : ℕ) → m < length view.targets → m ≢ o → open_from next x m ≡ open_from view x m
  from_stays x m within other = elim (cases_eq (open_on_at view m) 0) [
    | inl none ↦
        ap (λ k. cond (is_in x (chain_at next m)) k 0) (change.open_on m other ∙ none)
        ∙ cond_zero (is_in x (chain_at next m))
        ∙ sym (ap (λ k. cond (is_in x (chain_at view m)) k 0) none ∙ cond_zero (is_in x (chain_at view m)))
    | inr some ↦
        ap (λ k. cond (is_in x (chain_at next m)) k 0) (change.open_on m other)
        ∙ ap (λ ms. cond (is_in x ms) (open_on_at view m) 0) (chain_stays m (open_without m within other (omega (arith, some))))
  ]

  -- beneath each object is what was, less the runs that o had
  pub beneath-retargeted : (x : ℕ) → open_beneath_at next x + cond (is_in x (chain_at view o)) (open_on_at view o) 0 ≡ open_beneath_at view x
  beneath-retargeted x =
      let n = length view.targets in
      let mine = cond (is_in x (chain_at view o)) (open_on_at view o) 0 in
      let none : ◌≡◌ {A = ℕ} (open_from next x o) 0 = ap (λ k. cond (is_in x (chain_at next o)) k 0) change.closed ∙ cond_zero (is_in x (chain_at next o)) in
      let changed = sum_by-changed (open_from view x) (open_from next x) 0 n o mine 0 (omega arith) (omega arith) (omega (arith, none))
      (λ k lt other. from_stays x k (omega arith) other) in
      let whole = ap (λ k. sum_by (open_from next x) (range_with_len 0 k)) change.as_many in
      omega (arith, changed, whole)
