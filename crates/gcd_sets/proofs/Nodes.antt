-- The nodes of the tree, and the view of them: what each call reads and leaves.
use Rattle.std.proofs.Common.{◌≡◌, ◌≢◌, ℕ, zero, suc, ◌+◌, ◌-◌, ◌*◌, ◌/◌, ◌%◌, ◌<◌, ◌≤◌, List, length, get_or, set, replicate, Option, Some, None, refl, ap, sym, ◌∙◌, inl, inr, ◌⊎◌, arith}
use Rattle.std.specs.List.{slice_get}
use Rattle.std.proofs.lemmas.Bool.{cases_eq, cases_lt}
use Rattle.std.proofs.lemmas.Option.{slice_get-get_or}
use Rattle.std.proofs.lemmas.Nat.{div-add-mod', mod_below}
use Rattle.std.proofs.lemmas.List.{ext_get_or, get_or_read, get_or-set_same, get_or-set_other, length-set, length-replicate, get_or-replicate}
use Rattle.std.proofs.lemmas.List.FromFn.{get_or-map-range_with_len, length-map-range_with_len}
use Rattle.gcd_sets.specs.Least.{least, no_time, time_at}
use Rattle.gcd_sets.specs.Tree.{node_at, HoldsBut, IsTree, times_of}
use Rattle.gcd_sets.proofs.Least.{least_is, time_none}

-- half of a number
half : (n : ℕ) → (n ≡ 2 * (n / 2)) ⊎ (n ≡ 2 * (n / 2) + 1)
half n =
    let parts = div-add-mod' n 2 in
    let rest = mod_below n 2 (omega arith) in
    elim (cases_eq (n % 2) 0) [
      | inl even ↦ inl (omega (arith, parts, even))
      | inr odd ↦ inr (omega (arith, parts, rest, odd))
    ]

-- ## The rule

-- one of the children is as the parent is
pub child_same : (nodes : List ℕ) (at : ℕ) → HoldsBut nodes 0 → 0 < at → 2 * at + 1 < length nodes → node_at nodes (2 * at) ≢ node_at nodes at
    → node_at nodes (2 * at + 1) ≡ node_at nodes at
child_same nodes at holds above within ne =
    let is = holds at above within (λ (none : at ≡ 0). omega (arith, none, above)) in
    elim (cases_lt (node_at nodes (2 * at + 1)) (node_at nodes (2 * at))) [
      | inl less ↦ omega (arith, is, less)
      | inr more ↦ absurd (ne (omega (arith, is, more)))
    ]

module _ (nodes : List ℕ) (len : ℕ) (t : IsTree nodes len) where
  -- no node is below the first
  root_below : (fuel j : ℕ) → j ≤ fuel → 1 ≤ j → j < 2 * len → node_at nodes 1 ≤ node_at nodes j
  root_below zero j few some within = absurd (omega (arith, few, some))
  root_below (suc fuel) j few some within =
      elim (cases_eq j 1) [
        | inl e ↦ rw e (omega arith)
        | inr ne ↦
            let parts = div-add-mod' j 2 in
            let rest = mod_below j 2 (omega arith) in
            let above : 1 ≤ j / 2 = omega (arith, parts, rest, some, ne) in
            let room : 2 * (j / 2) + 1 < length nodes = omega (arith, parts, rest, within, t.long) in
            let is = t.holds (j / 2) above room (λ (none : j / 2 ≡ 0). omega (arith, none, above)) in
            let less = root_below fuel (j / 2) (omega (arith, parts, rest, few, above)) above (omega (arith, room, t.long)) in
            elim (half j) [
              | inl even ↦ let here = ap (node_at nodes) even in omega (arith, is, less, here)
              | inr odd ↦ let here = ap (node_at nodes) odd in omega (arith, is, less, here)
            ]
      ]

  -- and one of the last is as a node is
  leaf_of : (fuel at : ℕ) → 2 * len ≤ at + fuel → 1 ≤ at → at < 2 * len → (x : ℕ) × (len ≤ x) × (x < 2 * len) × (node_at nodes x ≡ node_at nodes at)
  leaf_of zero at enough some within = absurd (omega (arith, enough, within))
  leaf_of (suc fuel) at enough some within =
      elim (cases_lt at len) [
        | inr leaf ↦ (at, leaf, within, refl)
        | inl inner ↦
            let room : 2 * at + 1 < length nodes = omega (arith, inner, t.long) in
            elim (cases_eq (node_at nodes (2 * at)) (node_at nodes at)) [
              | inl e ↦
                  let below = leaf_of fuel (2 * at) (omega (arith, enough, some)) (omega (arith, some)) (omega (arith, inner)) in
                  (below.0, below.1, below.2, below.3 ∙ e)
              | inr ne ↦
                  let below = leaf_of fuel (2 * at + 1) (omega (arith, enough, some)) (omega arith) (omega (arith, inner)) in
                  (below.0, below.1, below.2, below.3 ∙ child_same nodes at t.holds some room ne)
            ]
      ]

  -- the first node is the least time
  pub root_is : 0 < len → least (times_of nodes len) ≡ time_at (node_at nodes 1)
  root_is some =
      let leaf = leaf_of (2 * len) 1 (omega arith) (omega arith) (omega (arith, some)) in
      let at : len + (leaf.0 - len) ≡ leaf.0 = omega (arith, leaf.1) in
      least_is (λ i. node_at nodes (len + i)) 0 len (node_at nodes 1) (leaf.0 - len)
      (λ i from to. root_below (2 * len) (len + i) (omega (arith, to)) (omega (arith, some)) (omega (arith, to)))
      (omega arith) (omega (arith, leaf.1, leaf.2)) (ap (node_at nodes) at ∙ leaf.3)

-- ## The view

pub length_times : (nodes : List ℕ) (len : ℕ) → length (times_of nodes len) ≡ len
length_times nodes len = length-map-range_with_len (λ i. time_at (node_at nodes (len + i))) 0 len

pub time_is : (nodes : List ℕ) (len i : ℕ) → i < len → get_or (times_of nodes len) i None ≡ time_at (node_at nodes (len + i))
time_is nodes len i lt = get_or-map-range_with_len (λ i. time_at (node_at nodes (len + i))) 0 len i i None lt (omega arith)

-- another node at a number is another time, where the others stay
pub times_changed : (nodes nodes' : List ℕ) (len i x : ℕ) → i < len → node_at nodes' (len + i) ≡ x
    → ((k : ℕ) → len ≤ k → k ≢ len + i → node_at nodes' k ≡ node_at nodes k) → times_of nodes' len ≡ set (times_of nodes len) i (time_at x)
times_changed nodes nodes' len i x lt here others =
    ext_get_or None _ _ (length_times nodes' len ∙ sym (length-set (times_of nodes len) i (time_at x) ∙ length_times nodes len))
    (λ k lt'. let within : k < len = omega (arith, lt', length_times nodes' len) in time_is nodes' len k within ∙ same k within)
  where
    same : (k : ℕ) → k < len → time_at (node_at nodes' (len + k)) ≡ get_or (set (times_of nodes len) i (time_at x)) k None
    same k within =
        elim (cases_eq k i) [
          | inl e ↦
              ap (λ j. time_at (node_at nodes' (len + j))) e ∙ ap time_at here
              ∙ sym (ap (λ j. get_or (set (times_of nodes len) i (time_at x)) j None) e
              ∙ get_or-set_same (times_of nodes len) i (time_at x) None (omega (arith, lt, length_times nodes len)))
          | inr ne ↦
              ap time_at (others (len + k) (omega arith) (λ (e : len + k ≡ len + i). ne (omega (arith, e))))
              ∙ sym (get_or-set_other (times_of nodes len) i k (time_at x) None ne ∙ time_is nodes len k within)
        ]

-- nodes of no time
pub no_times : (nodes : List ℕ) (len n : ℕ) → n ≡ 2 * len → nodes ≡ replicate n no_time → IsTree nodes len × (times_of nodes len ≡ replicate len None)
no_times nodes len n twice is =
    let long : length nodes ≡ 2 * len = ap length is ∙ length-replicate n no_time ∙ twice in
    let all : (k : ℕ) → k < 2 * len → node_at nodes k ≡ no_time =
    λ k lt. ap (λ xs. node_at xs k) is ∙ get_or-replicate n k no_time 0 (let all : k < n = omega (arith, lt, twice) in all) in (
      record {
        long = long;
        holds = λ i some within other.
            let here = all i (omega (arith, within, long)) in
            let left = all (2 * i) (omega (arith, within, long)) in
            let right = all (2 * i + 1) (omega (arith, within, long)) in
            omega (arith, here, left, right);
      },
      ext_get_or None _ _ (length_times nodes len ∙ sym (length-replicate len None))
          (λ k lt.
          let within : k < len = omega (arith, lt, length_times nodes len) in
          time_is nodes len k within ∙ ap time_at (all (len + k) (omega (arith, within))) ∙ time_none no_time (omega arith)
          ∙ sym (get_or-replicate len k None None within)),
    )

-- nodes that show the times of a view
module _ {nodes : List ℕ} {len : ℕ} {times : List (Option ℕ)} (t : IsTree nodes len) (seen : times_of nodes len ≡ times) where
  pub len_is : len ≡ length times
  len_is = sym (length_times nodes len) ∙ ap length seen

  pub node_within : (i : ℕ) → i < length times → len + i < length nodes
  node_within i lt = omega (arith, lt, len_is, t.long)

  -- a time is read
  pub time_read : (i n : ℕ) → i < length times → n ≡ get_or nodes (len + i) n → time_at n ≡ get_or times i None
  time_read i n lt read =
      ap time_at (get_or_read nodes (len + i) n (node_within i lt) read 0) ∙ sym (time_is nodes len i (omega (arith, lt, len_is)))
      ∙ ap (λ ts. get_or ts i None) seen

  -- the least is read
  pub none_least : len ≡ 0 → ◌≡◌ {A = Option ℕ} None (least times)
  none_least none = ap (λ n. least (times_of nodes n)) (sym none) ∙ ap least seen

  pub least_read : (n : ℕ) → 0 < len → n ≡ get_or nodes 1 n → time_at n ≡ least times
  least_read n some read =
      let is : n ≡ node_at nodes 1 = get_or_read nodes 1 n (omega (arith, some, t.long)) read 0 in
      ap time_at is ∙ sym (root_is nodes len t some) ∙ ap least seen

  -- a leaf that is as the first node has the least time
  pub leaf_time : (at : ℕ) → 0 < len → len ≤ at → at < 2 * len → node_at nodes at ≡ node_at nodes 1
      → slice_get times (at - len) ≡ Some (least times)
  leaf_time at some leaf within is =
      let i : at - len < length times = omega (arith, leaf, within, len_is) in
      let there : len + (at - len) ≡ at = omega (arith, leaf) in
      slice_get-get_or times (at - len) None i
      ∙ ap Some (ap (λ ts. get_or ts (at - len) None) (sym seen) ∙ time_is nodes len (at - len) (omega (arith, leaf, within))
      ∙ ap (λ k. time_at (node_at nodes k)) there ∙ ap time_at is ∙ sym (root_is nodes len t some) ∙ ap least seen)

  -- a time is written
  pub written : (nodes' : List ℕ) (i n : ℕ) → i < length times → length nodes' ≡ 2 * len → HoldsBut nodes' 0
      → ((k : ℕ) → len ≤ k → node_at nodes' k ≡ node_at (set nodes (len + i) n) k)
      → IsTree nodes' len × (times_of nodes' len ≡ set times i (time_at n))
  written nodes' i n lt long holds leaves = (
    record { long = long; holds = holds },
    times_changed nodes nodes' len i n (omega (arith, lt, len_is))
        (leaves (len + i) (omega arith) ∙ get_or-set_same nodes (len + i) n 0 (node_within i lt))
        (λ k leaf ne. leaves k leaf ∙ get_or-set_other nodes (len + i) k n 0 ne)
        ∙ ap (λ ts. set ts i (time_at n)) seen,
  )
