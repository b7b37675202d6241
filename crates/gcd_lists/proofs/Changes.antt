-- What changes of the arrays keep: a block that comes behind a list, and one that leaves its front.
use Rattle.std.proofs.Common.{◌≡◌, ◌≢◌, ℕ, suc, ◌+◌, ◌≤◌, ◌<◌, Bool, cond, List, [], ◌∷◌, ◌++◌, length, get_or, set, drop, replicate, Option, Some, None, refl, ap, sym, ◌∙◌, subst, inl, inr, arith, count_by}
use Rattle.std.proofs.lemmas.Bool.{cases_eq, eq-eqb, ne_eqb}
use Rattle.std.proofs.lemmas.List.{length-set, get_or-set_same, get_or-set_other, length-replicate, length_push}
use Rattle.std.proofs.lemmas.List.Sums.{sum_by-set}
use Rattle.std.proofs.lemmas.Option.{none-some, same_Some}
use Rattle.gcd_plan.specs.declared.numbers.Blk.{Blk}
use Rattle.gcd_plan.specs.declared.numbers.Obj.{Obj}
use Rattle.gcd_plan.proofs.Places.{get_or-replicate_same}
use Rattle.gcd_lists.specs.ListsView.{barrier_in}
use Rattle.gcd_lists.specs.Links.{Hold, IsQueue, IsChain, IsLast, entry, is_on, last_at, on}
use Rattle.gcd_lists.proofs.Places.{barrier_in_here, barrier_in_later, barrier_in_front, barrier_in_back}
use Rattle.gcd_lists.proofs.Held.{First, none_first, some_first, some_last, entry_within}
use Rattle.gcd_lists.proofs.Chains.{place_in_chain, once_in_chain, chain_same, chain_pushed, last_pushed, last_rest, Appends}

-- in an array of nothing, nothing stands
pub entry_nothing : {X : Type 0} → (n i : ℕ) → entry (replicate {A = Option X} n None) i ≡ None
entry_nothing n i = get_or-replicate_same n i None

-- at the beginning nothing waits
pub nothing_waits : (objects blocks : ℕ) → Hold (replicate blocks None) (replicate blocks None) (replicate objects None)
    (replicate objects (record { 0 = 0 })) (replicate objects [])
nothing_waits objects blocks = record {
  places_long = length-replicate blocks None ∙ sym (length-replicate blocks None);
  heads_long = length-replicate objects None ∙ sym (length-replicate objects []);
  lasts_long = length-replicate objects (record { 0 = 0 }) ∙ sym (length-replicate objects []);
  queues = λ n. rw (nothing_at n) (record { chain = entry_nothing objects n; last = tt; few = omega arith });
  found = λ b n barrier is. absurd (none-some _ (sym (entry_nothing blocks b) ∙ is));
}
  where
    nothing_at : (n : ℕ) → ◌≡◌ {A = List (Blk × Bool)} (get_or (replicate objects []) n []) []
    nothing_at n = get_or-replicate_same objects n []

-- how many places are on a node, where one is given to a block that waited nowhere, and where one is taken away
placed_here : (places : List (Option (Obj × Bool))) (b n : ℕ) (barrier : Bool) → b < length places → entry places b ≡ None
    → count_by (is_on n) (set places b (on n barrier)) ≡ count_by (is_on n) places + 1
placed_here places b n barrier lt nowhere =
    let value : Option (Obj × Bool) → ℕ = λ p. cond (is_on n p) 1 0 in
    let more = sum_by-set value places b (on n barrier) None lt in
    let old : value (entry places b) ≡ 0 = ap value nowhere in
    let new : value (on n barrier) ≡ 1 = ap (λ t. cond t 1 0) (eq-eqb n n refl) in
    omega (arith, more, old, new)

placed_elsewhere : (places : List (Option (Obj × Bool))) (b n : ℕ) (place : Option (Obj × Bool)) → b < length places → entry places b ≡ None
    → count_by (is_on n) places ≤ count_by (is_on n) (set places b place)
placed_elsewhere places b n place lt nowhere =
    let value : Option (Obj × Bool) → ℕ = λ p. cond (is_on n p) 1 0 in
    let more = sum_by-set value places b place None lt in
    let old : value (entry places b) ≡ 0 = ap value nowhere in
    omega (arith, more, old)

pub taken_here : (places : List (Option (Obj × Bool))) (b n : ℕ) (barrier : Bool) → b < length places → entry places b ≡ on n barrier
    → count_by (is_on n) (set places b None) + 1 ≡ count_by (is_on n) places
taken_here places b n barrier lt there =
    let value : Option (Obj × Bool) → ℕ = λ p. cond (is_on n p) 1 0 in
    let more = sum_by-set value places b None None lt in
    let old : value (entry places b) ≡ 1 = ap value there ∙ ap (λ t. cond t 1 0) (eq-eqb n n refl) in
    omega (arith, more, old)

pub taken_elsewhere : (places : List (Option (Obj × Bool))) (b m n : ℕ) (barrier : Bool) → b < length places → m ≢ n
    → entry places b ≡ on m barrier → count_by (is_on n) (set places b None) ≡ count_by (is_on n) places
taken_elsewhere places b m n barrier lt apart there =
    let value : Option (Obj × Bool) → ℕ = λ p. cond (is_on n p) 1 0 in
    let more = sum_by-set value places b None None lt in
    let old : value (entry places b) ≡ 0 = ap value there ∙ ap (λ t. cond t 1 0) (ne_eqb m n apart) in
    omega (arith, more, old)

-- a change that leaves the list of a node alone
pub untouched : (links places links' places' : _) (n : ℕ) (head : Option Blk) (end : Blk) (ws : List (Blk × Bool)) → IsQueue links places n head end ws
    → ((b : ℕ) (barrier : Bool) → entry places b ≡ on n barrier → (entry links' b ≡ entry links b) × (entry places' b ≡ entry places b))
    → count_by (is_on n) places ≤ count_by (is_on n) places' → IsQueue links' places' n head end ws
untouched links places links' places' n head end ws q same more = record {
  chain = chain_same (entry links) (entry places) (entry links') (entry places') n head ws q.chain
      (λ b barrier found. same b barrier (place_in_chain (entry links) (entry places) n b head ws barrier q.chain found));
  last = q.last;
  few = omega (arith, q.few, more);
}

-- what a block that comes behind the list of node n changes: b waited nowhere, its place is written, and the links and
-- heads lead from the list to it
pub record Comes
    (links : List (Option Blk)) (places : List (Option (Obj × Bool))) (heads : List (Option Blk)) (lists : List (List (Blk × Bool)))
    (links' : List (Option Blk)) (heads' : List (Option Blk)) (n : ℕ) (b : Blk) (barrier : Bool) : Type 0 where
  pub node : n < length lists
  pub block : b.0 < length places
  pub nowhere : entry places b.0 ≡ None
  pub links_long : length links' ≡ length links
  pub heads_long : length heads' ≡ length heads
  pub heads_other : (m : ℕ) → m ≢ n → entry heads' m ≡ entry heads m
  pub links_other : (c m : ℕ) (flag : Bool) → m ≢ n → entry places c ≡ on m flag → entry links' c ≡ entry links c
  pub chain : IsChain (entry links') (entry (set places b.0 (on n barrier))) n (entry heads' n)
      (get_or lists n [] ++ (b, barrier) ∷ [])

module _ (links : List (Option Blk)) (places : List (Option (Obj × Bool))) (heads : List (Option Blk)) (lasts : List Blk)
    (lists : List (List (Blk × Bool))) (links' : List (Option Blk)) (heads' : List (Option Blk)) (n : ℕ) (b : Blk) (barrier : Bool)
    (h : Hold links places heads lasts lists) (c : Comes links places heads lists links' heads' n b barrier) where
  -- the place that the block has now, and those that stay
  place_new : entry (set places b.0 (on n barrier)) b.0 ≡ on n barrier
  place_new = get_or-set_same places b.0 (on n barrier) None c.block

  place_old : (x : ℕ) → x ≢ b.0 → entry (set places b.0 (on n barrier)) x ≡ entry places x
  place_old x ne = get_or-set_other places b.0 x (on n barrier) None ne

  -- a block that waits is not the one that comes
  waits_before : (x m : ℕ) (flag : Bool) → entry places x ≡ on m flag → x ≢ b.0
  waits_before x m flag there e = none-some _ (sym c.nowhere ∙ ap (entry places) (sym e) ∙ there)

  -- what stands at a node afterwards
  list_new : get_or (set lists n (get_or lists n [] ++ (b, barrier) ∷ [])) n [] ≡ get_or lists n [] ++ (b, barrier) ∷ []
  list_new = get_or-set_same lists n (get_or lists n [] ++ (b, barrier) ∷ []) [] c.node

  list_old : (m : ℕ) → m ≢ n → get_or (set lists n (get_or lists n [] ++ (b, barrier) ∷ [])) m [] ≡ get_or lists m []
  list_old m ne = get_or-set_other lists n m (get_or lists n [] ++ (b, barrier) ∷ []) [] ne

  end_new : last_at (set lasts n b) n ≡ b
  end_new = get_or-set_same lasts n b (record { 0 = 0 }) (omega (arith, c.node, h.lasts_long))

  end_old : (m : ℕ) → m ≢ n → last_at (set lasts n b) m ≡ last_at lasts m
  end_old m ne = get_or-set_other lasts n m b (record { 0 = 0 }) ne

  queue_new : IsQueue links' (set places b.0 (on n barrier)) n (entry heads' n)
      (last_at (set lasts n b) n) (get_or (set lists n (get_or lists n [] ++ (b, barrier) ∷ [])) n [])
  queue_new =
      rw (list_new, end_new)
      (record {
        chain = c.chain;
        last = last_pushed b barrier (get_or lists n []);
        few = omega (arith, length_push (get_or lists n []) (b, barrier), (h.queues n).few, placed_here places b.0 n barrier c.block c.nowhere);
      })

  queue_old : (m : ℕ) → m ≢ n → IsQueue links' (set places b.0 (on n barrier)) m (entry heads' m)
      (last_at (set lasts n b) m) (get_or (set lists n (get_or lists n [] ++ (b, barrier) ∷ [])) m [])
  queue_old m ne =
      rw (list_old m ne, end_old m ne, c.heads_other m ne)
      (untouched links places links' (set places b.0 (on n barrier)) m (entry heads m) (last_at lasts m) (get_or lists m []) (h.queues m)
      (λ x flag there. (c.links_other x m flag ne there, place_old x (waits_before x m flag there)))
      (placed_elsewhere places b.0 m (on n barrier) c.block c.nowhere))

  -- the block was not in the list
  absent : barrier_in b.0 (get_or lists n []) ≡ None
  absent = not_there (barrier_in b.0 (get_or lists n [])) refl
    where
      not_there : (o : Option Bool) → barrier_in b.0 (get_or lists n []) ≡ o → o ≡ None
      not_there None e = refl
      not_there (Some flag) e =
          let there = place_in_chain (entry links) (entry places) n b.0 (entry heads n) (get_or lists n []) flag (h.queues n).chain e in
          absurd (none-some _ (sym c.nowhere ∙ there))

  -- the block is found behind the list, and each that waited is found where it was
  found_behind : barrier_in b.0 (get_or (set lists n (get_or lists n [] ++ (b, barrier) ∷ [])) n []) ≡ Some barrier
  found_behind =
      ap (barrier_in b.0) list_new ∙ barrier_in_back b.0 (get_or lists n []) ((b, barrier) ∷ []) absent
      ∙ barrier_in_here b.0 (b, barrier) [] refl

  found_before : (x m : ℕ) (flag : Bool) → entry places x ≡ on m flag
      → barrier_in x (get_or (set lists n (get_or lists n [] ++ (b, barrier) ∷ [])) m []) ≡ Some flag
  found_before x m flag there =
      elim (cases_eq m n) [
        | inl at ↦
            rw (at, list_new)
            (barrier_in_front x (get_or lists n []) ((b, barrier) ∷ []) flag (subst (λ k. barrier_in x (get_or lists k []) ≡ Some flag) at (h.found x m flag there)))
        | inr apart ↦ ap (barrier_in x) (list_old m apart) ∙ h.found x m flag there
      ]

  found_after : (x m : ℕ) (flag : Bool) → entry (set places b.0 (on n barrier)) x ≡ on m flag
      → barrier_in x (get_or (set lists n (get_or lists n [] ++ (b, barrier) ∷ [])) m []) ≡ Some flag
  found_after x m flag there =
      elim (cases_eq x b.0) [
        | inl e ↦
            let same = same_Some _ _ (sym place_new ∙ ap (entry (set places b.0 (on n barrier))) (sym e) ∙ there) in
            let node : n ≡ m = ap (λ p. p.0.0) same in
            let flags : barrier ≡ flag = ap (λ p. p.1) same in
            rw (← node, ← flags, e) found_behind
        | inr ne ↦ found_before x m flag (sym (place_old x ne) ∙ there)
      ]

  -- the arrays hold the list with the block behind it
  pub hold_longer : Hold links' (set places b.0 (on n barrier)) heads' (set lasts n b)
      (set lists n (get_or lists n [] ++ (b, barrier) ∷ []))
  hold_longer = record {
    places_long = length-set places b.0 (on n barrier) ∙ h.places_long ∙ sym c.links_long;
    heads_long = c.heads_long ∙ h.heads_long ∙ sym (length-set lists n (get_or lists n [] ++ (b, barrier) ∷ []));
    lasts_long = length-set lasts n b ∙ h.lasts_long ∙ sym (length-set lists n (get_or lists n [] ++ (b, barrier) ∷ []));
    queues = λ m. elim (cases_eq m n) [ inl at ↦ rw at queue_new | inr apart ↦ queue_old m apart ];
    found = found_after;
  }

-- a block comes to an empty list
pub comes_first : (links places heads lasts lists : _) (n : ℕ) (b : Blk) (barrier : Bool) → Hold links places heads lasts lists
    → n < length lists → b.0 < length links → entry places b.0 ≡ None → entry heads n ≡ None
    → Comes links places heads lists (set links b.0 None) (set heads n (Some b)) n b barrier
comes_first links places heads lasts lists n b barrier h node block nowhere none = record {
  node = node;
  block = omega (arith, block, h.places_long);
  nowhere = nowhere;
  links_long = length-set links b.0 None;
  heads_long = length-set heads n (Some b);
  heads_other = λ m ne. get_or-set_other heads n m (Some b) None ne;
  links_other = λ x m flag ne there. get_or-set_other links b.0 x None None (λ e. none-some _ (sym nowhere ∙ ap (entry places) (sym e) ∙ there));
  chain = rw (none_first links places heads lasts lists h n none) (
    get_or-set_same heads n (Some b) None (omega (arith, node, h.heads_long)),
    get_or-set_same places b.0 (on n barrier) None (omega (arith, block, h.places_long)),
    get_or-set_same links b.0 None None block,
  );
}

-- a block comes behind others
module _ (links : List (Option Blk)) (places : List (Option (Obj × Bool))) (heads : List (Option Blk)) (lasts : List Blk)
    (lists : List (List (Blk × Bool))) (n : ℕ) (a end b : Blk) (barrier : Bool) (h : Hold links places heads lasts lists)
    (node : n < length lists) (block : b.0 < length links) (nowhere : entry places b.0 ≡ None) (some : entry heads n ≡ Some a)
    (is_end : last_at lasts n ≡ end) where
  -- the last block of the list
  end_waits : (flag : Bool) × (entry places end.0 ≡ on n flag) × (entry links end.0 ≡ None)
  end_waits = rw (← is_end) (some_last links places heads lasts lists h n a some)

  -- a block that waits is not the one that comes, and one that waits elsewhere is not the last of the list
  not_new : (x m : ℕ) (flag : Bool) → entry places x ≡ on m flag → x ≢ b.0
  not_new x m flag there e = none-some _ (sym nowhere ∙ ap (entry places) (sym e) ∙ there)

  not_end : (x m : ℕ) (flag : Bool) → m ≢ n → entry places x ≡ on m flag → x ≢ end.0
  not_end x m flag apart there e = apart (ap (λ p. p.0.0) (same_Some _ _ (sym there ∙ ap (entry places) e ∙ end_waits.1)))

  end_within : end.0 < length (set links b.0 None)
  end_within = omega (arith, entry_within places end.0 _ end_waits.1, h.places_long, length-set links b.0 None)

  linked : Appends (entry links) (entry places) (entry (set (set links b.0 None) end.0 (Some b))) (entry (set places b.0 (on n barrier)))
      n end b barrier
  linked = record {
    nowhere = nowhere;
    ended = end_waits.2;
    linked = get_or-set_same (set links b.0 None) end.0 (Some b) None end_within;
    ends = get_or-set_other (set links b.0 None) end.0 b.0 (Some b) None (λ e. not_new end.0 n end_waits.0 end_waits.1 (sym e)) ∙ get_or-set_same links b.0 None None block;
    others = λ x new last. get_or-set_other (set links b.0 None) end.0 x (Some b) None last ∙ get_or-set_other links b.0 x None None new;
    placed = get_or-set_same places b.0 (on n barrier) None (omega (arith, block, h.places_long));
    places = λ x new. get_or-set_other places b.0 x (on n barrier) None new;
  }

  longer : (ws : List (Blk × Bool)) → IsChain (entry links) (entry places) n (entry heads n) ws → IsLast end ws
      → IsChain (entry (set (set links b.0 None) end.0 (Some b))) (entry (set places b.0 (on n barrier))) n (entry heads n)
      (ws ++ (b, barrier) ∷ [])
  longer [] chain last = absurd (none-some a (sym chain ∙ some))
  longer (w ∷ ws) chain last =
      chain_pushed (entry links) (entry places) (entry (set (set links b.0 None) end.0 (Some b))) (entry (set places b.0 (on n barrier)))
      n end b barrier linked (entry heads n) w ws chain last

  pub comes_behind : Comes links places heads lists (set (set links b.0 None) end.0 (Some b)) heads n b barrier
  comes_behind = record {
    node = node;
    block = omega (arith, block, h.places_long);
    nowhere = nowhere;
    links_long = length-set (set links b.0 None) end.0 (Some b) ∙ length-set links b.0 None;
    heads_long = refl;
    heads_other = λ m ne. refl;
    links_other = λ x m flag ne there. linked.others x (not_new x m flag there) (not_end x m flag ne there);
    chain = longer (get_or lists n []) (h.queues n).chain (subst (λ x. IsLast x (get_or lists n [])) is_end (h.queues n).last);
  }

-- the first block leaves the list of node n
module _ (links : List (Option Blk)) (places : List (Option (Obj × Bool))) (heads : List (Option Blk)) (lasts : List Blk)
    (lists : List (List (Blk × Bool))) (n : ℕ) (b : Blk) (h : Hold links places heads lasts lists) (node : n < length lists)
    (some : entry heads n ≡ Some b) where
  taken : First places n b (get_or lists n [])
  taken = some_first links places heads lasts lists h n b some

  taken_within : b.0 < length places
  taken_within = entry_within places b.0 _ taken.placed

  place_gone : entry (set places b.0 None) b.0 ≡ None
  place_gone = get_or-set_same places b.0 None None taken_within

  place_kept : (x : ℕ) → x ≢ b.0 → entry (set places b.0 None) x ≡ entry places x
  place_kept x ne = get_or-set_other places b.0 x None None ne

  -- a block that waits elsewhere is not the one that leaves
  not_taken : (x m : ℕ) (flag : Bool) → m ≢ n → entry places x ≡ on m flag → x ≢ b.0
  not_taken x m flag apart there e = apart (ap (λ p. p.0.0) (same_Some _ _ (sym there ∙ ap (entry places) e ∙ taken.placed)))

  chain_before : IsChain (entry links) (entry places) n (entry heads n) ((b, taken.barrier) ∷ taken.rest)
  chain_before = subst (IsChain (entry links) (entry places) n (entry heads n)) taken.splits (h.queues n).chain

  rest_is : drop 1 (get_or lists n []) ≡ taken.rest
  rest_is = ap (drop 1) taken.splits

  chain_after : IsChain (entry links) (entry (set places b.0 None)) n (entry links b.0) taken.rest
  chain_after =
      chain_same (entry links) (entry places) (entry links) (entry (set places b.0 None)) n (entry links b.0) taken.rest chain_before.2
      (λ x flag found. (
        refl,
        place_kept x (λ e. none-some flag (sym (once_in_chain (entry links) (entry places) n (entry heads n) (b, taken.barrier) taken.rest chain_before)
            ∙ ap (λ y. barrier_in y taken.rest) (sym e) ∙ found)),
      ))

  queue_rest : IsQueue links (set places b.0 None) n (entry links b.0) (last_at lasts n) (drop 1 (get_or lists n []))
  queue_rest = record {
    chain = rw rest_is chain_after;
    last = last_rest (last_at lasts n) (get_or lists n []) (h.queues n).last;
    few =
        let long : length (get_or lists n []) ≡ suc (length taken.rest) = ap length taken.splits in
        let rest : length (drop 1 (get_or lists n [])) ≡ length taken.rest = ap length rest_is in
        omega (arith, long, rest, (h.queues n).few, taken_here places b.0 n taken.barrier taken_within taken.placed);
  }

  queue_elsewhere : (m : ℕ) → m ≢ n → IsQueue links (set places b.0 None) m (entry heads m) (last_at lasts m) (get_or lists m [])
  queue_elsewhere m ne =
      untouched links places links (set places b.0 None) m (entry heads m) (last_at lasts m) (get_or lists m []) (h.queues m)
      (λ x flag there. (refl, place_kept x (not_taken x m flag ne there)))
      (let same = taken_elsewhere places b.0 n m taken.barrier taken_within (λ e. ne (sym e)) taken.placed in omega (arith, same))

  list_after : get_or (set lists n (drop 1 (get_or lists n []))) n [] ≡ drop 1 (get_or lists n [])
  list_after = get_or-set_same lists n (drop 1 (get_or lists n [])) [] node

  list_kept : (m : ℕ) → m ≢ n → get_or (set lists n (drop 1 (get_or lists n []))) m [] ≡ get_or lists m []
  list_kept m ne = get_or-set_other lists n m (drop 1 (get_or lists n [])) [] ne

  head_after : entry (set heads n (entry links b.0)) n ≡ entry links b.0
  head_after = get_or-set_same heads n (entry links b.0) None (omega (arith, node, h.heads_long))

  head_kept : (m : ℕ) → m ≢ n → entry (set heads n (entry links b.0)) m ≡ entry heads m
  head_kept m ne = get_or-set_other heads n m (entry links b.0) None ne

  -- another block that waits is found where it was
  found_kept : (x m : ℕ) (flag : Bool) → x ≢ b.0 → entry places x ≡ on m flag
      → barrier_in x (get_or (set lists n (drop 1 (get_or lists n []))) m []) ≡ Some flag
  found_kept x m flag ne there =
      elim (cases_eq m n) [
        | inl at ↦
            rw (at, list_after, rest_is)
            (sym (barrier_in_later x (b, taken.barrier) taken.rest (λ e. ne (sym e)))
            ∙ ap (barrier_in x) (sym taken.splits) ∙ subst (λ k. barrier_in x (get_or lists k []) ≡ Some flag) at (h.found x m flag there))
        | inr apart ↦ ap (barrier_in x) (list_kept m apart) ∙ h.found x m flag there
      ]

  -- the arrays hold the rest of the list
  pub hold_rest : Hold links (set places b.0 None) (set heads n (entry links b.0)) lasts (set lists n (drop 1 (get_or lists n [])))
  hold_rest = record {
    places_long = length-set places b.0 None ∙ h.places_long;
    heads_long = length-set heads n (entry links b.0) ∙ h.heads_long ∙ sym (length-set lists n (drop 1 (get_or lists n [])));
    lasts_long = h.lasts_long ∙ sym (length-set lists n (drop 1 (get_or lists n [])));
    queues = λ m. elim (cases_eq m n) [
      | inl at ↦ rw (at, list_after, head_after) queue_rest
      | inr apart ↦ rw (list_kept m apart, head_kept m apart) (queue_elsewhere m apart)
    ];
    found = λ x m flag there.
        found_kept x m flag (λ e. none-some _ (sym place_gone ∙ ap (entry (set places b.0 None)) (sym e) ∙ there))
        (let ne : x ≢ b.0 = λ e. none-some _ (sym place_gone ∙ ap (entry (set places b.0 None)) (sym e) ∙ there) in sym (place_kept x ne) ∙ there);
  }
