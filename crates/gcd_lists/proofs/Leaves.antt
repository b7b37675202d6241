-- A block leaves its list, wherever it stands there.
use Rattle.std.proofs.Common.{◌≡◌, ◌≢◌, ℕ, ◌+◌, ◌≤◌, ◌<◌, ◌==◌, Bool, cond, List, [], ◌∷◌, length, get_or, set, drop, Option, Some, None, refl, ap, sym, ◌∙◌, subst, inl, inr, arith}
use Rattle.std.proofs.lemmas.Bool.{cases_eq, eq-eqb, ne_eqb}
use Rattle.std.proofs.lemmas.List.{get_or-set_same, get_or-set_other, length-set}
use Rattle.std.proofs.lemmas.Option.{none-some, same_Some}
use Rattle.gcd_plan.specs.declared.numbers.Blk.{Blk}
use Rattle.gcd_plan.specs.declared.numbers.Obj.{Obj}
use Rattle.gcd_plan.proofs.Numbered.{same_blk}
use Rattle.gcd_lists.specs.ListsView.{barrier_in, without}
use Rattle.gcd_lists.specs.Links.{Hold, IsQueue, IsChain, IsLast, AreBacked, before_in, entry, last_at, on}
use Rattle.gcd_lists.proofs.Places.{barrier_in_here, barrier_in_later}
use Rattle.gcd_lists.proofs.Chains.{once_in_chain, chain_same}
use Rattle.gcd_lists.proofs.Changes.{untouched, taken_here, taken_elsewhere}
use Rattle.gcd_lists.proofs.Backs.{still_waits}
use Rattle.gcd_lists.proofs.Held.{entry_within}

-- ## A list without a block

pub without_here : (b : ℕ) (w : Blk × Bool) (ws : List (Blk × Bool)) → w.0.0 ≡ b → without b (w ∷ ws) ≡ without b ws
without_here b w ws e = ap (λ c. cond c (without b ws) (w ∷ without b ws)) (eq-eqb w.0.0 b e)

pub without_later : (b : ℕ) (w : Blk × Bool) (ws : List (Blk × Bool)) → w.0.0 ≢ b → without b (w ∷ ws) ≡ w ∷ without b ws
without_later b w ws ne = ap (λ c. cond c (without b ws) (w ∷ without b ws)) (ne_eqb w.0.0 b ne)

-- another block is in it as before
pub barrier_without : (c b : ℕ) (ws : List (Blk × Bool)) → c ≢ b → barrier_in c (without b ws) ≡ barrier_in c ws
barrier_without c b [] ne = refl
barrier_without c b (w ∷ ws) ne =
    elim (cases_eq w.0.0 b) [
      | inl e ↦
          ap (barrier_in c) (without_here b w ws e) ∙ barrier_without c b ws ne ∙ sym (barrier_in_later c w ws (λ same. ne (sym same ∙ e)))
      | inr other ↦
          ap (barrier_in c) (without_later b w ws other) ∙ ap (cond (w.0.0 == c) (Some w.1)) (barrier_without c b ws ne)
    ]

-- without a block that is not there
pub without_none : (b : ℕ) (ws : List (Blk × Bool)) → barrier_in b ws ≡ None → without b ws ≡ ws
without_none b [] none = refl
without_none b (w ∷ ws) none =
    elim (cases_eq w.0.0 b) [
      | inl e ↦ absurd (none-some w.1 (sym none ∙ barrier_in_here b w ws e))
      | inr other ↦ without_later b w ws other ∙ ap (λ rest. w ∷ rest) (without_none b ws (sym (barrier_in_later b w ws other) ∙ none))
    ]

without_short : (b : ℕ) (ws : List (Blk × Bool)) → length (without b ws) ≤ length ws
without_short b [] = omega arith
without_short b (w ∷ ws) =
    let rest = without_short b ws in
    elim (cases_eq w.0.0 b) [
      | inl e ↦ let is = ap length (without_here b w ws e) in omega (arith, is, rest)
      | inr other ↦ let is = ap length (without_later b w ws other) in omega (arith, is, rest)
    ]

without_shorter : (b : ℕ) (ws : List (Blk × Bool)) (flag : Bool) → barrier_in b ws ≡ Some flag → length (without b ws) + 1 ≤ length ws
without_shorter b [] flag found = absurd (none-some flag found)
without_shorter b (w ∷ ws) flag found =
    elim (cases_eq w.0.0 b) [
      | inl e ↦ let is = ap length (without_here b w ws e) in omega (arith, is, without_short b ws)
      | inr other ↦
          let is = ap length (without_later b w ws other) in
          omega (arith, is, without_shorter b ws flag (sym (barrier_in_later b w ws other) ∙ found))
    ]

-- ## Chains

module _ (next : ℕ → Option Blk) (place : ℕ → Option (Obj × Bool)) (node : ℕ) where
  -- the block before another leads to it
  pub before_leads : (b : ℕ) (at : Option Blk) (ws : List (Blk × Bool)) (a : Blk) → IsChain next place node at ws → before_in b ws ≡ Some a
      → (flag : Bool) × (place a.0 ≡ on node flag) × (next a.0 ≡ Some (record { 0 = b }))
  before_leads b at [] a chain before = absurd (none-some a before)
  before_leads b at (w ∷ []) a chain before = absurd (none-some a before)
  before_leads b at (w ∷ v ∷ ws) a chain before =
      elim (cases_eq v.0.0 b) [
        | inl e ↦
            let is : w.0 ≡ a = same_Some w.0 a (sym (ap (λ c. cond c (Some w.0) (before_in b (v ∷ ws))) (eq-eqb v.0.0 b e)) ∙ before) in
            (w.1, ap (λ (x : Blk). place x.0) (sym is) ∙ chain.1, ap (λ (x : Blk). next x.0) (sym is) ∙ chain.2.0 ∙ ap Some (same_blk v.0 (record { 0 = b }) e))
        | inr ne ↦
            before_leads b (next w.0.0) (v ∷ ws) a chain.2 (sym (ap (λ c. cond c (Some w.0) (before_in b (v ∷ ws))) (ne_eqb v.0.0 b ne)) ∙ before)
      ]

  -- a block that is not there has none before it
  pub before_none : (b : ℕ) (w : Blk × Bool) (ws : List (Blk × Bool)) → barrier_in b ws ≡ None → before_in b (w ∷ ws) ≡ None
  before_none b w [] none = refl
  before_none b w (v ∷ ws) none =
      elim (cases_eq v.0.0 b) [
        | inl e ↦ absurd (none-some v.1 (sym none ∙ barrier_in_here b v ws e))
        | inr ne ↦
            ap (λ c. cond c (Some w.0) (before_in b (v ∷ ws))) (ne_eqb v.0.0 b ne)
            ∙ before_none b v ws (sym (barrier_in_later b v ws ne) ∙ none)
      ]

  -- a block that is there and not first has one before it
  pub before_some : (b : ℕ) (at : Option Blk) (ws : List (Blk × Bool)) (flag : Bool) → IsChain next place node at ws
      → barrier_in b ws ≡ Some flag → at ≢ Some (record { 0 = b }) → (a : Blk) × (before_in b ws ≡ Some a)
  before_some b at [] flag chain found later = absurd (none-some flag found)
  before_some b at (w ∷ []) flag chain found later =
      absurd (none-some flag (sym (barrier_in_later b w [] (λ e. later (chain.0 ∙ ap Some (same_blk w.0 (record { 0 = b }) e)))) ∙ found))
  before_some b at (w ∷ v ∷ ws) flag chain found later =
      elim (cases_eq v.0.0 b) [
        | inl e ↦ (w.0, ap (λ c. cond c (Some w.0) (before_in b (v ∷ ws))) (eq-eqb v.0.0 b e))
        | inr ne ↦
            let rest = before_some b (next w.0.0) (v ∷ ws) flag chain.2
            (sym (barrier_in_later b w (v ∷ ws) (λ e. later (chain.0 ∙ ap Some (same_blk w.0 (record { 0 = b }) e)))) ∙ found)
            (λ is. ne (ap (λ (x : Blk). x.0) (same_Some v.0 (record { 0 = b }) (sym chain.2.0 ∙ is)))) in
            (rest.0, ap (λ c. cond c (Some w.0) (before_in b (v ∷ ws))) (ne_eqb v.0.0 b ne) ∙ rest.1)
      ]

  -- a block that has none before it is the first
  pub first_of_none : (b : ℕ) (at : Option Blk) (ws : List (Blk × Bool)) (flag : Bool) → IsChain next place node at ws
      → barrier_in b ws ≡ Some flag → before_in b ws ≡ None → at ≡ Some (record { 0 = b })
  first_of_none b at [] flag chain found none = absurd (none-some flag found)
  first_of_none b at (w ∷ ws) flag chain found none =
      elim (cases_eq w.0.0 b) [
        | inl e ↦ chain.0 ∙ ap Some (same_blk w.0 (record { 0 = b }) e)
        | inr ne ↦
            let one = before_some b at (w ∷ ws) flag chain found (λ is. ne (ap (λ (x : Blk). x.0) (same_Some w.0 (record { 0 = b }) (sym chain.0 ∙ is)))) in
            absurd (none-some one.0 (sym none ∙ one.1))
      ]

  -- without the first of a chain
  pub without_first : (b : ℕ) (at : Option Blk) (ws : List (Blk × Bool)) → IsChain next place node at ws → at ≡ Some (record { 0 = b })
      → without b ws ≡ drop 1 ws
  without_first b at [] chain is = refl
  without_first b at (w ∷ ws) chain is =
      let e : w.0.0 ≡ b = ap (λ (x : Blk). x.0) (same_Some w.0 (record { 0 = b }) (sym chain.0 ∙ is)) in
      without_here b w ws e ∙ without_none b ws (ap (λ n. barrier_in n ws) (sym e) ∙ once_in_chain next place node at w ws chain)

  -- the block that has none behind it is the last
  pub end_is_last : (at : Option Blk) (ws : List (Blk × Bool)) (end : Blk) (flag : Bool) → IsChain next place node at ws
      → barrier_in end.0 ws ≡ Some flag → next end.0 ≡ None → IsLast end ws
  end_is_last at [] end flag chain found ends = absurd (none-some flag found)
  end_is_last at (w ∷ []) end flag chain found ends =
      elim (cases_eq w.0.0 end.0) [
        | inl e ↦ same_blk end w.0 (sym e)
        | inr ne ↦ absurd (none-some flag (sym (barrier_in_later end.0 w [] ne) ∙ found))
      ]
  end_is_last at (w ∷ v ∷ ws) end flag chain found ends =
      elim (cases_eq w.0.0 end.0) [
        | inl e ↦ absurd (none-some v.0 (sym ends ∙ ap next (sym e) ∙ chain.2.0))
        | inr ne ↦ end_is_last (next w.0.0) (v ∷ ws) end flag chain.2 (sym (barrier_in_later end.0 w (v ∷ ws) ne) ∙ found) ends
      ]

-- what block b, which stands behind block a, changes as it leaves: the link of a, and its own place
pub record Leaves (next : ℕ → Option Blk) (place : ℕ → Option (Obj × Bool)) (next' : ℕ → Option Blk) (place' : ℕ → Option (Obj × Bool))
    (node : ℕ) (a b : Blk) : Type 0 where
  pub leads : next a.0 ≡ Some b
  pub alone : (x : ℕ) (flag : Bool) → place x ≡ on node flag → next x ≡ Some b → x ≡ a.0
  pub linked : next' a.0 ≡ next b.0
  pub others : (x : ℕ) → x ≢ a.0 → next' x ≡ next x
  pub places : (x : ℕ) → x ≢ b.0 → place' x ≡ place x

module _ (next : ℕ → Option Blk) (place : ℕ → Option (Obj × Bool)) (next' : ℕ → Option Blk) (place' : ℕ → Option (Obj × Bool))
    (node : ℕ) (a b : Blk) (l : Leaves next place next' place' node a b) where
  -- what stands behind block a, which leads to b
  chain_past : (w : Blk × Bool) (ws : List (Blk × Bool)) → w.0.0 ≡ a.0 → barrier_in w.0.0 ws ≡ None → IsChain next place node (next w.0.0) ws
      → IsChain next' place' node (next' w.0.0) (without b.0 ws)
  chain_past w [] is once chain = absurd (none-some b (sym chain ∙ ap next is ∙ l.leads))
  chain_past w (v ∷ vs) is once chain =
      let e : v.0.0 ≡ b.0 = ap (λ (x : Blk). x.0) (same_Some v.0 b (sym chain.0 ∙ ap next is ∙ l.leads)) in
      let gone : barrier_in v.0.0 vs ≡ None = once_in_chain next place node (next w.0.0) v vs chain in
      let rest : without b.0 (v ∷ vs) ≡ vs = without_here b.0 v vs e ∙ without_none b.0 vs (ap (λ n. barrier_in n vs) (sym e) ∙ gone) in
      let from : next' w.0.0 ≡ next v.0.0 = ap next' is ∙ l.linked ∙ ap next (sym e) in
      rw (rest, from)
      (chain_same next place next' place' node (next v.0.0) vs chain.2
      (λ x flag found. (
        l.others x
            (λ here. none-some flag (sym (ap (λ n. barrier_in n (v ∷ vs)) (here ∙ sym is) ∙ once) ∙ barrier_in_later x v vs (λ same. none-some flag (sym (ap (λ n. barrier_in n vs) (sym same) ∙ gone) ∙ found)) ∙ found)),
        l.places x (λ here. none-some flag (sym (ap (λ n. barrier_in n vs) (here ∙ sym e) ∙ gone) ∙ found)),
      )))

  -- the chain without the block that leaves
  pub chain_without : (at : Option Blk) (ws : List (Blk × Bool)) → IsChain next place node at ws → at ≢ Some b
      → IsChain next' place' node at (without b.0 ws)
  chain_without at [] chain later = chain
  chain_without at (w ∷ ws) chain later =
      let apart : w.0.0 ≢ b.0 = λ e. later (chain.0 ∙ ap Some (same_blk w.0 b e)) in
      rw (without_later b.0 w ws apart) (
        chain.0,
        l.places w.0.0 apart ∙ chain.1,
        elim (cases_eq w.0.0 a.0) [
          | inl is ↦ chain_past w ws is (once_in_chain next place node at w ws chain) chain.2
          | inr ne ↦
              rw (l.others w.0.0 ne) (chain_without (next w.0.0) ws chain.2 (λ leads. ne (l.alone w.0.0 w.1 chain.1 leads)))
        ],
      )

-- ## The arrays

-- block b, which stands behind block a in the list of node n, leaves it
module _ (links : List (Option Blk)) (befores : List (Option Blk)) (places : List (Option (Obj × Bool))) (heads : List (Option Blk))
    (lasts : List Blk) (lists : List (List (Blk × Bool))) (n : ℕ) (a b : Blk) (flag : Bool) (h : Hold links places heads lasts lists)
    (backed : AreBacked links befores places) (node : n < length lists) (there : entry places b.0 ≡ on n flag)
    (before : before_in b.0 (get_or lists n []) ≡ Some a) where
  -- block a waits there and leads to b
  pub leads : (flag : Bool) × (entry places a.0 ≡ on n flag) × (entry links a.0 ≡ Some b)
  leads = before_leads (entry links) (entry places) n b.0 (entry heads n) (get_or lists n []) a (h.queues n).chain before

  within : b.0 < length places
  within = entry_within places b.0 _ there

  pub a_within : a.0 < length links
  a_within = entry_within links a.0 _ leads.2

  -- and no other leads to b
  alone : (x m : ℕ) (barrier : Bool) → entry places x ≡ on m barrier → entry links x ≡ Some b → x ≡ a.0
  alone x m barrier waits to =
      ap (λ (y : Blk). y.0) (same_Some _ _ (sym (backed x m barrier b waits to) ∙ backed a.0 n leads.0 b leads.1 leads.2))

  leaves : Leaves (entry links) (entry places) (entry (set links a.0 (entry links b.0))) (entry (set places b.0 None)) n a b
  leaves = record {
    leads = leads.2;
    alone = λ x barrier. alone x n barrier;
    linked = get_or-set_same links a.0 (entry links b.0) None a_within;
    others = λ x ne. get_or-set_other links a.0 x (entry links b.0) None ne;
    places = λ x ne. get_or-set_other places b.0 x None None ne;
  }

  -- b is not the first
  not_first : entry heads n ≢ Some b
  not_first is = first (get_or lists n []) (h.queues n).chain before
    where
      first : (ws : List (Blk × Bool)) → IsChain (entry links) (entry places) n (entry heads n) ws → before_in b.0 ws ≡ Some a → ⊥
      first [] chain e = none-some a e
      first (w ∷ ws) chain e =
          let same : w.0.0 ≡ b.0 = ap (λ (x : Blk). x.0) (same_Some w.0 b (sym chain.0 ∙ is)) in
          none-some a (sym (before_none (entry links) (entry places) n b.0 w ws
          (ap (λ k. barrier_in k ws) (sym same) ∙ once_in_chain (entry links) (entry places) n (entry heads n) w ws chain)) ∙ e)

  -- a and b are two
  pub apart : a.0 ≢ b.0
  apart e = ahead (get_or lists n []) (entry heads n) (h.queues n).chain (h.found b.0 n flag there)
    where
      ahead : (ws : List (Blk × Bool)) (at : Option Blk) → IsChain (entry links) (entry places) n at ws → barrier_in b.0 ws ≡ Some flag → ⊥
      ahead [] at chain found = none-some flag found
      ahead (w ∷ []) at chain found =
          elim (cases_eq w.0.0 b.0) [
            | inl here ↦ none-some b (sym chain.2 ∙ ap (entry links) (here ∙ sym e) ∙ leads.2)
            | inr ne ↦ none-some flag (sym (barrier_in_later b.0 w [] ne) ∙ found)
          ]
      ahead (w ∷ v ∷ ws) at chain found =
          elim (cases_eq w.0.0 b.0) [
            | inl here ↦
                let next : v.0.0 ≡ b.0 = ap (λ (x : Blk). x.0) (same_Some v.0 b (sym chain.2.0 ∙ ap (entry links) (here ∙ sym e) ∙ leads.2)) in
                none-some v.1 (sym (once_in_chain (entry links) (entry places) n at w (v ∷ ws) chain) ∙ barrier_in_here w.0.0 v ws (next ∙ sym here))
            | inr ne ↦ ahead (v ∷ ws) (entry links w.0.0) chain.2 (sym (barrier_in_later b.0 w (v ∷ ws) ne) ∙ found)
          ]

  -- the block that is last then: its link leads nowhere
  pub record Ends (end : Blk) : Type 0 where
    pub barrier : Bool
    pub waits : entry places end.0 ≡ on n barrier
    pub other : end.0 ≢ b.0
    pub ends : entry (set links a.0 (entry links b.0)) end.0 ≡ None

  pub hold_without : (lasts' : List Blk) → length lasts' ≡ length lasts → ((m : ℕ) → m ≢ n → last_at lasts' m ≡ last_at lasts m)
      → Ends (last_at lasts' n)
      → Hold (set links a.0 (entry links b.0)) (set places b.0 None) heads lasts' (set lists n (without b.0 (get_or lists n [])))
  hold_without lasts' long same ends = record {
    places_long = length-set places b.0 None ∙ h.places_long ∙ sym (length-set links a.0 (entry links b.0));
    heads_long = h.heads_long ∙ sym list_long;
    lasts_long = long ∙ h.lasts_long ∙ sym list_long;
    queues = λ m. elim (cases_eq m n) [ inl at ↦ rw (at, list_after) queue_here | inr ne ↦ rw (list_kept m ne, same m ne) (queue_elsewhere m ne) ];
    found = λ x m barrier waits.
        let old = still_waits places b.0 x m barrier within waits in
        elim (cases_eq m n) [
          | inl at ↦
              rw (at, list_after)
              (barrier_without x b.0 (get_or lists n []) old.0 ∙ subst (λ k. barrier_in x (get_or lists k []) ≡ Some barrier) at (h.found x m barrier old.1))
          | inr ne ↦ ap (barrier_in x) (list_kept m ne) ∙ h.found x m barrier old.1
        ];
  }
    where
      list_long : length (set lists n (without b.0 (get_or lists n []))) ≡ length lists
      list_long = length-set lists n (without b.0 (get_or lists n []))

      list_after : get_or (set lists n (without b.0 (get_or lists n []))) n [] ≡ without b.0 (get_or lists n [])
      list_after = get_or-set_same lists n (without b.0 (get_or lists n [])) [] node

      list_kept : (m : ℕ) → m ≢ n → get_or (set lists n (without b.0 (get_or lists n []))) m [] ≡ get_or lists m []
      list_kept m ne = get_or-set_other lists n m (without b.0 (get_or lists n [])) [] ne

      chain_here : IsChain (entry (set links a.0 (entry links b.0))) (entry (set places b.0 None)) n (entry heads n) (without b.0 (get_or lists n []))
      chain_here = chain_without (entry links) (entry places) (entry (set links a.0 (entry links b.0))) (entry (set places b.0 None)) n a b leaves
          (entry heads n) (get_or lists n []) (h.queues n).chain not_first

      queue_here : IsQueue (set links a.0 (entry links b.0)) (set places b.0 None) n (entry heads n) (last_at lasts' n) (without b.0 (get_or lists n []))
      queue_here = record {
        chain = chain_here;
        last = end_is_last (entry (set links a.0 (entry links b.0))) (entry (set places b.0 None)) n (entry heads n) (without b.0 (get_or lists n []))
            (last_at lasts' n) ends.barrier chain_here
            (barrier_without (last_at lasts' n).0 b.0 (get_or lists n []) ends.other ∙ h.found (last_at lasts' n).0 n ends.barrier ends.waits) ends.ends;
        few =
            let less = without_shorter b.0 (get_or lists n []) flag (h.found b.0 n flag there) in
            omega (arith, less, (h.queues n).few, taken_here places b.0 n flag within there);
      }

      queue_elsewhere : (m : ℕ) → m ≢ n → IsQueue (set links a.0 (entry links b.0)) (set places b.0 None) m (entry heads m) (last_at lasts m) (get_or lists m [])
      queue_elsewhere m ne =
          untouched links places (set links a.0 (entry links b.0)) (set places b.0 None) m (entry heads m) (last_at lasts m) (get_or lists m []) (h.queues m)
          (λ x barrier waits. (
            get_or-set_other links a.0 x (entry links b.0) None (λ e. ne (ap (λ p. p.0.0) (same_Some _ _ (sym waits ∙ ap (entry places) e ∙ leads.1)))),
            get_or-set_other places b.0 x None None (λ e. ne (ap (λ p. p.0.0) (same_Some _ _ (sym waits ∙ ap (entry places) e ∙ there)))),
          ))
          (let left = taken_elsewhere places b.0 n m flag within (λ e. ne (sym e)) there in omega (arith, left))

  -- where b was the last, a is the last
  pub ends_before : entry links b.0 ≡ None → Ends a
  ends_before none = record {
    barrier = leads.0;
    waits = leads.1;
    other = apart;
    ends = get_or-set_same links a.0 (entry links b.0) None a_within ∙ none;
  }

  -- where another stands behind b, the last stays
  pub ends_still : (behind end : Blk) (barrier : Bool) → entry links b.0 ≡ Some behind → entry places end.0 ≡ on n barrier → entry links end.0 ≡ None → Ends end
  ends_still behind end barrier some waits none = record {
    barrier = barrier;
    waits = waits;
    other = λ e. none-some behind (sym none ∙ ap (entry links) e ∙ some);
    ends =
        get_or-set_other links a.0 end.0 (entry links b.0) None (λ e. none-some b (sym none ∙ ap (entry links) e ∙ leads.2)) ∙ none;
  }

  -- the links back, where b was the last
  pub backed_before : entry links b.0 ≡ None → AreBacked (set links a.0 (entry links b.0)) befores (set places b.0 None)
  backed_before none x m barrier behind waits to =
      let old = still_waits places b.0 x m barrier within waits in
      elim (cases_eq x a.0) [
        | inl e ↦
            absurd (none-some behind (sym (ap (entry (set links a.0 (entry links b.0))) e ∙ get_or-set_same links a.0 (entry links b.0) None a_within ∙ none) ∙ to))
        | inr ne ↦ backed x m barrier behind old.1 (sym (get_or-set_other links a.0 x (entry links b.0) None ne) ∙ to)
      ]

  -- and where another stands behind it
  pub backed_past : (next : Blk) → entry links b.0 ≡ Some next → next.0 < length befores
      → AreBacked (set links a.0 (entry links b.0)) (set befores next.0 (Some a)) (set places b.0 None)
  backed_past next some reach x m barrier behind waits to =
      let old = still_waits places b.0 x m barrier within waits in
      elim (cases_eq x a.0) [
        | inl e ↦
            let is : next ≡ behind = same_Some next behind
            (sym some ∙ sym (ap (entry (set links a.0 (entry links b.0))) e ∙ get_or-set_same links a.0 (entry links b.0) None a_within) ∙ to) in
            ap (λ (y : Blk). entry (set befores next.0 (Some a)) y.0) (sym is) ∙ get_or-set_same befores next.0 (Some a) None reach
            ∙ ap Some (same_blk a (record { 0 = x }) (sym e))
        | inr ne ↦
            let link : entry links x ≡ Some behind = sym (get_or-set_other links a.0 x (entry links b.0) None ne) ∙ to in
            let back = backed x m barrier behind old.1 link in
            get_or-set_other befores next.0 behind.0 (Some a) None
            (λ e. old.0 (ap (λ (y : Blk). y.0) (same_Some _ _ (sym back ∙ ap (entry befores) e ∙ backed b.0 n flag next there some))))
            ∙ back
      ]
