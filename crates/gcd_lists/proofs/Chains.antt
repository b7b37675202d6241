-- Chains of links.
use Rattle.std.proofs.Common.{◌≡◌, ◌≢◌, ℕ, zero, suc, ◌≤◌, ◌<◌, Bool, false, List, [], ◌∷◌, ◌++◌, length, drop, Option, Some, None, refl, ap, sym, ◌∙◌, subst, inl, inr, arith}
use Rattle.std.specs.Option.{option_map_or}
use Rattle.std.proofs.lemmas.Bool.{cases_eq}
use Rattle.std.proofs.lemmas.Option.{none-some, same_Some}
use Rattle.gcd_plan.specs.declared.numbers.Blk.{Blk}
use Rattle.gcd_plan.specs.declared.numbers.Obj.{Obj}
use Rattle.gcd_lists.specs.ListsView.{barrier_in}
use Rattle.gcd_lists.specs.Links.{walk, IsChain, IsLast, on}
use Rattle.gcd_lists.proofs.Places.{barrier_in_here, barrier_in_later}

module _ (next : ℕ → Option Blk) (place : ℕ → Option (Obj × Bool)) (node : ℕ) where
  -- a walk goes through the whole chain
  pub walk_is : (bound : ℕ) (at : Option Blk) (ws : List (Blk × Bool)) → IsChain next place node at ws → length ws ≤ bound
      → walk next place bound at ≡ ws
  walk_is zero at [] chain short = refl
  walk_is (suc bound) at [] chain short = ap (walk next place (suc bound)) chain
  walk_is zero at (w ∷ ws) chain short = absurd (omega arith)
  walk_is (suc bound) at (w ∷ ws) chain short =
      ap (walk next place (suc bound)) chain.0
      ∙ ap (λ p. (w.0, option_map_or (λ q. q.1) p false) ∷ walk next place bound (next w.0.0)) chain.1
      ∙ ap (λ rest. w ∷ rest) (walk_is bound (next w.0.0) ws chain.2 (omega arith))

  -- a block of the chain has its place on the node
  pub place_in_chain : (b : ℕ) (at : Option Blk) (ws : List (Blk × Bool)) (barrier : Bool) → IsChain next place node at ws
      → barrier_in b ws ≡ Some barrier → place b ≡ on node barrier
  place_in_chain b at [] barrier chain found = absurd (none-some barrier found)
  place_in_chain b at (w ∷ ws) barrier chain found =
      elim (cases_eq w.0.0 b) [
        | inl e ↦ let flag = same_Some w.1 barrier (sym (barrier_in_here b w ws e) ∙ found) in cc (e, flag, chain.1)
        | inr ne ↦ place_in_chain b (next w.0.0) ws barrier chain.2 (sym (barrier_in_later b w ws ne) ∙ found)
      ]

  -- what is behind a block of the chain is a shorter chain
  pub chain_behind : (b : ℕ) (at : Option Blk) (ws : List (Blk × Bool)) (barrier : Bool) → IsChain next place node at ws
      → barrier_in b ws ≡ Some barrier → (vs : List (Blk × Bool)) × (length vs < length ws) × IsChain next place node (next b) vs
  chain_behind b at [] barrier chain found = absurd (none-some barrier found)
  chain_behind b at (w ∷ ws) barrier chain found =
      elim (cases_eq w.0.0 b) [
        | inl e ↦ (ws, omega arith, subst (λ x. IsChain next place node (next x) ws) e chain.2)
        | inr ne ↦
            let rest = chain_behind b (next w.0.0) ws barrier chain.2 (sym (barrier_in_later b w ws ne) ∙ found) in
            (rest.0, omega (arith, rest.1), rest.2)
      ]

  -- chains from one block are equally long
  pub chains_as_long : (at : Option Blk) (us vs : List (Blk × Bool)) → IsChain next place node at us → IsChain next place node at vs
      → length us ≡ length vs
  chains_as_long at [] [] p q = refl
  chains_as_long at [] (v ∷ vs) p q = absurd (none-some v.0 (sym p ∙ q.0))
  chains_as_long at (u ∷ us) [] p q = absurd (none-some u.0 (sym q ∙ p.0))
  chains_as_long at (u ∷ us) (v ∷ vs) p q =
      let same : u.0 ≡ v.0 = same_Some u.0 v.0 (sym p.0 ∙ q.0) in
      let rest = subst (λ x. IsChain next place node (next x.0) vs) (sym same) q.2 in
      ap suc (chains_as_long (next u.0.0) us vs p.2 rest)

  -- the first block of a chain is not in the rest
  pub once_in_chain : (at : Option Blk) (w : Blk × Bool) (ws : List (Blk × Bool)) → IsChain next place node at (w ∷ ws)
      → barrier_in w.0.0 ws ≡ None
  once_in_chain at w ws chain = once (barrier_in w.0.0 ws) refl
    where
      once : (o : Option Bool) → barrier_in w.0.0 ws ≡ o → o ≡ None
      once None e = refl
      once (Some barrier) e =
          let behind = chain_behind w.0.0 (next w.0.0) ws barrier chain.2 e in
          let long = chains_as_long (next w.0.0) ws behind.0 chain.2 behind.2 in
          absurd (omega (arith, behind.1, long))

  -- the last block of a chain has its place on the node, and no block behind it
  pub last_in_chain : (b : Blk) (at : Option Blk) (w : Blk × Bool) (ws : List (Blk × Bool)) → IsChain next place node at (w ∷ ws)
      → IsLast b (w ∷ ws) → (barrier : Bool) × (place b.0 ≡ on node barrier) × (next b.0 ≡ None)
  last_in_chain b at w [] chain last = (w.1, ap (λ x. place x.0) last ∙ chain.1, ap (λ x. next x.0) last ∙ chain.2)
  last_in_chain b at w (v ∷ ws) chain last = last_in_chain b (next w.0.0) v ws chain.2 last

-- a chain stands where its links and places do
pub chain_same : (next : ℕ → Option Blk) (place : ℕ → Option (Obj × Bool)) (next' : ℕ → Option Blk) (place' : ℕ → Option (Obj × Bool)) (node : ℕ) (at : Option Blk) (ws : List (Blk × Bool)) → IsChain next place node at ws
    → ((b : ℕ) (barrier : Bool) → barrier_in b ws ≡ Some barrier → (next' b ≡ next b) × (place' b ≡ place b))
    → IsChain next' place' node at ws
chain_same next place next' place' node at [] chain same = chain
chain_same next place next' place' node at (w ∷ ws) chain same =
    let here = same w.0.0 w.1 (barrier_in_here w.0.0 w ws refl) in
    let rest = chain_same next place next' place' node (next w.0.0) ws chain.2 (λ b barrier found. later b barrier found) in
    (chain.0, here.1 ∙ chain.1, subst (λ x. IsChain next' place' node x ws) (sym here.0) rest)
  where
    later : (b : ℕ) (barrier : Bool) → barrier_in b ws ≡ Some barrier → (next' b ≡ next b) × (place' b ≡ place b)
    later b barrier found =
        elim (cases_eq w.0.0 b) [
          | inl e ↦ same b w.1 (barrier_in_here b w ws e)
          | inr ne ↦ same b barrier (barrier_in_later b w ws ne ∙ found)
        ]

-- a block behind a list is its last, and the rest of a list has the same last
pub last_pushed : (b : Blk) (barrier : Bool) (ws : List (Blk × Bool)) → IsLast b (ws ++ (b, barrier) ∷ [])
last_pushed b barrier [] = refl
last_pushed b barrier (w ∷ []) = refl
last_pushed b barrier (w ∷ v ∷ ws) = last_pushed b barrier (v ∷ ws)

pub last_rest : (b : Blk) (ws : List (Blk × Bool)) → IsLast b ws → IsLast b (drop 1 ws)
last_rest b [] last = last
last_rest b (w ∷ []) last = tt
last_rest b (w ∷ v ∷ ws) last = last

-- what a new last block b changes: its own link and place, and the link of the block that was last
pub record Appends (next : ℕ → Option Blk) (place : ℕ → Option (Obj × Bool)) (next' : ℕ → Option Blk) (place' : ℕ → Option (Obj × Bool))
    (node : ℕ) (end b : Blk) (barrier : Bool) : Type 0 where
  pub nowhere : place b.0 ≡ None
  pub ended : next end.0 ≡ None
  pub linked : next' end.0 ≡ Some b
  pub ends : next' b.0 ≡ None
  pub others : (c : ℕ) → c ≢ b.0 → c ≢ end.0 → next' c ≡ next c
  pub placed : place' b.0 ≡ on node barrier
  pub places : (c : ℕ) → c ≢ b.0 → place' c ≡ place c

module _ (next : ℕ → Option Blk) (place : ℕ → Option (Obj × Bool)) (next' : ℕ → Option Blk) (place' : ℕ → Option (Obj × Bool))
    (node : ℕ) (end b : Blk) (barrier : Bool) (l : Appends next place next' place' node end b barrier) where
  -- the chain goes on to the new block
  pub chain_pushed : (at : Option Blk) (w : Blk × Bool) (ws : List (Blk × Bool)) → IsChain next place node at (w ∷ ws) → IsLast end (w ∷ ws)
      → IsChain next' place' node at (w ∷ ws ++ (b, barrier) ∷ [])
  chain_pushed at w [] chain last =
      let new : w.0.0 ≢ b.0 = λ e. none-some _ (sym l.nowhere ∙ ap place (sym e) ∙ chain.1) in
      (chain.0, l.places w.0.0 new ∙ chain.1, (ap (λ x. next' x.0) (sym last) ∙ l.linked, l.placed, l.ends))
  chain_pushed at w (v ∷ ws) chain last =
      let new : w.0.0 ≢ b.0 = λ e. none-some _ (sym l.nowhere ∙ ap place (sym e) ∙ chain.1) in
      let before : w.0.0 ≢ end.0 = λ e. none-some v.0 (sym l.ended ∙ ap next (sym e) ∙ chain.2.0) in
      let rest = chain_pushed (next w.0.0) v ws chain.2 last in
      (chain.0, l.places w.0.0 new ∙ chain.1, subst (λ x. IsChain next' place' node x (v ∷ ws ++ (b, barrier) ∷ [])) (sym (l.others w.0.0 new before)) rest)
