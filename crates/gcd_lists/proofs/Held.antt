-- What the arrays tell of the lists that they hold.
use Rattle.std.proofs.Common.{◌≡◌, ℕ, ◌≤◌, ◌<◌, Bool, List, [], ◌∷◌, length, get_or, Option, Some, None, refl, ap, sym, ◌∙◌, subst, inl, inr, arith}
use Rattle.std.proofs.lemmas.Bool.{cases_lt}
use Rattle.std.proofs.lemmas.List.{length-map, get_or-map, get_or_past, ext_get_or}
use Rattle.std.proofs.lemmas.List.Sums.{count_by-le-length}
use Rattle.std.proofs.lemmas.Option.{none-some, same_Some}
use Rattle.gcd_plan.specs.declared.numbers.Blk.{Blk}
use Rattle.gcd_plan.specs.declared.numbers.Obj.{Obj}
use Rattle.gcd_lists.specs.ListsView.{ListsView, barrier_in, place_of}
use Rattle.gcd_lists.specs.Links.{Hold, AreLinked, IsChain, IsLast, entry, walk, is_on, lists_of, view_of, last_at, on}
use Rattle.gcd_lists.proofs.Places.{place_of_is}
use Rattle.gcd_lists.proofs.Chains.{walk_is, place_in_chain, last_in_chain}

-- where something stands, the array reaches
pub entry_within : {X : Type 0} → (xs : List (Option X)) (i : ℕ) (x : X) → entry xs i ≡ Some x → i < length xs
entry_within xs i x is =
    elim (cases_lt i (length xs)) [
      | inl lt ↦ lt
      | inr past ↦ absurd (none-some x (sym (get_or_past xs i None past) ∙ is))
    ]

-- the first of a list
pub record First (places : List (Option (Obj × Bool))) (node : ℕ) (b : Blk) (ws : List (Blk × Bool)) : Type 0 where
  pub barrier : Bool
  pub rest : List (Blk × Bool)
  pub splits : ws ≡ (b, barrier) ∷ rest
  pub placed : entry places b.0 ≡ on node barrier

module _ (links : List (Option Blk)) (places : List (Option (Obj × Bool))) (heads : List (Option Blk)) (lasts : List Blk)
    (lists : List (List (Blk × Bool))) (h : Hold links places heads lasts lists) where
  -- no list has more blocks than there are
  pub list_short : (n : ℕ) → length (get_or lists n []) ≤ length links
  list_short n = omega (arith, (h.queues n).few, count_by-le-length (is_on n) places, h.places_long)

  -- the lists that the arrays are seen as are those that they hold
  pub lists_seen : lists_of links places heads ≡ lists
  lists_seen =
      let long : length (lists_of links places heads) ≡ length heads = length-map heads (walk (entry links) (entry places) (length links)) in
      ext_get_or [] (lists_of links places heads) lists (long ∙ h.heads_long)
      (λ i lt.
      let within : i < length heads = omega (arith, lt, long) in
      get_or-map (walk (entry links) (entry places) (length links)) heads i None [] within
      ∙ walk_is (entry links) (entry places) i (length links) (entry heads i) (get_or lists i []) (h.queues i).chain (list_short i))

  -- the place of a block is told by the lists
  pub place_seen : (view : ListsView) → view.lists ≡ lists → (b : ℕ) → place_of view b ≡ entry places b
  place_seen view same b =
      place_of_is view b (entry places b)
      (λ n barrier found.
      place_in_chain (entry links) (entry places) n b (entry heads n) (get_or lists n []) barrier (h.queues n).chain
      (subst (λ xs. barrier_in b (get_or xs n []) ≡ Some barrier) same found))
      (λ n barrier is. subst (λ xs. barrier_in b (get_or xs n []) ≡ Some barrier) (sym same) (h.found b n barrier is))

  -- where nothing is at the head, the list is empty
  pub none_first : (n : ℕ) → entry heads n ≡ None → get_or lists n [] ≡ []
  none_first n none = empty (get_or lists n []) (h.queues n).chain
    where
      empty : (ws : List (Blk × Bool)) → IsChain (entry links) (entry places) n (entry heads n) ws → ws ≡ []
      empty [] chain = refl
      empty (w ∷ ws) chain = absurd (none-some w.0 (sym none ∙ chain.0))

  -- a block at the head is the first of the list
  pub some_first : (n : ℕ) (b : Blk) → entry heads n ≡ Some b → First places n b (get_or lists n [])
  some_first n b some = first (get_or lists n []) (h.queues n).chain
    where
      first : (ws : List (Blk × Bool)) → IsChain (entry links) (entry places) n (entry heads n) ws → First places n b ws
      first [] chain = absurd (none-some b (sym chain ∙ some))
      first (w ∷ ws) chain =
          let same : w.0 ≡ b = same_Some w.0 b (sym chain.0 ∙ some) in
          record {
            barrier = w.1;
            rest = ws;
            splits = ap (λ x. (x, w.1) ∷ ws) same;
            placed = ap (λ x. entry places x.0) (sym same) ∙ chain.1;
          }

  -- behind a block that waits, the last of the list waits
  pub some_last : (n : ℕ) (b : Blk) → entry heads n ≡ Some b
      → (barrier : Bool) × (entry places (last_at lasts n).0 ≡ on n barrier)
      × (entry links (last_at lasts n).0 ≡ None)
  some_last n b some = last (get_or lists n []) (h.queues n).chain (h.queues n).last
    where
      last : (ws : List (Blk × Bool)) → IsChain (entry links) (entry places) n (entry heads n) ws → IsLast (last_at lasts n) ws
          → (barrier : Bool) × (entry places (last_at lasts n).0 ≡ on n barrier)
          × (entry links (last_at lasts n).0 ≡ None)
      last [] chain end = absurd (none-some b (sym chain ∙ some))
      last (w ∷ ws) chain end = last_in_chain (entry links) (entry places) n (last_at lasts n) (entry heads n) w ws chain end

  -- the view of the arrays
  pub view_is : view_of links places heads ≡ record { lists = lists; blocks = length links }
  view_is = ap (λ xs. record { lists = xs; blocks = length links }) lists_seen

  -- the arrays hold what they are seen as
  pub linked : AreLinked links places heads lasts
  linked = subst (Hold links places heads lasts) (sym lists_seen) h
