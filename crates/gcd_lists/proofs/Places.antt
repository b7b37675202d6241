-- Where a block waits, told from the lists.
use Rattle.std.proofs.Common.{◌≡◌, ◌≢◌, ℕ, zero, suc, ◌+◌, ◌==◌, Bool, true, false, cond, List, [], ◌∷◌, ◌++◌, get_or, Option, Some, None, refl, ap, sym, ◌∙◌, subst, arith, ◌||◌, set, drop, is_some}
use Rattle.std.specs.Option.{option_or, option_map}
use Rattle.std.proofs.lemmas.Bool.{eq-eqb, ne_eqb}
use Rattle.std.proofs.lemmas.Option.{none-some, same_Some}
use Rattle.gcd_plan.specs.declared.numbers.Blk.{Blk}
use Rattle.gcd_plan.specs.declared.numbers.Obj.{Obj}
use Rattle.gcd_lists.specs.ListsView.{ListsView, list_at, barrier_in, place_from, place_of}
use Rattle.std.specs.List.{slice_get}

-- the first of a list is in it
pub barrier_in_here : (b : ℕ) (w : Blk × Bool) (ws : List (Blk × Bool)) → w.0.0 ≡ b → barrier_in b (w ∷ ws) ≡ Some w.1
barrier_in_here b w ws e = ap (λ c. cond c (Some w.1) (barrier_in b ws)) (eq-eqb w.0.0 b e)

-- another block is in the list if it is in the rest
pub barrier_in_later : (b : ℕ) (w : Blk × Bool) (ws : List (Blk × Bool)) → w.0.0 ≢ b → barrier_in b (w ∷ ws) ≡ barrier_in b ws
barrier_in_later b w ws ne = ap (λ c. cond c (Some w.1) (barrier_in b ws)) (ne_eqb w.0.0 b ne)

-- what is found in a list is found in it with more behind it
pub barrier_in_front : (b : ℕ) (ws vs : List (Blk × Bool)) (barrier : Bool) → barrier_in b ws ≡ Some barrier → barrier_in b (ws ++ vs) ≡ Some barrier
barrier_in_front b [] vs barrier found = cc
barrier_in_front b (w ∷ ws) vs barrier found =
    elim (w.0.0 == b) as (λ c. cond c (Some w.1) (barrier_in b ws) ≡ Some barrier → cond c (Some w.1) (barrier_in b (ws ++ vs)) ≡ Some barrier) [
      | true ↦ λ e. e
      | false ↦ λ e. barrier_in_front b ws vs barrier e
    ] found

-- a block that is not in the front of a list is looked for in the rest
pub barrier_in_back : (b : ℕ) (ws vs : List (Blk × Bool)) → barrier_in b ws ≡ None → barrier_in b (ws ++ vs) ≡ barrier_in b vs
barrier_in_back b [] vs none = refl
barrier_in_back b (w ∷ ws) vs none =
    elim (w.0.0 == b) as (λ c. cond c (Some w.1) (barrier_in b ws) ≡ None → cond c (Some w.1) (barrier_in b (ws ++ vs)) ≡ barrier_in b vs) [
      | true ↦ λ e. cc
      | false ↦ λ e. barrier_in_back b ws vs e
    ] none

-- the place tells where block b is in lists that are numbered from some number on: each list that has it is that of the
-- place, and the list of the place has it
pub record Tells (lists : List (List (Blk × Bool))) (from b : ℕ) (place : Option (Obj × Bool)) : Type 0 where
  pub only : (n i : ℕ) (barrier : Bool) → n ≡ from + i → barrier_in b (get_or lists i []) ≡ Some barrier
      → place ≡ Some (record { 0 = n }, barrier)
  pub there : (n : ℕ) (barrier : Bool) → place ≡ Some (record { 0 = n }, barrier)
      → (i : ℕ) × (n ≡ from + i) × (barrier_in b (get_or lists i []) ≡ Some barrier)

-- what is on no node is no place
nowhere_is_none : (place : Option (Obj × Bool)) → ((n : ℕ) (barrier : Bool) → place ≡ Some (record { 0 = n }, barrier) → ⊥) → None ≡ place
nowhere_is_none None never = refl
nowhere_is_none (Some p) never = absurd (never p.0.0 p.1 refl)

-- the place of a block further on, if the first list does not have it
tells_later : (ws : List (Blk × Bool)) (lists : List (List (Blk × Bool))) (from b : ℕ) (place : Option (Obj × Bool))
    → Tells (ws ∷ lists) from b place → barrier_in b ws ≡ None → Tells lists (suc from) b place
tells_later ws lists from b place t none = record {
  only = λ n i barrier at found. t.only n (suc i) barrier (omega arith) found;
  there = λ n barrier is. later n barrier (t.there n barrier is);
}
  where
    later : (n : ℕ) (barrier : Bool) → (i : ℕ) × (n ≡ from + i) × (barrier_in b (get_or (ws ∷ lists) i []) ≡ Some barrier)
        → (i : ℕ) × (n ≡ suc from + i) × (barrier_in b (get_or lists i []) ≡ Some barrier)
    later n barrier (zero, at, found) = absurd (none-some barrier (sym none ∙ found))
    later n barrier (suc i, at, found) = (i, omega arith, found)

-- the place that tells is the one that is found
pub place_from_is : (lists : List (List (Blk × Bool))) (from b : ℕ) (place : Option (Obj × Bool)) → Tells lists from b place
    → place_from from lists b ≡ place
place_from_is [] from b place t = nowhere_is_none place (λ n barrier is. none-some barrier (t.there n barrier is).2)
place_from_is (ws ∷ lists) from b place t =
    here (barrier_in b ws) refl (λ none. place_from_is lists (suc from) b place (tells_later ws lists from b place t none))
  where
    here : (o : Option Bool) → barrier_in b ws ≡ o → (barrier_in b ws ≡ None → place_from (suc from) lists b ≡ place)
        → option_or (option_map (λ barrier. (record { 0 = from }, barrier)) o) (place_from (suc from) lists b) ≡ place
    here None none later = later none
    here (Some barrier) found later = sym (t.only from 0 barrier (omega arith) found)

-- ## What the place of a block says of the lists

-- the place is that of each list that has the block, and the list of the place has it
pub place_of_is : (view : ListsView) (b : ℕ) (place : Option (Obj × Bool))
    → ((n : ℕ) (barrier : Bool) → barrier_in b (list_at view n) ≡ Some barrier → place ≡ Some (record { 0 = n }, barrier))
    → ((n : ℕ) (barrier : Bool) → place ≡ Some (record { 0 = n }, barrier) → barrier_in b (list_at view n) ≡ Some barrier)
    → place_of view b ≡ place
place_of_is view b place only there =
    place_from_is view.lists 0 b place
    (record {
      only = λ n i barrier at found. only n barrier (subst (λ m. barrier_in b (list_at view m) ≡ Some barrier) (let e : i ≡ n = omega arith in e) found);
      there = λ n barrier is. (n, omega arith, there n barrier is);
    })

-- a block that is in no list waits nowhere
pub place_of_none : (view : ListsView) (b : ℕ) → ((n : ℕ) → barrier_in b (list_at view n) ≡ None) → place_of view b ≡ None
place_of_none view b none =
    place_of_is view b None (λ n barrier found. absurd (none-some barrier (sym (none n) ∙ found))) (λ n barrier is. absurd (none-some _ is))

-- where a block is found, its list has it
in_place_from : (lists : List (List (Blk × Bool))) (from b : ℕ) (o : Obj) (barrier : Bool) → place_from from lists b ≡ Some (o, barrier)
    → (i : ℕ) × (o.0 ≡ from + i) × (barrier_in b (get_or lists i []) ≡ Some barrier)
in_place_from [] from b o barrier there = absurd (none-some _ there)
in_place_from (ws ∷ lists) from b o barrier there = here (barrier_in b ws) refl there (λ later. in_place_from lists (suc from) b o barrier later)
  where
    here : (found : Option Bool) → barrier_in b ws ≡ found
        → option_or (option_map (λ flag. (record { 0 = from }, flag)) found) (place_from (suc from) lists b) ≡ Some (o, barrier)
        → (place_from (suc from) lists b ≡ Some (o, barrier) → (i : ℕ) × (o.0 ≡ suc from + i) × (barrier_in b (get_or lists i []) ≡ Some barrier))
        → (i : ℕ) × (o.0 ≡ from + i) × (barrier_in b (get_or (ws ∷ lists) i []) ≡ Some barrier)
    here None e is later = let rest = later is in (suc rest.0, omega (arith, rest.1), rest.2)
    here (Some flag) e is later =
        let same = same_Some _ _ is in
        let node : from ≡ o.0 = ap (λ p. p.0.0) same in
        (0, omega arith, e ∙ ap (λ p. Some p.1) same)

-- a block that waits is in the list of its node
pub in_list_of_place : (view : ListsView) (b : ℕ) (o : Obj) (barrier : Bool) → place_of view b ≡ Some (o, barrier)
    → barrier_in b (list_at view o.0) ≡ Some barrier
in_list_of_place view b o barrier there =
    let found = in_place_from view.lists 0 b o barrier there in
    subst (λ n. barrier_in b (list_at view n) ≡ Some barrier) (let e : found.0 ≡ o.0 = omega (arith, found.1) in e) found.2

-- ## One block more, or one less, in one list

-- another block behind all says nothing of this one
barrier_in_pushed : (c : ℕ) (w : Blk × Bool) (ws : List (Blk × Bool)) → w.0.0 ≢ c → barrier_in c (ws ++ w ∷ []) ≡ barrier_in c ws
barrier_in_pushed c w [] other = ap (λ v. cond v (Some w.1) None) (ne_eqb w.0.0 c other)
barrier_in_pushed c w (x ∷ ws) other = ap (cond (x.0.0 == c) (Some x.1)) (barrier_in_pushed c w ws other)

-- who waits in the rest waits in the whole
barrier_in_rest : (c : ℕ) (ws : List (Blk × Bool)) → is_some (barrier_in c (drop 1 ws)) ≡ true → is_some (barrier_in c ws) ≡ true
barrier_in_rest c [] some = some
barrier_in_rest c (w ∷ ws) some =
    elim (w.0.0 == c) as (λ v. is_some (cond v (Some w.1) (barrier_in c ws)) ≡ true) [ true ↦ refl | false ↦ some ]

-- who is first waits there
barrier_in_first : (w : Blk × Bool) (ws : List (Blk × Bool)) → slice_get ws 0 ≡ Some w → is_some (barrier_in w.0.0 ws) ≡ true
barrier_in_first w [] first = cc
barrier_in_first w (x ∷ ws) first =
    let same : x.0.0 ≡ w.0.0 = ap (λ v. v.0.0) (same_Some x w first) in
    ap (λ v. is_some (cond v (Some x.1) (barrier_in w.0.0 ws))) (eq-eqb x.0.0 w.0.0 same)

-- ## And in all lists

-- a block has a place where a list has it, or a later one
some_place : (node : ℕ) (found : Option Bool) (later : Option (Obj × Bool))
    → is_some (option_or (option_map (λ barrier. (record { 0 = node }, barrier)) found) later) ≡ (is_some found || is_some later)
some_place node None later = refl
some_place node (Some barrier) later = refl

-- a block that another follows waits where it waited
pub place_pushed : (node : ℕ) (lists : List (List (Blk × Bool))) (i c : ℕ) (w : Blk × Bool) → w.0.0 ≢ c
    → place_from node (set lists i (get_or lists i [] ++ w ∷ [])) c ≡ place_from node lists c
place_pushed node [] i c w other = refl
place_pushed node (ws ∷ lists) zero c w other =
    ap (λ found. option_or (option_map (λ barrier. (record { 0 = node }, barrier)) found) (place_from (suc node) lists c)) (barrier_in_pushed c w ws other)
place_pushed node (ws ∷ lists) (suc i) c w other =
    ap (option_or (option_map (λ barrier. (record { 0 = node }, barrier)) (barrier_in c ws))) (place_pushed (suc node) lists i c w other)

either_some : (a b : Bool) → (a ≡ true → b ≡ true) → (c : Bool) → (a || c) ≡ true → (b || c) ≡ true
either_some true b more c some = ap (λ v. v || c) (more refl)
either_some false true more c some = refl
either_some false false more c some = some

or_some : (a b c : Bool) → (b ≡ true → c ≡ true) → (a || b) ≡ true → (a || c) ≡ true
or_some true b c more some = refl
or_some false b c more some = more some

-- who waits after another has left waited before
pub place_popped : (node : ℕ) (lists : List (List (Blk × Bool))) (i c : ℕ)
    → is_some (place_from node (set lists i (drop 1 (get_or lists i []))) c) ≡ true → is_some (place_from node lists c) ≡ true
place_popped node [] i c some = some
place_popped node (ws ∷ lists) zero c some =
    some_place node (barrier_in c ws) (place_from (suc node) lists c)
    ∙ either_some _ _ (barrier_in_rest c ws) (is_some (place_from (suc node) lists c))
    (sym (some_place node (barrier_in c (drop 1 ws)) (place_from (suc node) lists c)) ∙ some)
place_popped node (ws ∷ lists) (suc i) c some =
    some_place node (barrier_in c ws) (place_from (suc node) lists c)
    ∙ or_some (is_some (barrier_in c ws)) _ _ (place_popped (suc node) lists i c)
    (sym (some_place node (barrier_in c ws) (place_from (suc node) (set lists i (drop 1 (get_or lists i []))) c)) ∙ some)

-- who is first in a list waits
pub place_first : (node : ℕ) (lists : List (List (Blk × Bool))) (i : ℕ) (w : Blk × Bool) → slice_get (get_or lists i []) 0 ≡ Some w
    → is_some (place_from node lists w.0.0) ≡ true
place_first node [] i w first = cc
place_first node (ws ∷ lists) zero w first =
    some_place node (barrier_in w.0.0 ws) (place_from (suc node) lists w.0.0)
    ∙ ap (λ v. v || is_some (place_from (suc node) lists w.0.0)) (barrier_in_first w ws first)
place_first node (ws ∷ lists) (suc i) w first =
    some_place node (barrier_in w.0.0 ws) (place_from (suc node) lists w.0.0)
    ∙ or_some (is_some (barrier_in w.0.0 ws)) true _ (λ yes. place_first (suc node) lists i w first) (any_true (is_some (barrier_in w.0.0 ws)))
  where
    any_true : (a : Bool) → (a || true) ≡ true
    any_true true = refl
    any_true false = refl
