-- Each step on a deque keeps its rule.
use Rattle.std.proofs.Common.{◌≡◌, ◌≢◌, ℕ, suc, ◌<◌, ⊎_elim, Bool, true, false, cond, eqb, eq-eqb, ne_eqb, List, [], ◌∷◌, ◌++◌, length, set, sym, refl, ap, ◌∙◌, subst, arith, length-set, append_assoc}
use mathlib.Core.Logic.{dite}
use mathlib.Core.Option.{some}
use native.Mathlib.Decide.{ℕ_discrete}
use lib.ListN.{get_elem?}
use Rattle.crossbeam_deque.specs.Tasks.{Pushes, Takes, Finds, Forks}
use Rattle.atomic_table.proofs.Lists.{at_set}
use Rattle.std.proofs.lemmas.List.{length_push}
use Rattle.gcd_facts.proofs.Elements.{only_at, at_end, in_range, none_there}
use Rattle.gcd_facts.proofs.Truth.{not_both}
use Rattle.gcd_steal.specs.declared.drain.Drain.{Drain}
use Rattle.gcd_steal.specs.declared.deque.RackId.{RackId}
use Rattle.gcd_steal.specs.declared.deque.Account.{Account}
use Rattle.gcd_steal.specs.Drains.{IsOf}
use Rattle.gcd_steal.specs.Deques.{account, taken_by, Takings, drains_of, AllOf, IsTrueOf, TakenInOrder, WasEmpty, Sends, Gets, no_rack}

drains_more : (got : Takings) (t : ℕ × Drain) → drains_of (got ++ t ∷ []) ≡ drains_of got ++ t.1 ∷ []
drains_more [] t = refl
drains_more (x ∷ got) t = ap (λ (l : List Drain). x.1 ∷ l) (drains_more got t)

by_mine : (j : ℕ) (got : Takings) (x : Drain) → taken_by j (got ++ (j, x) ∷ []) ≡ taken_by j got ++ x ∷ []
by_mine j [] x = ap (λ (b : Bool). cond b (x ∷ []) []) (eq-eqb j j refl)
by_mine j (t ∷ got) x = dite (ℕ_discrete t.0 j)
    (λ same. ap (λ (b : Bool). cond b (t.1 ∷ taken_by j (got ++ (j, x) ∷ [])) (taken_by j (got ++ (j, x) ∷ []))) (eq-eqb t.0 j same) ∙ ap (λ (l : List Drain). t.1 ∷ l) (by_mine j got x)
    ∙ ap (λ (b : Bool). cond b (t.1 ∷ taken_by j got) (taken_by j got) ++ x ∷ []) (sym (eq-eqb t.0 j same)))
    (λ ne. ap (λ (b : Bool). cond b (t.1 ∷ taken_by j (got ++ (j, x) ∷ [])) (taken_by j (got ++ (j, x) ∷ []))) (ne_eqb t.0 j ne) ∙ by_mine j got x
    ∙ ap (λ (b : Bool). cond b (t.1 ∷ taken_by j got) (taken_by j got) ++ x ∷ []) (sym (ne_eqb t.0 j ne)))

by_other : (j k : ℕ) (got : Takings) (x : Drain) → k ≢ j → taken_by j (got ++ (k, x) ∷ []) ≡ taken_by j got
by_other j k [] x ne = ap (λ (b : Bool). cond b (x ∷ []) []) (ne_eqb k j ne)
by_other j k (t ∷ got) x ne = ap (λ (l : List Drain). cond (eqb t.0 j) (t.1 ∷ l) l) (by_other j k got x ne)

-- no taking is of a pass that comes later
by_none : (n : ℕ) (got : Takings) → ((i : ℕ) (t : ℕ × Drain) → get_elem? got i ≡ some t → t.0 < n) → taken_by n got ≡ []
by_none n [] less = refl
by_none n (t ∷ got) less = ap (λ (b : Bool). cond b (t.1 ∷ taken_by n got) (taken_by n got)) (ne_eqb t.0 n (λ e. let h = less 0 t refl in omega arith)) ∙ by_none n got (λ i u e. less (suc i) u e)

view_is : {of : RackId} {sent : List Drain} {got : Takings} {j i : ℕ} {v w : Account} → i ≡ j → v ≡ w → IsTrueOf of sent got i v → IsTrueOf of sent got j w
view_is {of} {sent} {got} a b f = subst (λ (y : ℕ × Account). IsTrueOf of sent got y.0 y.1) (λ k. (a k, b k)) f

pub begins : TakenInOrder [] (account true true no_rack [] [] ∷ [])
begins = let v = account true true no_rack [] [] in record {
  rack = no_rack;
  pushed = [];
  takings = [];
  whole = refl;
  right = λ i d e. none_there i d e;
  each = λ j u e. let t = only_at v u j e in view_is (sym t.0) t.1 (record { rack = λ f. not_both refl f; took = refl; owner = λ _. (refl, refl) });
  fresh = λ j u e _. (refl, refl, refl);
  passes = λ i t e. none_there i t e;
}

pub sends : (port : ℕ) (v : Account) (d : Drain) → v.owns ≡ true → v.fresh ≡ false → IsOf v.rack d → Pushes TakenInOrder port v (d ∷ []) (Sends v (d ∷ []))
sends port v d owns old right items views r at = let w = account v.fresh v.owns v.rack (v.sent ++ d ∷ []) v.took in let mine = r.each port v at in let xs = d ∷ [] in (
  w,
  record {
    rack = r.rack;
    pushed = r.pushed ++ xs;
    takings = r.takings;
    whole = ap (λ (l : List Drain). l ++ xs) r.whole ∙ append_assoc (drains_of r.takings) items xs;
    right = λ i x e. ⊎_elim (λ (t : get_elem? items i ≡ some x). r.right i x t) (λ (t : (i ≡ length items) × (d ≡ x)). subst (λ (y : Drain). IsOf r.rack y) t.1 (subst (λ (o : RackId). IsOf o d) (mine.rack old) right)) (at_end items d x i e);
    each = λ j u e. ⊎_elim
        (λ (t : (j ≡ port) × (w ≡ u)). view_is (sym t.0) t.1 (record { rack = mine.rack; took = mine.took; owner = λ o. ((mine.owner o).0, ap (λ (l : List Drain). l ++ xs) (mine.owner o).1) }))
        (λ (t : (j ≢ port) × (get_elem? views j ≡ some u)). let f = r.each j u t.1 in record { rack = f.rack; took = f.took; owner = λ o. absurd (t.0 ((f.owner o).0 ∙ sym (mine.owner owns).0)) })
        (at_set views port j w u e);
    fresh = λ j u e is. ⊎_elim
        (λ (t : (j ≡ port) × (w ≡ u)). not_both (ap (λ (x : Account). x.fresh) t.1 ∙ is) old)
        (λ (t : (j ≢ port) × (get_elem? views j ≡ some u)). let f = r.fresh j u t.1 is in let a = in_range views j u t.1 in let b = in_range views port v at in absurd (t.0 (omega (arith, f.1))))
        (at_set views port j w u e);
    passes = λ i t e. let h = r.passes i t e in omega (arith, length-set views port w);
  },
  refl,
)

taken : (port : ℕ) (v : Account) (x : Drain) (items : List Drain) (views : List Account) → v.fresh ≡ false → TakenInOrder (x ∷ items) views → get_elem? views port ≡ some v
    → (w : Account) × TakenInOrder items (set views port w) × Gets v (x ∷ []) w
taken port v x items views old r at = let w = account v.fresh v.owns v.rack v.sent (v.took ++ x ∷ []) in let mine = r.each port v at in let next : Takings = r.takings ++ (port, x) ∷ [] in (
  w,
  record {
    rack = r.rack;
    pushed = r.pushed;
    takings = next;
    whole = r.whole ∙ sym (append_assoc (drains_of r.takings) (x ∷ []) items) ∙ ap (λ (l : List Drain). l ++ items) (sym (drains_more r.takings (port, x)));
    right = λ i d e. r.right (suc i) d e;
    each = λ j u e. ⊎_elim
        (λ (t : (j ≡ port) × (w ≡ u)). view_is (sym t.0) t.1 (record { rack = mine.rack; took = ap (λ (l : List Drain). l ++ x ∷ []) mine.took ∙ sym (by_mine port r.takings x); owner = mine.owner }))
        (λ (t : (j ≢ port) × (get_elem? views j ≡ some u)). let f = r.each j u t.1 in record { rack = f.rack; took = f.took ∙ sym (by_other j port r.takings x (λ s. t.0 (sym s))); owner = f.owner })
        (at_set views port j w u e);
    fresh = λ j u e is. ⊎_elim
        (λ (t : (j ≡ port) × (w ≡ u)). not_both (ap (λ (y : Account). y.fresh) t.1 ∙ is) old)
        (λ (t : (j ≢ port) × (get_elem? views j ≡ some u)). let f = r.fresh j u t.1 is in absurd (omega (arith, ap length f.0)))
        (at_set views port j w u e);
    passes = λ i t e. let wide = length-set views port w in ⊎_elim
        (λ (h : get_elem? r.takings i ≡ some t). let k = r.passes i t h in omega (arith, wide))
        (λ (h : (i ≡ length r.takings) × ((port, x) ≡ t)). let k = in_range views port v at in let s : port ≡ t.0 = ap (λ (y : ℕ × Drain). y.0) h.1 in omega (arith, wide))
        (at_end r.takings (port, x) t i e);
  },
  (refl, (items, (views, port, r, at))),
)

pub gets : (port : ℕ) (v : Account) → v.fresh ≡ false → Takes TakenInOrder port v 1 (Gets v)
gets port v old [] items views some_in few r at = absurd (omega arith)
gets port v old (x ∷ []) items views some_in few r at = taken port v x items views old r at
gets port v old (x ∷ y ∷ xs) items views some_in few r at = absurd (omega arith)

pub finds : (port : ℕ) (v : Account) → Finds TakenInOrder port v (WasEmpty v)
finds port v views r at = (views, port, r, at)

pub parts : (port : ℕ) (v : Account) (of : RackId) → v.owns ≡ true → (v.fresh ≡ false → v.rack ≡ of) → Forks TakenInOrder port v (account false v.owns of v.sent v.took) (account false false of [] [])
parts port v of owns same items views r at = let left = account false v.owns of v.sent v.took in let right = account false false of [] [] in let mine = r.each port v at in let cut : List Account = set views port left in let now = cases v.fresh refl in record {
  rack = of;
  pushed = r.pushed;
  takings = r.takings;
  whole = r.whole;
  right = now.0;
  each = λ j u e. ⊎_elim
      (λ (was : get_elem? cut j ≡ some u). ⊎_elim
      (λ (t : (j ≡ port) × (left ≡ u)). view_is (sym t.0) t.1 (record { rack = λ _. refl; took = mine.took; owner = mine.owner }))
      (λ (t : (j ≢ port) × (get_elem? views j ≡ some u)). let f = r.each j u t.1 in record { rack = λ o. now.1 j u t.0 t.1 o; took = f.took; owner = f.owner })
      (at_set views port j left u was))
      (λ (t : (j ≡ length cut) × (right ≡ u)). view_is (sym t.0) t.1 (record { rack = λ _. refl; took = sym (by_none (length cut) r.takings (λ i x at_x. let h = r.passes i x at_x in omega (arith, length-set views port left))); owner = λ o. not_both o refl }))
      (at_end cut right u j e);
  fresh = λ j u e is. ⊎_elim
      (λ (was : get_elem? cut j ≡ some u). ⊎_elim
      (λ (t : (j ≡ port) × (left ≡ u)). not_both (ap (λ (x : Account). x.fresh) t.1 ∙ is) refl)
      (λ (t : (j ≢ port) × (get_elem? views j ≡ some u)). let f = r.fresh j u t.1 is in let a = in_range views j u t.1 in let b = in_range views port v at in absurd (t.0 (omega (arith, f.1))))
      (at_set views port j left u was))
      (λ (t : (j ≡ length cut) × (right ≡ u)). not_both (ap (λ (x : Account). x.fresh) t.1 ∙ is) refl)
      (at_end cut right u j e);
  passes = λ i t e. let h = r.passes i t e in let n = length_push cut right in omega (arith, length-set views port left);
} where
  cases : (b : Bool) → v.fresh ≡ b → AllOf of items × ((j : ℕ) (u : Account) → j ≢ port → get_elem? views j ≡ some u → u.fresh ≡ false → u.rack ≡ of)
  cases true is = let f = r.fresh port v at is in (subst (λ (l : List Drain). AllOf of l) (sym f.0) (λ i d e. none_there i d e), λ j u ne e _. let a = in_range views j u e in let b = in_range views port v at in absurd (ne (omega (arith, f.1))))
  cases false is = let eq : r.rack ≡ of = sym ((r.each port v at).rack is) ∙ same is in (subst (λ (o : RackId). AllOf o items) eq r.right, λ j u ne e o. (r.each j u e).rack o ∙ eq)
