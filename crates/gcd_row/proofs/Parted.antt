-- The passed words, after a view was cut in two or took in another.
use Rattle.std.proofs.Common.{◌≡◌, ◌≢◌, ℕ, ◌<◌, ◌≤◌, ◌⊎◌, inl, inr, ⊎_elim, true, false, List, [], ◌∷◌, ◌++◌, length, set, sym, ap, ◌∙◌, subst, arith}
use Rattle.std.specs.Prelude.{None}
use mathlib.Core.Logic.{dite}
use mathlib.Core.Option.{some}
use native.Mathlib.Decide.{ℕ_discrete}
use lib.ListN.{get_elem?}
use Rattle.atomic_table.proofs.Lists.{at_set, set_here, set_else, at_longer}
use Rattle.std.proofs.lemmas.Bool.{both_ways}
use Rattle.gcd_facts.proofs.Elements.{in_range, at_end}
use Rattle.gcd_event.specs.declared.event.Event.{Event}
use Rattle.gcd_history.specs.Team.{StartsWith}
use Rattle.gcd_row.specs.declared.view.View.{View}
use Rattle.gcd_row.specs.declared.view.Terms.{Terms}
use Rattle.gcd_row.specs.declared.view.Standing.{Standing}
use Rattle.gcd_row.specs.declared.view.Standing.TheVariants.{Out, Back}
use Rattle.gcd_row.specs.Ring.{passed_word, gone}
use Rattle.gcd_row.specs.Rule.{Knows, PassedWords, Rests}
use Rattle.gcd_row.specs.Views.{standing_of, spent_view, lending, newcomer, merging}
use Rattle.gcd_row.proofs.Fronts.{starts_length}
use Rattle.gcd_row.proofs.Parting.{longer_left, standing_same, standing_other, some_not_none}
use Rattle.gcd_row.proofs.Seen.{at_once}

standing_less : (l : List (ℕ × Standing)) (w : ℕ) (s : Standing) (n : ℕ) → standing_of ((w, s) ∷ l) n ≡ None → standing_of l n ≡ None
standing_less l w s n none = dite (ℕ_discrete w n)
    (λ same. absurd (some_not_none (standing_of ((w, s) ∷ l) n) s (standing_same l w s n same) none))
    (λ ne. sym (standing_other l w s n ne) ∙ none)

module _ {S : Type 0} (t : Terms S) (log : List Event) (words : List ℕ) (views : List (View S)) (id : ℕ) (v : View S) (n : ℕ) (at : get_elem? views id ≡ some v) (k : Knows t log views) (p : PassedWords t log words views)
    (live : v.spent ≡ false) (head_is : v.worker ≡ 0) (not_zero : n ≢ 0) (below : n < t.limits.workers) (unused : standing_of v.hands n ≡ None) where
  abbrev cut : List (View S)
  cut = set views id (lending v n) ++ newcomer v n ∷ []

  cases : (Q : Type 0) (j : ℕ) (u : View S) → get_elem? cut j ≡ some u → ((j ≡ id) → (lending v n ≡ u) → Q) → ((j ≡ length (set views id (lending v n))) → (newcomer v n ≡ u) → Q) → ((j ≢ id) → get_elem? views j ≡ some u → Q) → Q
  cases Q j u e here new else = ⊎_elim
      (λ (was : get_elem? (set views id (lending v n)) j ≡ some u). ⊎_elim (λ (t : (j ≡ id) × (lending v n ≡ u)). here t.0 t.1) (λ (t : (j ≢ id) × (get_elem? views j ≡ some u)). else t.0 t.1) (at_set views id j (lending v n) u was))
      (λ (t : (j ≡ length (set views id (lending v n))) × (newcomer v n ≡ u)). new t.0 t.1)
      (at_end (set views id (lending v n)) (newcomer v n) u j e)

  not_head : (j : ℕ) (u : View S) → j ≢ id → get_elem? views j ≡ some u → u.spent ≡ false → u.worker ≢ 0
  not_head j u ne e alive zero_is = ne (k.alone j id u v e at alive live (zero_is ∙ sym head_is))

  here_now : get_elem? cut id ≡ some (lending v n)
  here_now = at_longer (set views id (lending v n)) (newcomer v n ∷ []) id (lending v n) (set_here views id (lending v n) (in_range views id v at))

  there_now : (j : ℕ) (u : View S) → j ≢ id → get_elem? views j ≡ some u → get_elem? cut j ≡ some u
  there_now j u ne e = at_longer (set views id (lending v n)) (newcomer v n ∷ []) j u (set_else views id j (lending v n) ne ∙ e)

  abbrev Witness : List (View S) → ℕ → Type 0
  Witness vs m = (by : ℕ) × (u : View S) × (get_elem? vs by ≡ some u) × (u.spent ≡ false) × (u.worker ≡ m) × (passed_word words m ≤ length u.seen)

  cut_rests : (m : ℕ) → Rests t.opened words views m → Rests t.opened words cut m
  cut_rests m r = ⊎_elim (λ (is : passed_word words m ≡ gone). inl is)
      (λ (r : (passed_word words m ≡ t.opened) ⊎ Witness views m). ⊎_elim (λ (is : passed_word words m ≡ t.opened). inr (inl is))
      (λ (o : Witness views m). dite (ℕ_discrete o.0 id)
      (λ is. let mine : o.1 ≡ v = at_once views id o.1 v (subst (λ (x : ℕ). get_elem? views x ≡ some o.1) is o.2) at in
      inr (inr (id, lending v n, here_now, live, ap (λ (x : View S). x.worker) (sym mine) ∙ o.4, subst (λ (x : View S). passed_word words m ≤ length x.seen) mine o.5)))
      (λ ne. inr (inr (o.0, o.1, there_now o.0 o.1 ne o.2, o.3, o.4, o.5))))
      r)
      r

  pub cut_passing : PassedWords t log words cut
  cut_passing = record {
    slow = p.slow;
    rests = λ m lt. cut_rests m (p.rests m lt);
    mine = λ j u e alive. cases (passed_word words u.worker ≡ u.marks.passed) j u e
        (λ _ is. subst (λ (x : View S). passed_word words x.worker ≡ x.marks.passed) is (p.mine id v at live))
        (λ _ is. subst (λ (x : View S). passed_word words x.worker ≡ x.marks.passed) is (p.begin id v at live head_is n not_zero below unused ∙ ap (λ (x : Terms S). x.opened) (sym (k.fits id v at live).terms)))
        (λ _ was. p.mine j u was alive);
    pair = λ j u e m lt. cases (u.marks.floor ≤ passed_word words m) j u e
        (λ _ is. subst (λ (x : View S). x.marks.floor ≤ passed_word words m) is (p.pair id v at m (subst (λ (x : View S). m < x.marks.upto) (sym is) lt)))
        (λ _ is. subst (λ (x : View S). x.marks.floor ≤ passed_word words m) is (p.pair id v at m (subst (λ (x : View S). m < x.marks.upto) (sym is) lt)))
        (λ _ was. p.pair j u was m lt);
    begin = λ j u e alive zero_is m nz low none. cases (passed_word words m ≡ t.opened) j u e
        (λ _ is. p.begin id v at live head_is m nz low (standing_less v.hands n Out m (ap (λ (x : View S). standing_of x.hands m) is ∙ none)))
        (λ _ is. absurd (not_zero (ap (λ (x : View S). x.worker) is ∙ zero_is)))
        (λ ne was. absurd (not_head j u ne was alive zero_is));
    beyond = p.beyond;
  }

module _ {S : Type 0} (t : Terms S) (log : List Event) (words : List ℕ) (views : List (View S)) (id : ℕ) (v : View S) (at : get_elem? views id ≡ some v) (k : Knows t log views) (p : PassedWords t log words views) (live : v.spent ≡ false) (head_is : v.worker ≡ 0)
    (far : ℕ) (u : View S) (apart : ¬ (far ≡ id)) (at_far : get_elem? views far ≡ some u) (alive : u.spent ≡ false) (stored : u.marks.passed ≡ gone) where
  abbrev both : View S
  both = merging v u

  abbrev joined : List (View S)
  joined = set (set views id both) far spent_view

  which : (Q : Type 0) (j : ℕ) (x : View S) → get_elem? joined j ≡ some x → (spent_view ≡ x → Q) → ((j ≡ id) → both ≡ x → Q) → ((j ≢ id) → (j ≢ far) → get_elem? views j ≡ some x → Q) → Q
  which Q j x e gone_now here else = ⊎_elim
      (λ (r : (j ≡ far) × (spent_view ≡ x)). gone_now r.1)
      (λ (r : (j ≢ far) × (get_elem? (set views id both) j ≡ some x)). ⊎_elim (λ (s : (j ≡ id) × (both ≡ x)). here s.0 s.1) (λ (s : (j ≢ id) × (get_elem? views j ≡ some x)). else s.0 r.0 s.1) (at_set views id j both x r.1))
      (at_set (set views id both) far j spent_view x e)

  alive_which : (Q : Type 0) (j : ℕ) (x : View S) → get_elem? joined j ≡ some x → x.spent ≡ false → ((j ≡ id) → both ≡ x → Q) → ((j ≢ id) → (j ≢ far) → get_elem? views j ≡ some x → Q) → Q
  alive_which Q j x e fine here else = which Q j x e (λ is. absurd (both_ways x.spent fine (ap (λ (y : View S). y.spent) (sym is)))) here else

  left : StartsWith both.seen v.seen
  left = longer_left log v.seen u.seen (k.seen id v at) (k.seen far u at_far)

  other_head : (j : ℕ) (x : View S) → j ≢ id → get_elem? views j ≡ some x → x.spent ≡ false → x.worker ≡ 0 → ⊥
  other_head j x ne e fine zero_is = ne (k.alone j id x v e at fine live (zero_is ∙ sym head_is))

  other_unused : (m : ℕ) → standing_of both.hands m ≡ None → standing_of v.hands m ≡ None
  other_unused m none = standing_less v.hands u.worker Back m none

  stands : get_elem? joined id ≡ some both
  stands = set_else (set views id both) far id spent_view (λ e. apart (sym e)) ∙ set_here views id both (in_range views id v at)

  stays : (j : ℕ) (x : View S) → j ≢ id → j ≢ far → get_elem? views j ≡ some x → get_elem? joined j ≡ some x
  stays j x ne_id ne_far e = set_else (set views id both) far j spent_view ne_far ∙ set_else views id j both ne_id ∙ e

  abbrev Witness2 : List (View S) → ℕ → Type 0
  Witness2 vs m = (by : ℕ) × (x : View S) × (get_elem? vs by ≡ some x) × (x.spent ≡ false) × (x.worker ≡ m) × (passed_word words m ≤ length x.seen)

  join_rests : (m : ℕ) → Rests t.opened words views m → Rests t.opened words joined m
  join_rests m r = ⊎_elim (λ (is : passed_word words m ≡ gone). inl is)
      (λ (r : (passed_word words m ≡ t.opened) ⊎ Witness2 views m). ⊎_elim (λ (is : passed_word words m ≡ t.opened). inr (inl is))
      (λ (o : Witness2 views m). dite (ℕ_discrete o.0 id)
      (λ is. let mine : o.1 ≡ v = at_once views id o.1 v (subst (λ (x : ℕ). get_elem? views x ≡ some o.1) is o.2) at in
      let le : passed_word words m ≤ length v.seen = subst (λ (x : View S). passed_word words m ≤ length x.seen) mine o.5 in
      inr (inr (id, both, stands, live, ap (λ (x : View S). x.worker) (sym mine) ∙ o.4, omega (arith, le, starts_length both.seen v.seen left))))
      (λ ne_id. dite (ℕ_discrete o.0 far)
      (λ is. let theirs : o.1 ≡ u = at_once views far o.1 u (subst (λ (x : ℕ). get_elem? views x ≡ some o.1) is o.2) at_far in
      inl (ap (passed_word words) (sym o.4 ∙ ap (λ (x : View S). x.worker) theirs) ∙ p.mine far u at_far alive ∙ stored))
      (λ ne_far. inr (inr (o.0, o.1, stays o.0 o.1 ne_id ne_far o.2, o.3, o.4, o.5)))))
      r)
      r

  pub joins_passing : PassedWords t log words joined
  joins_passing = record {
    slow = p.slow;
    rests = λ m lt. join_rests m (p.rests m lt);
    mine = λ j x e fine. alive_which (passed_word words x.worker ≡ x.marks.passed) j x e fine
        (λ _ is. subst (λ (y : View S). passed_word words y.worker ≡ y.marks.passed) is (p.mine id v at live))
        (λ _ _ was. p.mine j x was fine);
    pair = λ j x e m lt. which (x.marks.floor ≤ passed_word words m) j x e
        (λ is. subst (λ (y : View S). y.marks.floor ≤ passed_word words m) is (omega arith))
        (λ _ is. subst (λ (y : View S). y.marks.floor ≤ passed_word words m) is (p.pair id v at m (subst (λ (y : View S). m < y.marks.upto) (sym is) lt)))
        (λ _ _ was. p.pair j x was m lt);
    begin = λ j x e fine zero_is m nz low none. alive_which (passed_word words m ≡ t.opened) j x e fine
        (λ _ is. p.begin id v at live head_is m nz low (other_unused m (ap (λ (y : View S). standing_of y.hands m) is ∙ none)))
        (λ ne _ was. absurd (other_head j x ne was fine zero_is));
    beyond = p.beyond;
  }

-- a note is added, which knows nothing of the passed words
pub noted_passed : {S : Type 0} (t : Terms S) (log : List Event) (words : List ℕ) (views : List (View S)) (x : View S) → PassedWords t log words views → x.spent ≡ true → x.marks.upto ≡ 0 → PassedWords t log words (views ++ x ∷ [])
noted_passed {S} t log words views x p gone_now none =
    let cases : (Q : Type 0) (j : ℕ) (u : View S) → get_elem? (views ++ x ∷ []) j ≡ some u → (x ≡ u → Q) → (get_elem? views j ≡ some u → Q) → Q =
    λ Q j u e new old. ⊎_elim (λ (was : get_elem? views j ≡ some u). old was) (λ (r : (j ≡ length views) × (x ≡ u)). new r.1) (at_end views x u j e) in
    let dead : (Q : Type 0) (u : View S) → x ≡ u → u.spent ≡ false → Q = λ Q u is alive. absurd (both_ways u.spent alive (ap (λ (y : View S). y.spent) (sym is) ∙ gone_now)) in
    record {
      slow = p.slow;
      rests = λ m lt. ⊎_elim (λ (is : passed_word words m ≡ gone). inl is)
          (λ (r : (passed_word words m ≡ t.opened) ⊎ ((by : ℕ) × (u : View S) × (get_elem? views by ≡ some u) × (u.spent ≡ false) × (u.worker ≡ m) × (passed_word words m ≤ length u.seen))).
          ⊎_elim (λ (is : passed_word words m ≡ t.opened). inr (inl is))
          (λ (o : (by : ℕ) × (u : View S) × (get_elem? views by ≡ some u) × (u.spent ≡ false) × (u.worker ≡ m) × (passed_word words m ≤ length u.seen)). inr (inr (o.0, o.1, at_longer views (x ∷ []) o.0 o.1 o.2, o.3, o.4, o.5))) r)
          (p.rests m lt);
      mine = λ j u e alive. cases (passed_word words u.worker ≡ u.marks.passed) j u e (λ is. dead (passed_word words u.worker ≡ u.marks.passed) u is alive) (λ was. p.mine j u was alive);
      pair = λ j u e m lt. cases (u.marks.floor ≤ passed_word words m) j u e (λ is. absurd (omega (arith, none, subst (λ (y : View S). m < y.marks.upto) (sym is) lt))) (λ was. p.pair j u was m lt);
      begin = λ j u e alive zero_is m nz low free. cases (passed_word words m ≡ t.opened) j u e (λ is. dead (passed_word words m ≡ t.opened) u is alive) (λ was. p.begin j u was alive zero_is m nz low free);
      beyond = p.beyond;
    }

-- a spent view is replaced
pub wiped_passed : {S : Type 0} (t : Terms S) (log : List Event) (words : List ℕ) (views : List (View S)) (far : ℕ) (u : View S) → PassedWords t log words views → get_elem? views far ≡ some u → u.spent ≡ true → PassedWords t log words (set views far spent_view)
wiped_passed {S} t log words views far u p at gone_now =
    let later : List (View S) = set views far spent_view in
    let cases : (Q : Type 0) (j : ℕ) (x : View S) → get_elem? later j ≡ some x → (spent_view ≡ x → Q) → (get_elem? views j ≡ some x → Q) → Q =
    λ Q j x e new old. ⊎_elim (λ (r : (j ≡ far) × (spent_view ≡ x)). new r.1) (λ (r : (j ≢ far) × (get_elem? views j ≡ some x)). old r.1) (at_set views far j spent_view x e) in
    let dead : (Q : Type 0) (x : View S) → spent_view ≡ x → x.spent ≡ false → Q = λ Q x is alive. absurd (both_ways x.spent alive (ap (λ (y : View S). y.spent) (sym is))) in
    record {
      slow = p.slow;
      rests = λ m lt. ⊎_elim (λ (is : passed_word words m ≡ gone). inl is)
          (λ (r : (passed_word words m ≡ t.opened) ⊎ ((by : ℕ) × (x : View S) × (get_elem? views by ≡ some x) × (x.spent ≡ false) × (x.worker ≡ m) × (passed_word words m ≤ length x.seen))).
          ⊎_elim (λ (is : passed_word words m ≡ t.opened). inr (inl is))
          (λ (o : (by : ℕ) × (x : View S) × (get_elem? views by ≡ some x) × (x.spent ≡ false) × (x.worker ≡ m) × (passed_word words m ≤ length x.seen)).
          inr (inr (o.0, o.1, set_else views far o.0 spent_view (λ is. both_ways u.spent (ap (λ (y : View S). y.spent) (at_once views far u o.1 at (subst (λ (n : ℕ). get_elem? views n ≡ some o.1) is o.2)) ∙ o.3) gone_now) ∙ o.2, o.3, o.4, o.5))) r)
          (p.rests m lt);
      mine = λ j x e alive. cases (passed_word words x.worker ≡ x.marks.passed) j x e (λ is. dead (passed_word words x.worker ≡ x.marks.passed) x is alive) (λ was. p.mine j x was alive);
      pair = λ j x e m lt. cases (x.marks.floor ≤ passed_word words m) j x e (λ is. subst (λ (y : View S). y.marks.floor ≤ passed_word words m) is (omega arith)) (λ was. p.pair j x was m lt);
      begin = λ j x e alive zero_is m nz low free. cases (passed_word words m ≡ t.opened) j x e (λ is. dead (passed_word words m ≡ t.opened) x is alive) (λ was. p.begin j x was alive zero_is m nz low free);
      beyond = p.beyond;
    }
