-- The passed words, after one pass has made a step.
use Rattle.std.proofs.Common.{◌≡◌, ◌≢◌, ℕ, ◌+◌, ◌<◌, ◌≤◌, ◌⊎◌, inl, inr, ⊎_elim, false, List, length, set, sym, ap, ◌∙◌, subst, arith}
use mathlib.Core.Logic.{dite}
use mathlib.Core.Option.{some}
use native.Mathlib.Decide.{ℕ_discrete}
use lib.ListN.{get_elem?}
use Rattle.atomic_table.proofs.Lists.{at_set, set_here, set_else}
use Rattle.gcd_facts.proofs.Elements.{in_range}
use Rattle.gcd_event.specs.declared.event.Event.{Event}
use Rattle.gcd_row.specs.declared.view.View.{View}
use Rattle.gcd_row.specs.declared.view.Terms.{Terms}
use Rattle.gcd_row.specs.declared.view.Standing.{Standing}
use Rattle.gcd_row.specs.Ring.{passed_word, gone}
use Rattle.gcd_row.specs.Rule.{Knows, PassedWords, Rests}
use Rattle.gcd_row.specs.Views.{standing_of}
use Rattle.gcd_row.proofs.Seen.{at_once, out_not_none}

-- a pass that makes a step: only its own passed word may change, and it only grows
pub record Moves {S : Type 0} (next : List Event) (words after : List ℕ) (v w : View S) : Type 0 where
  pub live : v.spent ≡ false
  pub spent : w.spent ≡ false
  pub worker : w.worker ≡ v.worker
  pub hands : w.hands ≡ v.hands
  pub more : length v.seen ≤ length w.seen
  pub grows : v.marks.passed ≤ w.marks.passed
  pub others : (k : ℕ) → k ≢ v.worker → passed_word after k ≡ passed_word words k
  pub mine : passed_word after v.worker ≡ w.marks.passed
  pub slow : (k : ℕ) → k < 64 → length next ≤ passed_word after k + 4096
  pub pair : (k : ℕ) → k < w.marks.upto → w.marks.floor ≤ passed_word after k
  pub rests : (w.marks.passed ≡ gone) ⊎ (w.marks.passed ≤ length w.seen)
  pub few : length w.seen < gone

module _ {S : Type 0} (t : Terms S) (log next : List Event) (words after : List ℕ) (views : List (View S)) (id : ℕ) (v w : View S) (at : get_elem? views id ≡ some v) (k : Knows t log views) (p : PassedWords t log words views) (g : Moves next words after v w) where
  abbrev later : List (View S)
  later = set views id w

  cases : (Q : Type 0) (j : ℕ) (u : View S) → get_elem? later j ≡ some u → ((j ≡ id) → (w ≡ u) → Q) → ((j ≢ id) → get_elem? views j ≡ some u → Q) → Q
  cases Q j u e here else = ⊎_elim (λ (t : (j ≡ id) × (w ≡ u)). here t.0 t.1) (λ (t : (j ≢ id) × (get_elem? views j ≡ some u)). else t.0 t.1) (at_set views id j w u e)

  apart : (j : ℕ) (u : View S) → get_elem? views j ≡ some u → u.spent ≡ false → j ≢ id → u.worker ≢ v.worker
  apart j u e live ne same = ne (k.alone j id u v e at live g.live same)

  old_own : passed_word words v.worker ≡ v.marks.passed
  old_own = p.mine id v at g.live

  -- no passed word falls
  grown_word : (n : ℕ) → passed_word words n ≤ passed_word after n
  grown_word n = dite (ℕ_discrete n v.worker)
      (λ is. subst (λ (m : ℕ). passed_word words m ≤ passed_word after m) (sym is) (omega (arith, old_own, g.mine, g.grows)))
      (λ ne. omega (arith, g.others n ne))

  stands : get_elem? later id ≡ some w
  stands = set_here views id w (in_range views id v at)

  rests_mine : Rests t.opened after later v.worker
  rests_mine = ⊎_elim (λ (is : w.marks.passed ≡ gone). inl (g.mine ∙ is)) (λ (le : w.marks.passed ≤ length w.seen). inr (inr (id, w, stands, g.spent, g.worker, omega (arith, g.mine, le)))) g.rests

  rests_other : (n : ℕ) → n ≢ v.worker → Rests t.opened words views n → Rests t.opened after later n
  rests_other n ne r = ⊎_elim (λ (is : passed_word words n ≡ gone). inl (g.others n ne ∙ is))
      (λ (r : (passed_word words n ≡ t.opened) ⊎ ((by : ℕ) × (u : View S) × (get_elem? views by ≡ some u) × (u.spent ≡ false) × (u.worker ≡ n) × (passed_word words n ≤ length u.seen))).
      ⊎_elim (λ (is : passed_word words n ≡ t.opened). inr (inl (g.others n ne ∙ is)))
      (λ (o : (by : ℕ) × (u : View S) × (get_elem? views by ≡ some u) × (u.spent ≡ false) × (u.worker ≡ n) × (passed_word words n ≤ length u.seen)).
      let not_me : o.0 ≢ id = λ is. ne (sym o.4 ∙ ap (λ (x : View S). x.worker) (at_once views id o.1 v (subst (λ (m : ℕ). get_elem? views m ≡ some o.1) is o.2) at)) in
      inr (inr (o.0, o.1, set_else views id o.0 w not_me ∙ o.2, o.3, o.4, omega (arith, g.others n ne, o.5))))
      r)
      r

  pub moved : PassedWords t next after later
  moved = record {
    slow = g.slow;
    rests = λ n lt. dite (ℕ_discrete n v.worker)
        (λ is. subst (Rests t.opened after later) (sym is) rests_mine)
        (λ ne. rests_other n ne (p.rests n lt));
    mine = λ j u e live. cases (passed_word after u.worker ≡ u.marks.passed) j u e
        (λ _ is. subst (λ (x : View S). passed_word after x.worker ≡ x.marks.passed) is (ap (passed_word after) g.worker ∙ g.mine))
        (λ ne was. g.others u.worker (apart j u was live ne) ∙ p.mine j u was live);
    pair = λ j u e n lt. cases (u.marks.floor ≤ passed_word after n) j u e
        (λ _ is. subst (λ (x : View S). x.marks.floor ≤ passed_word after n) is (g.pair n (subst (λ (x : View S). n < x.marks.upto) (sym is) lt)))
        (λ _ was. let old = p.pair j u was n lt in omega (arith, old, grown_word n));
    begin = λ j u e live zero_is n nz below unused. cases (passed_word after n ≡ t.opened) j u e
        (λ _ is. let number : v.worker ≡ 0 = sym g.worker ∙ ap (λ (x : View S). x.worker) is ∙ zero_is in
        g.others n (λ same. nz (same ∙ number)) ∙ p.begin id v at g.live number n nz below (ap (λ (l : List (ℕ × Standing)). standing_of l n) (sym g.hands) ∙ ap (λ (x : View S). standing_of x.hands n) is ∙ unused))
        (λ ne was. g.others n (λ same. out_not_none (standing_of u.hands n) (ap (standing_of u.hands) same ∙ (k.head j u was live zero_is).out id v at g.live (λ is. nz (same ∙ is))) unused) ∙ p.begin j u was live zero_is n nz below unused);
    beyond = λ n le lt. dite (ℕ_discrete n v.worker)
        (λ is. subst (λ (m : ℕ). passed_word after m ≡ gone) (sym is) (whole_word (subst (λ (m : ℕ). passed_word words m ≡ gone) is (p.beyond n le lt))))
        (λ ne. g.others n ne ∙ p.beyond n le lt);
  }
    where
      -- a word that is gone stays so
      whole_word : passed_word words v.worker ≡ gone → passed_word after v.worker ≡ gone
      whole_word is = ⊎_elim (λ (all : w.marks.passed ≡ gone). g.mine ∙ all)
          (λ (le : w.marks.passed ≤ length w.seen). absurd (omega (arith, is, old_own, g.grows, le, g.few)))
          g.rests
