-- What the passes know, after one of them has seen more, was cut in two or took in another.
use Rattle.std.proofs.Common.{◌≡◌, ◌≢◌, ℕ, ◌⊎◌, ⊎_elim, false, List, length, set, sym, ap, ◌∙◌, subst, arith}
use mathlib.Core.Logic.{dite}
use mathlib.Core.Option.{some, some-injective}
use native.Mathlib.Decide.{ℕ_discrete}
use lib.ListN.{get_elem?}
use Rattle.atomic_table.proofs.Lists.{at_set, set_here, set_else}
use Rattle.std.specs.Prelude.{Some, None}
use Rattle.gcd_facts.proofs.Elements.{in_range}
use Rattle.gcd_event.specs.declared.event.Event.{Event}
use Rattle.gcd_history.specs.Team.{of_worker, StartsWith}
use Rattle.gcd_row.specs.declared.view.View.{View}
use Rattle.gcd_row.specs.declared.view.Terms.{Terms}
use Rattle.gcd_row.specs.declared.view.Standing.{Standing}
use Rattle.gcd_row.specs.declared.view.Standing.TheVariants.{Out}
use Rattle.gcd_row.specs.Rule.{Fits, Heads, Knows}
use Rattle.gcd_row.specs.Views.{standing_of}
use Rattle.gcd_row.proofs.Fronts.{starts_trans, starts_length, starts_whole, between}

pub at_once : {A : Type 0} (l : List A) (i : ℕ) (a b : A) → get_elem? l i ≡ some a → get_elem? l i ≡ some b → a ≡ b
at_once l i a b e f = some-injective a b (sym e ∙ f)

-- a number is not both out and never given out
pub out_not_none : (o : Rattle.std.specs.Prelude.Option Standing) → o ≡ Some Out → o ≡ None → ⊥
out_not_none o out none = cc

-- a pass that may have seen more: the log may have grown by events of its worker
pub record Grows {S : Type 0} (log next : List Event) (v w : View S) : Type 0 where
  pub live : v.spent ≡ false
  pub grows : StartsWith next log
  pub others : (k : ℕ) → k ≢ v.worker → of_worker k next ≡ of_worker k log
  pub terms : w.terms ≡ v.terms
  pub spent : w.spent ≡ false
  pub worker : w.worker ≡ v.worker
  pub hands : w.hands ≡ v.hands
  pub more : StartsWith w.seen v.seen
  pub seen : StartsWith next w.seen
  pub relayed : StartsWith next w.relayed
  pub own : of_worker v.worker next ≡ of_worker v.worker w.seen
  pub whole : (next ≡ log) ⊎ (w.seen ≡ next)

module _ {S : Type 0} (p : Terms S) (log next : List Event) (views : List (View S)) (id : ℕ) (v w : View S) (at : get_elem? views id ≡ some v) (k : Knows p log views) (g : Grows log next v w) where
  abbrev later : List (View S)
  later = set views id w

  -- an entry of the views after: the pass itself, or another that stays
  cases : (Q : Type 0) (j : ℕ) (u : View S) → get_elem? later j ≡ some u → ((j ≡ id) → (w ≡ u) → Q) → ((j ≢ id) → get_elem? views j ≡ some u → Q) → Q
  cases Q j u e here else = ⊎_elim (λ (t : (j ≡ id) × (w ≡ u)). here t.0 t.1) (λ (t : (j ≢ id) × (get_elem? views j ≡ some u)). else t.0 t.1) (at_set views id j w u e)

  apart : (j : ℕ) (u : View S) → get_elem? views j ≡ some u → u.spent ≡ false → j ≢ id → u.worker ≢ v.worker
  apart j u e live ne same = ne (k.alone j id u v e at live g.live same)

  fits_one : (u : View S) → w ≡ u → u.spent ≡ false → Fits p next u
  fits_one u is live = subst (λ (x : View S). Fits p next x) is
      (record { terms = g.terms ∙ (k.fits id v at g.live).terms; own = subst (λ (n : ℕ). of_worker n next ≡ of_worker n w.seen) (sym g.worker) g.own })

  fits_other : (j : ℕ) (u : View S) → j ≢ id → get_elem? views j ≡ some u → u.spent ≡ false → Fits p next u
  fits_other j u ne e live = let f = k.fits j u e live in record { terms = f.terms; own = g.others u.worker (apart j u e live ne) ∙ f.own }

  alone_one : (j : ℕ) (u : View S) → j ≢ id → get_elem? views j ≡ some u → u.spent ≡ false → w.worker ≡ u.worker → id ≡ j
  alone_one j u ne e live same = absurd (apart j u e live ne (sym same ∙ g.worker))

  -- worker 0's pass itself
  heads_one : v.worker ≡ 0 → Heads next later w
  heads_one zero_is = let h = k.head id v at g.live zero_is in
      record {
        fresh = λ n ne none. g.others n (λ (same : n ≡ v.worker). ne (same ∙ zero_is)) ∙ h.fresh n ne (ap (λ (l : List (ℕ × Standing)). standing_of l n) (sym g.hands) ∙ none);
        home = λ n ne. dite (ℕ_discrete n v.worker)
            (λ same. subst (λ (x : ℕ). of_worker x next ≡ of_worker x w.seen) (sym same) g.own)
            (λ other. between n next w.seen v.seen g.seen g.more (g.others n other ∙ h.home n (λ one. ne (ap (λ (l : List (ℕ × Standing)). standing_of l n) g.hands ∙ one))));
        out = λ j u e live ne. cases (standing_of w.hands u.worker ≡ Some Out) j u e (λ _ is. absurd (ne (ap (λ (x : View S). x.worker) (sym is) ∙ g.worker ∙ zero_is)))
            (λ _ was. ap (λ (l : List (ℕ × Standing)). standing_of l u.worker) g.hands ∙ h.out j u was live ne);
      }

  -- worker 0's pass, where another has seen more
  heads_other : (j : ℕ) (u : View S) → j ≢ id → get_elem? views j ≡ some u → u.spent ≡ false → u.worker ≡ 0 → Heads next later u
  heads_other j u ne e live zero_is = let h = k.head j u e live zero_is in let far = apart j u e live ne in
      let not_zero : v.worker ≢ 0 = λ (is : v.worker ≡ 0). far (zero_is ∙ sym is) in
      let is_out : standing_of u.hands v.worker ≡ Some Out = h.out id v at g.live not_zero in
      record {
        fresh = λ n nz none. g.others n (λ (same : n ≡ v.worker). out_not_none (standing_of u.hands v.worker) is_out (sym (ap (λ (x : ℕ). standing_of u.hands x) same) ∙ none)) ∙ h.fresh n nz none;
        home = λ n not_out. g.others n (λ (same : n ≡ v.worker). not_out (ap (λ (x : ℕ). standing_of u.hands x) same ∙ is_out)) ∙ h.home n not_out;
        out = λ i x at_x live_x nz. cases (standing_of u.hands x.worker ≡ Some Out) i x at_x
            (λ _ is. ap (λ (y : View S). standing_of u.hands y.worker) (sym is) ∙ ap (λ (n : ℕ). standing_of u.hands n) g.worker ∙ is_out)
            (λ _ was. h.out i x was live_x nz);
      }

  whole_after : (by : ℕ) × (u : View S) × (get_elem? later by ≡ some u) × (u.spent ≡ false) × (u.seen ≡ next)
  whole_after = ⊎_elim
      (λ (same : next ≡ log). let old = k.whole in dite (ℕ_discrete old.0 id)
      (λ is. let mine : old.1 ≡ v = at_once views id old.1 v (subst (λ (n : ℕ). get_elem? views n ≡ some old.1) is old.2) at in
      let all : v.seen ≡ next = ap (λ (x : View S). x.seen) (sym mine) ∙ old.4 ∙ sym same in
      (id, w, set_here views id w (in_range views id v at), g.spent, starts_whole next w.seen g.seen (omega (arith, ap length all, starts_length w.seen v.seen g.more))))
      (λ ne. (old.0, old.1, set_else views id old.0 w ne ∙ old.2, old.3, old.4 ∙ sym same)))
      (λ (all : w.seen ≡ next). (id, w, set_here views id w (in_range views id v at), g.spent, all))
      g.whole

  pub grown : Knows p next later
  grown = record {
    seen = λ j u e. cases (StartsWith next u.seen) j u e (λ _ is. subst (λ (x : View S). StartsWith next x.seen) is g.seen) (λ _ was. starts_trans next log u.seen g.grows (k.seen j u was));
    relayed = λ j u e. cases (StartsWith next u.relayed) j u e (λ _ is. subst (λ (x : View S). StartsWith next x.relayed) is g.relayed) (λ _ was. starts_trans next log u.relayed g.grows (k.relayed j u was));
    fits = λ j u e live. cases (Fits p next u) j u e (λ _ is. fits_one u is live) (λ ne was. fits_other j u ne was live);
    alone = λ i j a b at_a at_b live_a live_b same. cases (i ≡ j) i a at_a
        (λ here is_a. cases (i ≡ j) j b at_b (λ there is_b. here ∙ sym there) (λ ne was. here ∙ alone_one j b ne was live_b (ap (λ (x : View S). x.worker) is_a ∙ same)))
        (λ ne_a was_a. cases (i ≡ j) j b at_b (λ there is_b. sym (there ∙ alone_one i a ne_a was_a live_a (ap (λ (x : View S). x.worker) is_b ∙ sym same))) (λ ne_b was_b. k.alone i j a b was_a was_b live_a live_b same));
    head = λ j u e live zero_is. cases (Heads next later u) j u e
        (λ _ is. subst (λ (x : View S). Heads next later x) is (heads_one (sym g.worker ∙ ap (λ (x : View S). x.worker) is ∙ zero_is)))
        (λ ne was. heads_other j u ne was live zero_is);
    whole = whole_after;
  }
