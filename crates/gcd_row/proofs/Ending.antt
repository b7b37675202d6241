-- What a closed table tells of the history that worker 0's pass has seen.
use Rattle.std.proofs.Common.{◌≡◌, ◌≢◌, ℕ, zero, suc, ◌+◌, ◌%◌, ◌≤◌, ◌<◌, List, [], ◌∷◌, ◌++◌, map, length, get_or, set, take, Bool, sym, refl, ap, ◌∙◌, subst, arith, false, Some}
use mathlib.Core.Logic.{dite}
use mathlib.Core.Option.{some, some-injective, some-ne-none}
use native.Mathlib.Decide.{ℕ_discrete}
use lib.ListN.{get_elem?}
use Rattle.atomic_table.specs.Table.{Final, Seen}
use Rattle.gcd_event.specs.declared.event.Event.{Event}
use Rattle.gcd_event.specs.Fits.{IsFitting}
use Rattle.gcd_event.specs.Words.{word_of}
use Rattle.gcd_history.specs.Facts.{AllFit}
use Rattle.gcd_history.proofs.Public.Facts.{all_fit}
use Rattle.gcd_row.specs.Shapes.{Shape}
use Rattle.gcd_row.specs.Jobs.{Jobs, placed_at, jobs_of, placed_jobs}
use Rattle.gcd_row.specs.Lying.{slot_of, Lies}
use Rattle.gcd_row.specs.Views.{IsBack, given_terms, standing_of}
use Rattle.gcd_row.specs.Rule.{Knows, Holds}
use Rattle.gcd_row.specs.Closing.{IsWholeRow}
use Rattle.gcd_row.specs.Passes.{AtRest, IsPassOf, MayRead, view}
use Rattle.gcd_row.specs.Ring.{lap}
use Rattle.gcd_row.proofs.RowWords.{rereads}
use Rattle.gcd_row.specs.declared.board.RowBoard.{RowBoard}
use Rattle.gcd_row.specs.declared.pass.RowPass.{RowPass}
use Rattle.gcd_row.specs.declared.view.Copies.{Copies}
use Rattle.gcd_row.specs.declared.view.Handed.{Handed}
use Rattle.gcd_row.specs.declared.view.Standing.TheVariants.{Out}
use Rattle.gcd_row.specs.declared.view.Terms.{Terms}
use Rattle.gcd_row.specs.declared.view.View.{View}
use Rattle.gcd_row.proofs.Jobs.{intake_job}
use Rattle.gcd_row.proofs.Landing.{out_back}
use Rattle.gcd_row.proofs.Seen.{at_once}

module _ {S : Type 0} where
  -- worker 0's pass has seen all, where no other is out
  all_seen : (t : Terms S) (log : List Event) (views : List (View S)) (id : ℕ) (v : View S) → get_elem? views id ≡ some v → Knows t log views → v.spent ≡ false → v.worker ≡ 0 → ((w : ℕ) → standing_of v.hands w ≢ Some Out) → v.seen ≡ log
  all_seen t log views id v at k live head_is all_in = let w = k.whole in dite (ℕ_discrete w.1.worker 0)
      (λ zero_is. let here : w.0 ≡ id = k.alone w.0 id w.1 v w.2 at w.3 live (zero_is ∙ sym head_is) in
      ap (λ (x : View S). x.seen) (sym (at_once views id w.1 v (subst (λ (n : ℕ). get_elem? views n ≡ some w.1) here w.2) at)) ∙ w.4)
      (λ ne. absurd (all_in w.1.worker ((k.head id v at live head_is).out w.0 w.1 w.2 w.3 ne)))

pub whole_row : {S : Type 0} (shape : S → Shape) (gives : S → ℕ → Type 0) (b : RowBoard S) (p : RowPass S) (h : List Event) → IsPassOf shape gives b p → (view p).worker ≡ 0 → ((w : ℕ) → standing_of (view p).hands w ≢ Some Out) → h ≡ (view p).seen → IsWholeRow shape gives b p h
unfolding IsWholeRow
whole_row shape gives b p h is head_is all_in same = λ s k at.
    sym (all_seen (given_terms b.table.shared.key) k.history s.views p.seat.id (view p) at k.knows is.may_read.unspent head_is all_in) ∙ sym same

pub record Closes {S : Type 0} (shape : S → Shape) (gives : S → ℕ → Type 0) (t : Jobs S) (h : List Event) (from : ℕ) (ws : List ℕ) (xs : List S) : Type 0 where
  pub words : (i : ℕ) → from ≤ i → i < length h → get_or ws (suc (i % 4096)) 0 ≡ get_or (map word_of h) i 0 + lap i
  pub fit : AllFit h
  pub rest : AtRest shape gives t h xs

pub closes : {S : Type 0} (shape : S → Shape) (gives : S → ℕ → Type 0) (key : Copies S) (id : ℕ) (v : View S) (ws : List ℕ) (xs : List S) → Final (Seen (Holds shape gives key) id v) ws xs → MayRead v → v.worker ≡ 0 → ((w : ℕ) → standing_of v.hands w ≢ Some Out) → IsBack v.handed.next → Closes shape gives (placed_jobs v) v.seen v.marks.passed ws xs
closes {S} shape gives key id v ws xs f ok head_is all_in home =
    let live = ok.unspent in
    let s = f.0 in let k = f.1.0 in let t : Terms S = given_terms key in
    let all : v.seen ≡ k.history = all_seen t k.history s.views id v f.1.1 k.knows live head_is all_in in
    let terms : v.terms ≡ t = (k.knows.fits id v f.1.1 live).terms in
    let mine : v.handed ≡ k.handed = (k.jobs id v f.1.1 live).mine head_is in
    let back : IsBack k.handed.next = subst (λ (n : Handed S). IsBack n.next) mine home in
    let jobs : Jobs S = jobs_of t (placed_at k.handed.placed) in
    let at_rest : AtRest shape gives jobs k.history xs = record {
      width = sym f.3 ∙ k.slots.width;
      lie = λ r c known nobodys at. let there = k.slots.home r known nobodys (λ o. out_back k.handed.next back o.out) in subst (Lies shape gives jobs k.history r) (some-injective there.0 c (sym (f.4 (slot_of t.plan r) there.0 there.1) ∙ at)) there.2;
      job = λ b of stands. let was = k.slots.accepted b stands in (was.0, intake_job t (placed_at k.handed.placed) b of ∙ was.1);
    } in
    record {
      fit = subst AllFit (sym all) (all_fit t.plan k.history k.valid k.lawful);
      words = λ i le lt. let slow = k.passed.slow v.worker ok.number in let mine = k.passed.mine id v f.1.1 live in
          ap (λ (l : List ℕ). get_or l (suc (i % 4096)) 0) (sym f.2) ∙ rereads t.limits.most s.words k.history v.seen i k.ring (k.knows.seen id v f.1.1) lt (omega (arith, slow, mine, le));
      rest = subst (λ (n : Handed S). AtRest shape gives (jobs_of v.terms (placed_at n.placed)) v.seen xs) (sym mine)
          (subst (λ (q : Terms S). AtRest shape gives (jobs_of q (placed_at k.handed.placed)) v.seen xs) (sym terms) (subst (λ (h : List Event). AtRest shape gives jobs h xs) (sym all) at_rest));
    }

-- the event at a place of a history
pub record IsAt (h : List Event) (i : ℕ) : Type 0 where
  pub event : Event
  pub fits : IsFitting event
  pub word : get_or (map word_of h) i 0 ≡ word_of event
  pub next : take (suc i) h ≡ take i h ++ event ∷ []

pub event_at : (h : List Event) (i : ℕ) → AllFit h → i < length h → IsAt h i
event_at [] i ok lt = absurd (omega arith)
event_at (x ∷ h) zero ok lt = record { event = x; fits = ok 0 x refl; word = refl; next = refl }
event_at (x ∷ h) (suc i) ok lt = let r = event_at h i (λ j e at. ok (suc j) e at) (omega arith) in
    record { event = r.event; fits = r.fits; word = r.word; next = ap (λ (l : List Event). x ∷ l) r.next }

pub at_value : (l : List ℕ) (i n : ℕ) → get_elem? l i ≡ some n → n ≡ get_or l i 0
at_value [] i n e = absurd (some-ne-none n (sym e))
at_value (x ∷ l) zero n e = sym (some-injective x n e)
at_value (x ∷ l) (suc i) n e = at_value l i n e

pub take_next : {S : Type 0} (l : List S) (i : ℕ) (a : S) → get_elem? l i ≡ some a → take (suc i) l ≡ take i l ++ a ∷ []
take_next [] i a e = absurd (some-ne-none a (sym e))
take_next {S} (x ∷ l) zero a e = ap (λ (y : S). y ∷ []) (some-injective x a e)
take_next {S} (x ∷ l) (suc i) a e = ap (λ (m : List S). x ∷ m) (take_next l i a e)

pub set_false : (l : List Bool) (k : ℕ) → get_or (set l k false) k false ≡ false
set_false [] k = refl
set_false (x ∷ l) zero = refl
set_false (x ∷ l) (suc k) = set_false l k
