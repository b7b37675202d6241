-- A pass of a board stays one as it sees more.
use Rattle.std.proofs.Common.{◌≡◌, ℕ, ◌<◌, ◌≤◌, List, [], ◌∷◌, ◌++◌, map, length, Option, Some, is_some, cond, sym, ap, ◌∙◌, subst, arith, length-append, None}
use Rattle.std.specs.Prelude.{IfSome}
use Rattle.gcd_plan.specs.Validity.{IsPlan}
use Rattle.gcd_plan.specs.declared.numbers.Blk.{Blk}
use Rattle.gcd_plan.specs.declared.numbers.Run.{Run}
use Rattle.gcd_event.specs.declared.event.Event.{Event}
use Rattle.gcd_event.specs.Words.{word_of}
use Rattle.gcd_history.specs.Choice.{worker_of}
use Rattle.gcd_history.specs.Facts.{AllFit}
use Rattle.gcd_history.specs.History.{why, IsLawful}
use Rattle.gcd_history.specs.Intake.{accepted}
use Rattle.gcd_history.proofs.Public.Facts.{all_fit}
use Rattle.gcd_machine.specs.Stands.{StandsFor}
use Rattle.gcd_machine.proofs.Views.Calls.{lawful_stands, valid_stands}
use Rattle.gcd_history.specs.Held.{taken}
use Rattle.gcd_history.specs.Team.{held_by}
use Rattle.gcd_row.specs.Ring.{under}
use Rattle.gcd_row.specs.Shapes.{Shape}
use Rattle.gcd_row.specs.Jobs.{Jobs, job_of, jobs_of, held_jobs}
use Rattle.gcd_row.specs.Lying.{HasSlots, GivesBack}
use Rattle.gcd_row.specs.Views.{IsBack, saw, noting, held_run}
use Rattle.gcd_row.specs.Plays.{SeesMore, HandsOn, Turned, Wins, LaysBack, first_after, front_cell}
use Rattle.gcd_row.specs.declared.view.Handed.{Handed}
use Rattle.gcd_row.specs.declared.view.Terms.{Terms}
use Rattle.gcd_row.specs.Passes.{IsPassOf, Knew, MayRead, LearntOn, view, slots}
use Rattle.gcd_row.specs.declared.board.RowBoard.{RowBoard}
use Rattle.gcd_row.specs.declared.pass.RowPass.{RowPass}
use Rattle.gcd_row.specs.declared.view.View.{View}
use Rattle.gcd_row.proofs.Holding.{has_more, has_own, lays_back, back_waits}
use Rattle.gcd_row.proofs.Onward.{of_another}

-- what is known of the next cell, where that is nothing, and where no more was seen
pub nothing_beneath : (o : Option ℕ) (h : List ℕ) → o ≡ None → IfSome o (λ x. x ≡ under h)
nothing_beneath o h is = subst (λ (o : Option ℕ). IfSome o (λ x. x ≡ under h)) (sym is) tt

pub same_beneath : (o r : Option ℕ) (g h : List Event) → IfSome o (λ x. x ≡ under (map word_of g)) → r ≡ o → h ≡ g → IfSome r (λ x. x ≡ under (map word_of h))
same_beneath o r g h old same seen = subst (λ (r : Option ℕ). IfSome r (λ x. x ≡ under (map word_of h))) (sym same) (subst (λ (h : List Event). IfSome o (λ x. x ≡ under (map word_of h))) (sym seen) old)

module _ {S : Type 0} (shape : S → Shape) (gives : S → ℕ → Type 0) (b : RowBoard S) where
  pub lawful_seen : (p : RowPass S) → IsPassOf shape gives b p → IsLawful (view p).terms.plan (view p).seen
  lawful_seen p is = lawful_stands p.machine (view p).terms.plan (view p).seen is.stands

  pub valid_plan : (p : RowPass S) → IsPassOf shape gives b p → IsPlan (view p).terms.plan
  valid_plan p is = valid_stands p.machine (view p).terms.plan (view p).seen is.stands

  pub fits_seen : (p : RowPass S) → IsPassOf shape gives b p → AllFit (view p).seen
  fits_seen p is = all_fit (view p).terms.plan (view p).seen (valid_plan p is) (lawful_seen p is)

  -- the numbers of the pass are as they were, and it knows nothing of the next cell
  pub record HasSameWords (p q : RowPass S) : Type 0 where
    pub number : q.number ≡ p.number
    pub passed : q.passed ≡ p.passed
    pub floor : q.floor ≡ p.floor
    pub upto : q.upto ≡ p.upto
    pub beneath : q.beneath ≡ None

  -- one event more, and the slots by it
  goes_on : (p q : RowPass S) (e : Event) (first : Option S) (handed : Handed S) → IsPassOf shape gives b p → view q ≡ noting (saw (view p) e) first handed → length (view p).seen < (view p).terms.limits.most → q.seat.table_id ≡ p.seat.table_id → HasSameWords p q
      → HasSlots shape gives (jobs_of (view p).terms (λ b. first)) ((view p).seen ++ e ∷ []) (held_by (view p).terms.plan ((view p).seen ++ e ∷ []) (view p).worker) (slots q) → IsBack handed.next
      → StandsFor q.machine (view p).terms.plan ((view p).seen ++ e ∷ []) → IsPassOf shape gives b q
  goes_on p q e first handed is now room table words has back stands = record {
    table = table ∙ is.table;
    terms = ap (λ (x : View S). x.terms) now ∙ is.terms;
    may_read = subst (λ (x : View S). MayRead x) (sym now) (record { unspent = is.may_read.unspent; number = is.may_read.number; passed = omega (arith, is.may_read.passed, length-append (view p).seen (e ∷ [])) });
    number = words.number ∙ is.number ∙ sym (ap (λ (x : View S). x.worker) now);
    passed = words.passed ∙ is.passed ∙ sym (ap (λ (x : View S). x.marks.passed) now);
    floor = words.floor ∙ is.floor ∙ sym (ap (λ (x : View S). x.marks.floor) now);
    upto = words.upto ∙ is.upto ∙ sym (ap (λ (x : View S). x.marks.upto) now);
    beneath = nothing_beneath q.beneath (map word_of (view q).seen) words.beneath;
    few = subst (λ (x : View S). length x.seen ≤ x.terms.limits.most) (sym now) (omega (arith, room, length-append (view p).seen (e ∷ [])));
    began = subst (λ (x : View S). x.terms.opened ≤ length x.seen) (sym now) (omega (arith, is.began, length-append (view p).seen (e ∷ [])));
    has = subst (λ (x : View S). HasSlots shape gives (held_jobs x) x.seen (held_run x) (slots q)) (sym now) has;
    back = subst (λ (x : View S). IsBack x.handed.next) (sym now) back;
    stands = subst (λ (x : View S). StandsFor q.machine x.terms.plan x.seen) (sym now) stands;
  }

  -- another's event
  pub sees_another : (p q : RowPass S) (e : Event) → IsPassOf shape gives b p → SeesMore (view p) e (view q) → length (view p).seen < (view p).terms.limits.most → q.seat.table_id ≡ p.seat.table_id → HasSameWords p q → slots q ≡ slots p
      → StandsFor q.machine (view p).terms.plan ((view p).seen ++ e ∷ []) → IsPassOf shape gives b q
  sees_another p q e is s room table words same stands =
      let v = view p in
      goes_on p q e v.first v.handed is s.view room table words
      (subst (HasSlots shape gives (held_jobs v) (v.seen ++ e ∷ []) (held_by v.terms.plan (v.seen ++ e ∷ []) v.worker)) (sym same)
      (has_more shape gives (held_jobs v) v.seen e v.worker (slots p) (lawful_seen p is) s.may (of_another v.worker e s.other) is.has)) is.back stands

  -- where an event takes no run, nothing is found
  pub nothing_found : (e : Event) (first : Option S) (d : List (ℕ × S)) → taken e ≡ None → first_after e first d ≡ first
  nothing_found e first d untaken = ap (λ (o : Option Run). cond (is_some o) (front_cell d) first) untaken

  -- after its own event the pass has no slot of a block that comes
  back_after : (o : Option Blk) (n m : Handed S) → HandsOn o n m → IsBack n.next → IsBack m.next
  back_after None n m same back = subst (λ (x : Handed S). IsBack x.next) (sym same) back
  back_after (Some k) n m on back = subst (λ (x : Handed S). IsBack x.next) (sym on.1) tt

  -- its own event
  pub places_own : (p q : RowPass S) (e : Event) → IsPassOf shape gives b p → length (view p).seen < (view p).terms.limits.most → q.seat.table_id ≡ p.seat.table_id → HasSameWords p q
      → worker_of e ≡ (view p).worker → why (view p).terms.plan (view p).seen e ≡ None → Wins shape gives e (view p) (slots p) (view q) (slots q)
      → StandsFor q.machine (view p).terms.plan ((view p).seen ++ e ∷ []) → IsPassOf shape gives b q
  places_own p q e is room table words mine may wins stands =
      let v = view p in
      let found = (view q).first in
      let jobs : Jobs S = jobs_of v.terms (λ b. found) in
      let turned : Turned shape gives jobs v.seen e (slots p) (slots q) = subst (λ (t : Terms S). Turned shape gives (jobs_of t (λ b. found)) v.seen e (slots p) (slots q)) (ap (λ (x : View S). x.terms) wins.view) wins.turned in
      goes_on p q e found (view q).handed is wins.view room table words
      (subst (λ (w : ℕ). HasSlots shape gives jobs (v.seen ++ e ∷ []) (held_by v.terms.plan (v.seen ++ e ∷ []) w) (slots q)) mine
      (has_own shape gives jobs (job_of v.terms (λ b. v.first)) v.seen e (slots p) (slots q) (lawful_seen p is) may turned
      (λ untaken. ap (λ (o : Option S). job_of v.terms (λ b. o)) (sym (wins.first ∙ nothing_found e v.first (slots q) untaken)))
      (subst (λ (w : ℕ). HasSlots shape gives (held_jobs v) v.seen (held_by v.terms.plan v.seen w) (slots p)) (sym mine) is.has)))
      (back_after (accepted e) v.handed (view q).handed wins.handed is.back) stands

  -- what its event gives back may lie there after it
  pub lays : (p : RowPass S) (e : Event) → IsPassOf shape gives b p → worker_of e ≡ (view p).worker → why (view p).terms.plan (view p).seen e ≡ None → GivesBack shape (view p).terms (view p).seen e (slots p) → LaysBack shape gives e p.seat.me
  lays p e is mine may back =
      let v = view p in
      lays_back shape gives (held_jobs v) v.seen e (slots p) (lawful_seen p is) may (subst (λ (w : ℕ). HasSlots shape gives (held_jobs v) v.seen (held_by v.terms.plan v.seen w) (slots p)) (sym mine) is.has) back

  -- what is ready to be given back stays so while others go on
  pub back_stays_on : (p q : RowPass S) (e : Event) → IsPassOf shape gives b p → LearntOn (view p) (view q) → slots q ≡ slots p → GivesBack shape (view p).terms (view p).seen e (slots p) → GivesBack shape (view q).terms (view q).seen e (slots q)
  back_stays_on p q e is l same back =
      let v = view p in
      subst (λ (x : View S). GivesBack shape x.terms x.seen e (slots q)) (sym l.is)
      (subst (GivesBack shape v.terms (v.seen ++ l.event ∷ []) e) (sym same) (back_waits shape gives (held_jobs v) v.seen e l.event v.worker (slots p) (lawful_seen p is) l.may is.has back))

-- what an event asks that is to be placed, it asks still where the pass knows more of the passed words
pub still_asked : {S : Type 0} (shape : S → Shape) (v u : View S) (n : ℕ) (e : Event) (c d : List (ℕ × S)) → Knew v u → d ≡ c → n ≡ length v.seen
    → worker_of e ≡ v.worker → why v.terms.plan v.seen e ≡ None → GivesBack shape v.terms v.seen e c
    → (n ≡ length u.seen) × (worker_of e ≡ u.worker) × (why u.terms.plan u.seen e ≡ None) × GivesBack shape u.terms u.seen e d
still_asked {S} shape v u n e c d k same place mine may back = (
  subst (λ (x : View S). n ≡ length x.seen) (sym k.is) place,
  subst (λ (x : View S). worker_of e ≡ x.worker) (sym k.is) mine,
  subst (λ (x : View S). why x.terms.plan x.seen e ≡ None) (sym k.is) may,
  subst (λ (x : View S). GivesBack shape x.terms x.seen e d) (sym k.is) (subst (λ (l : List (ℕ × S)). GivesBack shape v.terms v.seen e l) (sym same) back),
)
