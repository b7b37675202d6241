-- What passes are after splitting, telling and joining.
use Rattle.std.proofs.Common.{◌≡◌, ℕ, ◌<◌, ◌≤◌, Bool, true, false, cond, List, [], map, length, None, sym, refl, ap, ◌∙◌, subst, arith, lt-ltb, le-ltb, ltb, Option}
use mathlib.Core.Logic.{dite}
use native.Mathlib.Decide.{dec_le}
use Rattle.gcd_plan.specs.declared.numbers.Run.{Run}
use Rattle.gcd_event.specs.declared.event.Event.{Event}
use Rattle.gcd_event.specs.Words.{word_of}
use Rattle.gcd_machine.specs.Stands.{StandsFor}
use Rattle.gcd_machine.proofs.Views.Calls.{lawful_stands}
use Rattle.gcd_history.specs.Team.{of_worker, held_by}
use Rattle.gcd_row.specs.Shapes.{Shape}
use Rattle.gcd_row.specs.Jobs.{held_jobs}
use Rattle.gcd_row.specs.Lying.{HasSlots}
use Rattle.gcd_row.specs.Views.{IsBack, held_run, longer, merging, hearing, newcomer}
use Rattle.gcd_row.specs.Plays.{Compares}
use Rattle.gcd_row.specs.Passes.{IsPassOf, MayRead, Ahead, Merges, view, slots}
use Rattle.gcd_row.specs.declared.board.RowBoard.{RowBoard}
use Rattle.gcd_row.specs.declared.pass.RowPass.{RowPass}
use Rattle.gcd_row.specs.declared.view.View.{View}
use Rattle.gcd_row.specs.declared.view.Standing.{Standing}
use Rattle.gcd_row.proofs.Holding.{has_ahead, holds_nothing}
use Rattle.gcd_row.proofs.Onward.{stays_ahead}
use Rattle.gcd_row.proofs.Passing.{nothing_beneath, same_beneath}
use Rattle.gcd_row.proofs.Fronts.{starts_length}
use Rattle.gcd_row.specs.declared.view.Terms.{Terms}

module _ {S : Type 0} where
  merges_as : (v u : View S) (h : List Event) → longer v.seen u.seen ≡ h → Ahead v h → Ahead u h → Merges v u (merging (hearing v u) u)
  merges_as v u h is mine theirs = record { is = refl; mine = subst (Ahead v) (sym is) mine; theirs = subst (Ahead u) (sym is) theirs }

  pub merged : (v u w : View S) → Compares (hearing v u) → Compares (hearing u v) → w ≡ merging (hearing v u) u → Merges v u w
  merged v u w mine theirs is = subst (Merges v u) (sym is) (dite (dec_le (length u.seen) (length v.seen))
      (λ le. merges_as v u v.seen (ap (λ (c : Bool). cond c u.seen v.seen) (le-ltb (length v.seen) (length u.seen) le)) (stays_ahead v)
      (let t = theirs.seen_first le in record { more = t.0; own = t.1 }))
      (λ not. let lt : length v.seen < length u.seen = omega arith in let le : length v.seen ≤ length u.seen = omega arith in
      merges_as v u u.seen (ap (λ (c : Bool). cond c u.seen v.seen) (lt-ltb (length v.seen) (length u.seen) lt))
      (let t = mine.seen_first le in record { more = t.0; own = t.1 }) (stays_ahead u)))

module _ {S : Type 0} (shape : S → Shape) (gives : S → ℕ → Type 0) (b : RowBoard S) where
  -- a pass whose view changes in nothing but what was relayed to it and the numbers that it gave out
  pub same_pass : (p q : RowPass S) (relayed : List Event) (hands : List (ℕ × Standing)) → IsPassOf shape gives b p → q.seat.table_id ≡ p.seat.table_id → q.number ≡ p.number → q.machine ≡ p.machine → slots q ≡ slots p
      → q.passed ≡ p.passed → q.floor ≡ p.floor → q.upto ≡ p.upto → q.beneath ≡ p.beneath → view q ≡ record { terms = (view p).terms; spent = (view p).spent; worker = (view p).worker; seen = (view p).seen; relayed = relayed; hands = hands; marks = (view p).marks; first = (view p).first; handed = (view p).handed } → IsPassOf shape gives b q
  same_pass p q relayed hands is table number machine has own floor upto beneath now = record {
    table = table ∙ is.table;
    terms = ap (λ (x : View S). x.terms) now ∙ is.terms;
    may_read = subst (λ (x : View S). MayRead x) (sym now) (record { unspent = is.may_read.unspent; number = is.may_read.number; passed = is.may_read.passed });
    number = number ∙ is.number ∙ sym (ap (λ (x : View S). x.worker) now);
    passed = own ∙ is.passed ∙ sym (ap (λ (x : View S). x.marks.passed) now);
    floor = floor ∙ is.floor ∙ sym (ap (λ (x : View S). x.marks.floor) now);
    upto = upto ∙ is.upto ∙ sym (ap (λ (x : View S). x.marks.upto) now);
    beneath = same_beneath p.beneath q.beneath (view p).seen (view q).seen is.beneath beneath (ap (λ (x : View S). x.seen) now);
    few = subst (λ (x : View S). length x.seen ≤ x.terms.limits.most) (sym now) is.few;
    began = subst (λ (x : View S). x.terms.opened ≤ length x.seen) (sym now) is.began;
    has = subst (λ (x : View S). HasSlots shape gives (held_jobs x) x.seen (held_run x) (slots q)) (sym now) (subst (HasSlots shape gives (held_jobs (view p)) (view p).seen (held_run (view p))) (sym has) is.has);
    back = subst (λ (x : View S). IsBack x.handed.next) (sym now) is.back;
    stands = subst (λ (x : View S). StandsFor q.machine x.terms.plan x.seen) (sym now) (subst (λ m. StandsFor m (view p).terms.plan (view p).seen) (sym machine) is.stands);
  }

  -- a pass that was split off
  pub new_pass : (p q : RowPass S) (w : ℕ) → IsPassOf shape gives b p → of_worker w (view p).seen ≡ [] → q.seat.table_id ≡ p.seat.table_id → q.seat.me ≡ (newcomer (view p) w, []) → q.number ≡ w → StandsFor q.machine (view p).terms.plan (view p).seen → w < 64 → q.passed ≡ (view p).terms.opened → q.floor ≡ p.floor → q.upto ≡ p.upto → q.beneath ≡ p.beneath → IsPassOf shape gives b q
  new_pass p q w is none table me number stands low own floor upto beneath =
      let now : view q ≡ newcomer (view p) w = ap (λ (m : View S × List (ℕ × S)). m.0) me in
      let empty : slots q ≡ [] = ap (λ (m : View S × List (ℕ × S)). m.1) me in
      record {
        table = table ∙ is.table;
        terms = ap (λ (x : View S). x.terms) now ∙ is.terms;
        may_read = subst (λ (x : View S). MayRead x) (sym now) (record { unspent = refl; number = low; passed = is.began });
        number = number ∙ sym (ap (λ (x : View S). x.worker) now);
        passed = own ∙ sym (ap (λ (x : View S). x.marks.passed) now);
        floor = floor ∙ is.floor ∙ sym (ap (λ (x : View S). x.marks.floor) now);
        upto = upto ∙ is.upto ∙ sym (ap (λ (x : View S). x.marks.upto) now);
        beneath = same_beneath p.beneath q.beneath (view p).seen (view q).seen is.beneath beneath (ap (λ (x : View S). x.seen) now);
        few = subst (λ (x : View S). length x.seen ≤ x.terms.limits.most) (sym now) is.few;
        began = subst (λ (x : View S). x.terms.opened ≤ length x.seen) (sym now) is.began;
        back = subst (λ (x : View S). IsBack x.handed.next) (sym now) tt;
        has = subst (λ (x : View S). HasSlots shape gives (held_jobs x) x.seen (held_run x) (slots q)) (sym now)
            (subst (λ (o : Option Run). HasSlots shape gives (held_jobs (newcomer (view p) w)) (view p).seen o (slots q)) (sym (holds_nothing (view p).terms.plan (view p).seen w none)) empty);
        stands = subst (λ (x : View S). StandsFor q.machine x.terms.plan x.seen) (sym now) stands;
      }

  few_longer : (most : ℕ) (g h : List Event) → length g ≤ most → length h ≤ most → length (longer g h) ≤ most
  few_longer most g h a c = go (ltb (length g) (length h))
    where
      go : (x : Bool) → length (cond x h g) ≤ most
      go true = c
      go false = a

  -- a pass that has taken in another
  pub joined_pass : (p o q : RowPass S) → IsPassOf shape gives b p → IsPassOf shape gives b o → Ahead (view p) (longer (view p).seen (view o).seen) → q.seat.table_id ≡ p.seat.table_id → q.number ≡ p.number → slots q ≡ slots p
      → q.passed ≡ p.passed → q.floor ≡ p.floor → q.upto ≡ p.upto → q.beneath ≡ None → view q ≡ merging (view p) (view o) → StandsFor q.machine (view p).terms.plan (longer (view p).seen (view o).seen) → IsPassOf shape gives b q
  joined_pass p o q is other ahead table number has own floor upto beneath now stands =
      let v = view p in
      let h : List Event = longer v.seen (view o).seen in
      record {
        table = table ∙ is.table;
        terms = ap (λ (x : View S). x.terms) now ∙ is.terms;
        may_read = subst (λ (x : View S). MayRead x) (sym now) (record { unspent = is.may_read.unspent; number = is.may_read.number; passed = omega (arith, is.may_read.passed, starts_length h v.seen ahead.more) });
        number = number ∙ is.number ∙ sym (ap (λ (x : View S). x.worker) now);
        passed = own ∙ is.passed ∙ sym (ap (λ (x : View S). x.marks.passed) now);
        floor = floor ∙ is.floor ∙ sym (ap (λ (x : View S). x.marks.floor) now);
        upto = upto ∙ is.upto ∙ sym (ap (λ (x : View S). x.marks.upto) now);
        beneath = nothing_beneath q.beneath (map word_of (view q).seen) beneath;
        few = subst (λ (x : View S). length x.seen ≤ x.terms.limits.most) (sym now) (few_longer v.terms.limits.most v.seen (view o).seen is.few (subst (λ (q : Terms S). length (view o).seen ≤ q.limits.most) (other.terms ∙ sym is.terms) other.few));
        began = subst (λ (x : View S). x.terms.opened ≤ length x.seen) (sym now) (omega (arith, is.began, starts_length h v.seen ahead.more));
        back = subst (λ (x : View S). IsBack x.handed.next) (sym now) is.back;
        has = subst (λ (x : View S). HasSlots shape gives (held_jobs x) x.seen (held_run x) (slots q)) (sym now)
            (subst (HasSlots shape gives (held_jobs v) h (held_by v.terms.plan h v.worker)) (sym has)
            (has_ahead shape gives (held_jobs v) v.seen h v.worker (slots p) (lawful_stands q.machine v.terms.plan h stands) ahead.more ahead.own is.has));
        stands = subst (λ (x : View S). StandsFor q.machine x.terms.plan x.seen) (sym now) stands;
      }
