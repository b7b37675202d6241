-- What calls add to the row.
use Rattle.std.proofs.Common.{◌≡◌, ℕ, zero, suc, Bool, true, false, not, ◌||◌, cond, List, [], ◌∷◌, ◌++◌, drop, length, filter, Some, sym, refl, ap, ◌∙◌, subst, append-nil, append_assoc, ◌⊎◌, inl, inr}
use Rattle.std.specs.List.{list_all}
use Rattle.std.proofs.lemmas.Bool.{and_from}
use Rattle.std.proofs.Math.Bool.{or-true}
use Rattle.std.proofs.Math.Seq.{drop-append_seam}
use Rattle.gcd_plan.specs.declared.numbers.Run.{Run}
use Rattle.gcd_event.specs.declared.event.Event.{Event}
use Rattle.gcd_event.specs.declared.event.Event.TheVariants.{End, DeliverEnd}
use Rattle.gcd_history.specs.Choice.{is_work}
use Rattle.gcd_history.specs.Intake.{accepted}
use Rattle.gcd_history.proofs.Lists.{all_both}
use Rattle.gcd_loop.proofs.Events.{work_accepts_none}
use Rattle.gcd_history.specs.Held.{is_of}
use Rattle.gcd_history.specs.Team.{of_worker, StartsWith}
use Rattle.gcd_history.proofs.HeldRuns.OwnEvents.{none_of_worker}
use Rattle.gcd_row.specs.Views.{knowing, seeing}
use Rattle.gcd_row.specs.Passes.{Ahead, Sees, Says}
use Rattle.gcd_machine.specs.declared.put.Put.{Put}
use Rattle.gcd_machine.specs.declared.put.Put.TheVariants.{Placed, Barred, Held, Full}
use Rattle.gcd_row.specs.declared.view.View.{View}
use Rattle.gcd_event.specs.Owners.{ended}
use Rattle.gcd_row.proofs.AfterPut.{handed_by}
use Rattle.gcd_pool.specs.Works.{AddsNone, AddsOnly, AddsWork, IsAddedBy, is_own_work}

-- where no event is its own
none_own : (w : ℕ) (rest : List Event) → filter (is_of w) rest ≡ [] → list_all (is_own_work w) rest ≡ true
none_own w [] none = refl
none_own w (e ∷ rest) none =
    elim (is_of w e) as (λ b. cond b (e ∷ filter (is_of w) rest) (filter (is_of w) rest) ≡ [] → Rattle.std.specs.Prelude.◌&&◌ (not b || is_work e) (list_all (is_own_work w) rest) ≡ true) [
      | true ↦ λ h. cc
      | false ↦ λ h. none_own w rest h
    ] none

module _ {S : Type 0} where
  pub adds_nothing : (v w : View S) → w ≡ v → AddsWork v w
  adds_nothing v w same = record {
    worker = ap (λ (x : View S). x.worker) same;
    rest = [];
    split = ap (λ (x : View S). x.seen) same ∙ sym (append-nil v.seen);
    work = refl;
    handed = ap (λ (x : View S). x.handed) same;
  }

  pub adds_further : (v u w : View S) → AddsWork v u → AddsWork u w → AddsWork v w
  adds_further v u w a b = record {
    worker = b.worker ∙ a.worker;
    rest = a.rest ++ b.rest;
    split = b.split ∙ ap (λ (l : List Event). l ++ b.rest) a.split ∙ append_assoc v.seen a.rest b.rest;
    work = all_both (is_own_work v.worker) a.rest b.rest a.work (subst (λ (n : ℕ). list_all (is_own_work n) b.rest ≡ true) a.worker b.work);
    handed = b.handed ∙ a.handed;
  }

  pub ahead_adds : (v w : View S) → w.worker ≡ v.worker → w.handed ≡ v.handed → Ahead v w.seen → AddsWork v w
  ahead_adds v w same handed a = record {
    worker = same;
    rest = a.more.0;
    split = a.more.1;
    work = none_own v.worker a.more.0 (none_of_worker v.worker v.seen a.more.0 (sym (ap (of_worker v.worker) a.more.1) ∙ a.own));
    handed = handed;
  }

  pub sees_adds : (v w : View S) → Sees v w → AddsWork v w
  sees_adds v w l = ahead_adds v w (ap (λ (x : View S). x.worker) l.is) (ap (λ (x : View S). x.handed) l.is) l.ahead

  -- it knows something else of the passed words, and nothing more
  pub knowing_adds : (v w : View S) → w ≡ knowing v v.seen w.marks → AddsWork v w
  knowing_adds v w is = record {
    worker = ap (λ (x : View S). x.worker) is;
    rest = [];
    split = ap (λ (x : View S). x.seen) is ∙ sym (append-nil v.seen);
    work = refl;
    handed = ap (λ (x : View S). x.handed) is;
  }

  pub says_adds : (e : Event) (v w : View S) (r : Put) → is_work e ≡ true → Says e v w r → AddsWork v w
  says_adds e v w (Placed n) work p =
      let before = ahead_adds v (seeing v p.history) refl refl p.ahead in
      record {
        worker = ap (λ (x : View S). x.worker) p.is;
        rest = before.rest ++ e ∷ [];
        split = ap (λ (x : View S). x.seen) p.is ∙ ap (λ (l : List Event). l ++ e ∷ []) before.split ∙ append_assoc v.seen before.rest (e ∷ []);
        work = all_both (is_own_work v.worker) before.rest (e ∷ []) before.work
            (and_from (not (is_of v.worker e) || is_work e) true (ap (λ (b : Bool). not (is_of v.worker e) || b) work ∙ or-true (not (is_of v.worker e))) refl);
        handed = handed_by (accepted e) v.handed w.handed (work_accepts_none e work) p.handed;
      }
  says_adds e v w (Barred at y) work p = sees_adds v w p.0.sees
  says_adds e v w (Held by passed) work p = sees_adds v w p.0.sees
  says_adds e v w Full work p = ahead_adds v w (ap (λ (x : View S). x.worker) p.0) (ap (λ (x : View S). x.handed) p.0) p.1

pub ended_is_work : (e : Event) (r : Run) → ended e ≡ Some r → is_work e ≡ true
ended_is_work (End w b) r is = refl
ended_is_work (DeliverEnd w s) r is = refl
ended_is_work e r is = absurd (cc)

-- ## Where each event that has come is the worker's own

all_filter : (w : ℕ) (rest : List Event) → list_all (is_of w) rest ≡ true → filter (is_of w) rest ≡ [] → rest ≡ []
all_filter w [] all none = refl
all_filter w (e ∷ rest) all none =
    let parts = Rattle.std.proofs.lemmas.Bool.and_parts (is_of w e) (list_all (is_of w) rest) all in
    let bad : e ∷ filter (is_of w) rest ≡ [] = sym (ap (λ (b : Bool). cond b (e ∷ filter (is_of w) rest) (filter (is_of w) rest)) parts.0) ∙ none in
    cc

all_front : (p : Event → Bool) (xs ys : List Event) → list_all p (xs ++ ys) ≡ true → (list_all p xs ≡ true) × (list_all p ys ≡ true)
all_front p [] ys all = (refl, all)
all_front p (x ∷ xs) ys all =
    let parts = Rattle.std.proofs.lemmas.Bool.and_parts (p x) (list_all p (xs ++ ys)) all in
    let more = all_front p xs ys parts.1 in
    (and_from (p x) (list_all p xs) parts.0 more.0, more.1)

-- what holds from a place on holds there in a front
drop_front : (p : Event → Bool) (n : ℕ) (xs ys : List Event) → list_all p (drop n (xs ++ ys)) ≡ true → list_all p (drop n xs) ≡ true
drop_front p zero xs ys all = (all_front p xs ys all).0
drop_front p (suc n) [] ys all = refl
drop_front p (suc n) (x ∷ xs) ys all = drop_front p n xs ys all

-- what has come behind a beginning
all_behind : (w : ℕ) (h k rest : List Event) → k ≡ h ++ rest → IsAddedBy w h k → list_all (is_of w) rest ≡ true
all_behind w h k rest split all = sym (ap (λ (l : List Event). list_all (is_of w) (drop (length h) l)) split ∙ ap (list_all (is_of w)) (drop-append_seam h rest)) ∙ all

-- what has come since is what has come since before, from a later place on
pub added_later : (w : ℕ) (h k l : List Event) → StartsWith k h → StartsWith l k → IsAddedBy w h l → IsAddedBy w k l
added_later w h k l first later all =
    let split : l ≡ h ++ (first.0 ++ later.0) = later.1 ∙ ap (λ (x : List Event). x ++ later.0) first.1 ∙ append_assoc h first.0 later.0 in
    let rest = (all_front (is_of w) first.0 later.0 (all_behind w h l (first.0 ++ later.0) split all)).1 in
    ap (λ (x : List Event). list_all (is_of w) (drop (length k) x)) later.1 ∙ ap (list_all (is_of w)) (drop-append_seam k later.0) ∙ rest

module _ {S : Type 0} where
  ahead_none : (v : View S) (h : List Event) → Ahead v h → IsAddedBy v.worker v.seen h → h ≡ v.seen
  ahead_none v h a all =
      let rest = a.more.0 in
      let split : h ≡ v.seen ++ rest = a.more.1 in
      let none = none_of_worker v.worker v.seen rest (sym (ap (of_worker v.worker) split) ∙ a.own) in
      split ∙ ap (λ (l : List Event). v.seen ++ l) (all_filter v.worker rest (all_behind v.worker v.seen h rest split all) none) ∙ append-nil v.seen

  pub ahead_adds_none : (v w : View S) → Ahead v w.seen → AddsNone v w
  ahead_adds_none v w a = record { none = λ all. ahead_none v w.seen a all }

  pub sees_none : (v w : View S) → Sees v w → AddsNone v w
  sees_none v w l = ahead_adds_none v w l.ahead

  pub none_only : (e : Event) (v w : View S) → AddsNone v w → AddsOnly e v w
  none_only e v w a = record { only = λ all. inl (a.none all) }

  pub says_only : (e : Event) (v w : View S) (r : Put) → Says e v w r → AddsOnly e v w
  says_only e v w (Placed n) p = record {
    only = λ all.
        let is : w.seen ≡ p.history ++ e ∷ [] = ap (λ (x : View S). x.seen) p.is in
        let front = drop_front (is_of v.worker) (length v.seen) p.history (e ∷ []) (subst (IsAddedBy v.worker v.seen) is all) in
        inr (is ∙ ap (λ (l : List Event). l ++ e ∷ []) (ahead_none v p.history p.ahead front));
  }
  says_only e v w (Barred at y) p = none_only e v w (sees_none v w p.0.sees)
  says_only e v w (Held by passed) p = none_only e v w (sees_none v w p.0.sees)
  says_only e v w Full p = none_only e v w (ahead_adds_none v w p.1)

  -- what is seen later has what was seen before
  pub still_all : (n : ℕ) (h : List Event) (u w : View S) → StartsWith w.seen u.seen → IsAddedBy n h w.seen → IsAddedBy n h u.seen
  still_all n h u w starts all = drop_front (is_of n) (length h) u.seen starts.0 (subst (IsAddedBy n h) starts.1 all)

  -- nothing had come before
  from_there : (v u w : View S) → u.worker ≡ v.worker → u.seen ≡ v.seen → IsAddedBy v.worker v.seen w.seen → IsAddedBy u.worker u.seen w.seen
  from_there v u w same seen all =
      subst (λ (n : ℕ). IsAddedBy n u.seen w.seen) (sym same) (subst (λ (h : List Event). IsAddedBy v.worker h w.seen) (sym seen) all)

  pub none_further : (v u w : View S) → u.worker ≡ v.worker → StartsWith w.seen u.seen → AddsNone v u → AddsNone u w → AddsNone v w
  none_further v u w same starts a b = record {
    none = λ all. let seen = a.none (still_all v.worker v.seen u w starts all) in b.none (from_there v u w same seen all) ∙ seen;
  }

  pub none_then : (e : Event) (v u w : View S) → u.worker ≡ v.worker → StartsWith w.seen u.seen → AddsNone v u → AddsOnly e u w → AddsOnly e v w
  none_then e v u w same starts a b = record {
    only = λ all.
        let seen = a.none (still_all v.worker v.seen u w starts all) in
        subst (λ (l : List Event). (w.seen ≡ l) ⊎ (w.seen ≡ l ++ e ∷ [])) seen (b.only (from_there v u w same seen all));
  }
