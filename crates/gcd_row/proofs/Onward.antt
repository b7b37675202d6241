-- One event more in a loop, and in what a pass is.
use Rattle.std.proofs.Common.{◌≡◌, ◌≢◌, ℕ, suc, Some, Option, ◌+◌, ◌<◌, List, [], ◌∷◌, ◌++◌, length, sym, refl, ap, ◌∙◌, subst, arith, length-append, None, false, ne_eqb}
use Rattle.gcd_event.specs.declared.event.Event.{Event}
use Rattle.gcd_history.specs.Choice.{worker_of}
use Rattle.gcd_history.specs.History.{why}
use Rattle.gcd_history.specs.Intake.{accepted}
use Rattle.gcd_history.specs.Held.{is_of, taken}
use Rattle.gcd_history.specs.Team.{of_worker, StartsWith}
use Rattle.gcd_row.specs.declared.view.Handed.{Handed}
use Rattle.gcd_row.specs.declared.view.PassMarks.{PassMarks}
use Rattle.gcd_row.specs.declared.view.View.{View}
use Rattle.gcd_machine.specs.declared.put.Put.{Put}
use Rattle.gcd_machine.specs.declared.put.Put.TheVariants.{Placed, Barred, Held, Full}
use Rattle.gcd_row.specs.Views.{saw, seeing, noting, knowing, known, looking, passing}
use Rattle.gcd_row.specs.Plays.{SeesMore, EndsHere, HandsOn, KnowsFresh}
use Rattle.gcd_row.specs.Passes.{Ahead, IsLater, Learnt, LearntOn, Looks, Sees, IsHolder, IsPlaced, Says, Knew, Turns}
use Rattle.gcd_row.proofs.Fronts.{starts_refl, starts_trans, starts_more, own_more}

-- an event of another worker is not this one's
pub of_another : (w : ℕ) (e : Event) → worker_of e ≢ w → is_of w e ≡ false
of_another w e ne = ne_eqb (worker_of e) w ne

pub is_later : (m n k : PassMarks) → IsLater m n → IsLater n k → IsLater m k
is_later m n k a b = record { loads = omega (arith, a.loads, b.loads); looks = omega (arith, a.looks, b.looks) }

pub same_later : (m n : PassMarks) → n ≡ m → IsLater m n
same_later m n is = subst (IsLater m) (sym is) (record { loads = omega arith; looks = omega arith })

module _ {S : Type 0} where
  pub learnt : (v w : View S) (e : Event) → SeesMore v e w → Learnt v w
  learnt v w e s = record {
    event = e;
    is = s.view;
    ahead = record { more = subst (λ (x : View S). StartsWith x.seen v.seen) (sym s.view) (starts_more v.seen e); own = s.own };
    may = s.may;
    other = s.other;
  }

  pub stays_ahead : (v : View S) → Ahead v v.seen
  stays_ahead v = record { more = starts_refl v.seen; own = refl }

  pub further : (v u w : View S) → u ≡ knowing v u.seen (known v u) → Ahead v u.seen → Ahead u w.seen → Ahead v w.seen
  further v u w is a b = record {
    more = starts_trans w.seen u.seen v.seen b.more a.more;
    own = subst (λ (k : ℕ). of_worker k w.seen ≡ of_worker k u.seen) (ap (λ (y : View S). y.worker) is) b.own ∙ a.own;
  }

  -- a pass that has seen this, and whose own passed word is as v knows it
  pub knows_as : (v w : View S) (h : List Event) (m : PassMarks) → w ≡ knowing v h m → m.passed ≡ v.marks.passed → w ≡ knowing v h (known v w)
  knows_as v w h m is own =
      let same : m ≡ passing m v.marks.passed = ap (passing m) own in
      is ∙ ap (knowing v h) same ∙ ap (λ (y : View S). knowing v h (known v y)) (sym is)

  -- a loop that has come from v to w
  pub record Onward (v w : View S) (n : ℕ) : Type 0 where
    pub place : n ≡ length w.seen
    pub known : w ≡ knowing v w.seen (known v w)
    pub ahead : Ahead v w.seen
    pub later : IsLater v.marks w.marks

  pub onward_on : (v u w : View S) (n : ℕ) → n ≡ length u.seen → u ≡ knowing v u.seen (known v u) → Ahead v u.seen → IsLater v.marks u.marks → LearntOn u w → Onward v w (n + 1)
  onward_on v u w n len is a later l =
      let w_seen : w.seen ≡ u.seen ++ l.event ∷ [] = ap (λ (y : View S). y.seen) l.is in
      record {
        place = omega (arith, ap length w_seen, length-append u.seen (l.event ∷ []));
        known = l.is ∙ ap (λ (y : View S). knowing y (u.seen ++ l.event ∷ []) (known y w)) is ∙ ap (λ (h : List Event). knowing v h (known v w)) (sym w_seen);
        ahead = further v u w is a l.ahead;
        later = is_later v.marks u.marks w.marks later l.later;
      }

  -- one event more, with the same of the passed words
  pub learnt_on : (v w : View S) → Learnt v w → LearntOn v w
  learnt_on v w l = record {
    event = l.event;
    is = l.is ∙ (λ i. knowing v (v.seen ++ l.event ∷ []) (known v (sym l.is i)));
    later = same_later v.marks w.marks (ap (λ (y : View S). y.marks) l.is);
    ahead = l.ahead;
    may = l.may;
    other = l.other;
  }

  pub onward : (v u w : View S) (n : ℕ) → n ≡ length u.seen → u ≡ seeing v u.seen → Ahead v u.seen → Learnt u w → (n + 1 ≡ length w.seen) × (w ≡ seeing v w.seen) × Ahead v w.seen
  onward v u w n len is a l =
      let w_seen : w.seen ≡ u.seen ++ l.event ∷ [] = ap (λ (y : View S). y.seen) l.is in (
        omega (arith, len, ap length w_seen, length-append u.seen (l.event ∷ [])),
        l.is ∙ ap (λ (y : View S). seeing y (u.seen ++ l.event ∷ [])) is ∙ ap (seeing v) (sym w_seen),
        further v u w (is ∙ (λ i. knowing v u.seen (known v (sym is i)))) a l.ahead,
      )

  -- the event that was placed at once
  pub placed_here : (e : Event) (v w : View S) (n : ℕ) → n ≡ length v.seen → n < v.terms.limits.most → worker_of e ≡ v.worker → why v.terms.plan v.seen e ≡ None
      → w ≡ noting (saw v e) w.first w.handed → (taken e ≡ None → w.first ≡ v.first) → HandsOn (accepted e) v.handed w.handed → IsPlaced e v w n
  placed_here e v w n len room mine may is first handed =
      let w_seen : w.seen ≡ v.seen ++ e ∷ [] = ap (λ (y : View S). y.seen) is in
      record {
        history = v.seen;
        ahead = stays_ahead v;
        place = len;
        room = room;
        may = may;
        is = is ∙ (λ i. noting (knowing v (v.seen ++ e ∷ []) (known v (sym is i))) w.first w.handed);
        first = first;
        handed = handed;
        own = ap (of_worker v.worker) w_seen ∙ own_more v.worker v.seen e mine;
      }

  sees_on : (v u w : View S) → u ≡ knowing v u.seen (known v u) → Ahead v u.seen → Sees u w → Sees v w
  sees_on v u w is a l = record {
    is = l.is ∙ ap (λ (y : View S). knowing y w.seen (known y w)) is;
    ahead = further v u w is a l.ahead;
    relayed = subst (StartsWith w.seen) (ap (λ (y : View S). y.relayed) is) l.relayed;
    fresh = l.fresh;
  }

  looks_on : (v u w : View S) → u ≡ knowing v u.seen (known v u) → Ahead v u.seen → IsLater v.marks u.marks → Looks u w → Looks v w
  looks_on v u w is a later l = record { sees = sees_on v u w is a l.sees; told = let few = later.looks in omega (arith, few, l.told); here = l.here }

  -- a load told a loop that has come from v to u that the row is what u has seen
  pub looks_here : (v u w : View S) → u ≡ knowing v u.seen (known v u) → Ahead v u.seen → IsLater v.marks u.marks → EndsHere u w → Looks v w
  looks_here v u w is a later l =
      let seen : w.seen ≡ u.seen = ap (λ (y : View S). y.seen) l.view in
      looks_on v u w is a later (record {
        sees = record {
          is = knows_as u w w.seen (looking u.marks (length u.seen)) (l.view ∙ ap (λ (h : List Event). knowing u h (looking u.marks (length u.seen))) (sym seen)) refl;
          ahead = subst (Ahead u) (sym seen) (stays_ahead u);
          relayed = subst (λ (h : List Event). StartsWith h u.relayed) (sym seen) l.relayed;
          fresh = subst KnowsFresh (sym l.view) l.fresh;
        };
        told = let more : w.marks.looks ≡ suc u.marks.looks = ap (λ (y : View S). y.marks.looks) l.view in omega (arith, more);
        here = ap (λ (y : View S). y.marks.looked) l.view ∙ ap length (sym seen);
      })

  -- and knows nothing else
  pub knew_here : (v w : View S) → EndsHere v w → Knew v w
  knew_here v w l = record {
    is = knows_as v w v.seen (looking v.marks (length v.seen)) l.view refl;
    later = subst (IsLater v.marks) (sym (ap (λ (y : View S). y.marks) l.view)) (record { loads = omega arith; looks = omega arith });
  }

  holder_on : (v u w : View S) (by passed : ℕ) → u ≡ knowing v u.seen (known v u) → IsLater v.marks u.marks → IsHolder u w by passed → IsHolder v w by passed
  holder_on v u w by passed is later p = record {
    worker = subst (λ (z : View S). by < z.terms.limits.workers) is p.worker;
    lap_ago = p.lap_ago;
    loaded = let few = later.loads in omega (arith, few, p.loaded);
    held = p.held;
    below = p.below;
    lowest = p.lowest;
    mine = subst (λ (z : View S). by ≡ z.worker → passed ≡ z.marks.passed) is p.mine;
  }

  -- what an answer says after more was seen, it says of what was seen before
  pub says_on : (e : Event) (v u w : View S) (r : Put) → u ≡ knowing v u.seen (known v u) → Ahead v u.seen → IsLater v.marks u.marks → Says e u w r → Says e v w r
  says_on e v u w (Placed n) is a later p = record {
    history = p.history;
    ahead = record { more = starts_trans p.history u.seen v.seen p.ahead.more a.more; own = subst (λ (k : ℕ). of_worker k p.history ≡ of_worker k u.seen) (ap (λ (y : View S). y.worker) is) p.ahead.own ∙ a.own };
    place = p.place;
    room = subst (λ (y : View S). n < y.terms.limits.most) is p.room;
    may = subst (λ (y : View S). why y.terms.plan p.history e ≡ None) is p.may;
    is = p.is ∙ ap (λ (y : View S). noting (knowing y (p.history ++ e ∷ []) (known y w)) w.first w.handed) is;
    first = λ untaken. p.first untaken ∙ ap (λ (y : View S). y.first) is;
    handed = subst (λ (x : Handed S). HandsOn (accepted e) x w.handed) (ap (λ (y : View S). y.handed) is) p.handed;
    own = subst (λ (k : ℕ). of_worker k w.seen ≡ of_worker k u.seen ++ e ∷ []) (ap (λ (y : View S). y.worker) is) p.own ∙ ap (λ (k : List Event). k ++ e ∷ []) a.own;
  }
  says_on e v u w (Barred at y) is a later p = (looks_on v u w is a later p.0, p.1, subst (λ (z : View S). at < z.terms.limits.most) is p.2, subst (λ (z : View S). why z.terms.plan w.seen e ≡ Some y) is p.3)
  says_on e v u w (Held by passed) is a later p = (
    record {
      sees = sees_on v u w is a p.0.sees;
      room = subst (λ (z : View S). length w.seen < z.terms.limits.most) is p.0.room;
      holder = holder_on v u w by passed is later p.0.holder;
    },
    subst (λ (z : View S). why z.terms.plan w.seen e ≡ None) is p.1,
  )
  says_on e v u w Full is a later p = (p.0 ∙ ap (λ (y : View S). knowing y w.seen (known y w)) is, further v u w is a p.1, subst (λ (z : View S). length w.seen ≡ z.terms.limits.most) is p.2)

  -- what a turn says after the pass has learnt more of the passed words
  pub turns_on : (e : Event) (v u w : View S) (r : Option Put) → Knew v u → Turns e u w r → Turns e v w r
  turns_on e v u w None k l = record {
    event = l.event;
    is = l.is ∙ ap (λ (y : View S). knowing y (y.seen ++ l.event ∷ []) (known y w)) k.is;
    later = is_later v.marks u.marks w.marks k.later l.later;
    ahead = let a = subst (λ (y : View S). Ahead y w.seen) k.is l.ahead in record { more = a.more; own = a.own };
    may = subst (λ (y : View S). why y.terms.plan y.seen l.event ≡ None) k.is l.may;
    other = subst (λ (y : View S). worker_of l.event ≢ y.worker) k.is l.other;
  }
  turns_on e v u w (Some r) k says =
      let seen : u.seen ≡ v.seen = ap (λ (y : View S). y.seen) k.is in
      says_on e v u w r (k.is ∙ (λ i. knowing v (sym seen i) (known v u))) (subst (Ahead v) (sym seen) (stays_ahead v)) k.later says

  -- where one event more was seen, the pass is known by that
  pub learnt_is : (v w : View S) → LearntOn v w → w ≡ knowing v w.seen (known v w)
  learnt_is v w l = l.is ∙ ap (λ (h : List Event). knowing v h (known v w)) (sym (ap (λ (y : View S). y.seen) l.is))
