-- What a pass is after an event was put until no passed word holds it.
use Rattle.std.proofs.Common.{◌≡◌, ℕ, true, List, length, Some, None, sym, refl, ap, ◌∙◌, subst}
use Rattle.gcd_plan.specs.declared.numbers.Run.{Run}
use Rattle.gcd_plan.specs.declared.why.Why.{Why}
use Rattle.gcd_event.specs.Owners.{ended}
use Rattle.gcd_event.specs.declared.event.Event.{Event}
use Rattle.gcd_history.specs.Choice.{is_work, worker_of}
use Rattle.gcd_history.specs.Intake.{accepted}
use Rattle.gcd_history.specs.Team.{of_worker}
use Rattle.gcd_row.specs.Shapes.{Shape}
use Rattle.gcd_row.specs.Lying.{GivesBack}
use Rattle.gcd_row.specs.Views.{knowing}
use Rattle.gcd_row.specs.Passes.{IsPassOf, Sees, Says, SaysSlots, slots, view}
use Rattle.gcd_row.specs.declared.board.RowBoard.{RowBoard}
use Rattle.gcd_row.specs.declared.pass.RowPass.{RowPass}
use Rattle.gcd_machine.specs.declared.put.Put.{Put}
use Rattle.gcd_machine.specs.declared.put.Put.TheVariants.{Placed, Barred, Held, Full}
use Rattle.gcd_row.specs.Plays.{HandsOn}
use Rattle.gcd_row.specs.declared.view.Handed.{Handed}
use Rattle.gcd_row.specs.declared.view.View.{View}
use Rattle.gcd_row.proofs.Fronts.{starts_refl, starts_trans}
use Rattle.gcd_pool.specs.Hands.{GoesOn, IsFresh, IsSettled}
use Rattle.gcd_pool.specs.Throughs.{HasWaited, SaysThrough, WasPut}
use Rattle.gcd_pool.specs.Placing.{HasPlaced, HasPlacedNone, SaysRecorded, WasHeldUp}
use Rattle.gcd_pool.specs.Works.{AddsNone, AddsOnly, AddsWork}
use Rattle.gcd_pool.specs.declared.turn.Turn.{Turn}
use Rattle.gcd_pool.specs.declared.turn.Turn.TheVariants.{Left, Waited, Placed as TurnPlaced, Ended, Stopped as TurnStopped}
use Rattle.gcd_pool.proofs.Placing.{leaves_barred, leaves_full, one_further, put_barred, quiet_further, recorded_further, records, records_end, stops, waits_barred}
use Rattle.gcd_pool.proofs.Puts.{ahead_fresh, gives_ahead, goes_further, knowing_goes_on, sees_is, passing_goes_on, says_fresh, says_goes_on, settled_ahead, settled_placed}
use Rattle.gcd_pool.proofs.Works.{adds_further, ahead_adds, ahead_adds_none, none_only, none_then, says_adds, says_only}

-- ## It has waited

module _ {S : Type 0} where
  pub waits_nowhere : (p : RowPass S) → HasWaited p p
  waits_nowhere p = record { is = refl; ahead = record { more = starts_refl (view p).seen; own = refl }; same = refl }

  pub sees_waits : (p q : RowPass S) → Sees (view p) (view q) → slots q ≡ slots p → HasWaited p q
  sees_waits p q looks same = record { is = sees_is (view p) (view q) looks; ahead = looks.ahead; same = same }

  -- it knows something else of the passed words, and nothing more
  pub passing_waits : (p q : RowPass S) → view q ≡ knowing (view p) (view p).seen (view q).marks → slots q ≡ slots p → HasWaited p q
  passing_waits p q is same =
      let go = passing_goes_on (view p) (view q) is in
      let seen : (view q).seen ≡ (view p).seen = ap (λ (x : View S). x.seen) is in
      record { is = is ∙ ap (λ (l : List Event). knowing (view p) l (view q).marks) (sym seen); ahead = record { more = go.more; own = ap (λ (x : View S). of_worker (view p).worker x.seen) is }; same = same }

  pub waits_further : (p q r : RowPass S) → HasWaited p q → HasWaited q r → HasWaited p r
  waits_further p q r one two = record {
    is = two.is ∙ ap (λ (x : View S). knowing x (view r).seen (view r).marks) one.is;
    ahead = record {
      more = starts_trans (view r).seen (view q).seen (view p).seen two.ahead.more one.ahead.more;
      own = subst (λ (x : View S). of_worker x.worker (view r).seen ≡ of_worker x.worker (view q).seen) one.is two.ahead.own ∙ one.ahead.own;
    };
    same = two.same ∙ one.same;
  }

  pub waited_goes : (p q : RowPass S) → HasWaited p q → GoesOn (view p) (view q)
  waited_goes p q w = knowing_goes_on (view p) (view q) w.is w.ahead.more

  pub waited_worker : (p q : RowPass S) → HasWaited p q → (view q).worker ≡ (view p).worker
  waited_worker p q w = ap (λ (x : View S). x.worker) w.is

  pub waited_adds : (p q : RowPass S) → HasWaited p q → AddsWork (view p) (view q)
  waited_adds p q w = ahead_adds (view p) (view q) (waited_worker p q w) (ap (λ (x : View S). x.handed) w.is) w.ahead

  pub waited_none : (p q : RowPass S) → HasWaited p q → AddsNone (view p) (view q)
  waited_none p q w = ahead_adds_none (view p) (view q) w.ahead

  pub waited_quiet : (p q : RowPass S) → HasWaited p q → HasPlacedNone (view p) (view q)
  waited_quiet p q w = w.ahead.own

  waited_terms : (p q : RowPass S) → HasWaited p q → (view q).terms ≡ (view p).terms
  waited_terms p q w = ap (λ (x : View S). x.terms) w.is

module _ {S : Type 0} (shape : S → Shape) (gives : S → ℕ → Type 0) (b : RowBoard S) where
  pub waited_fresh : (p q : RowPass S) → IsPassOf shape gives b q → HasWaited p q → IsFresh shape (view p) (slots p) → IsFresh shape (view q) (slots q)
  waited_fresh p q is w fresh = ahead_fresh shape gives b p q is (waited_goes p q w) w.ahead w.same fresh

  pub waited_settled : (p q : RowPass S) (e : Event) → IsPassOf shape gives b q → HasWaited p q → IsSettled shape (view p) e (slots p) → IsSettled shape (view q) e (slots q)
  waited_settled p q e is w settled = settled_ahead shape gives b p q e is (waited_goes p q w) w.ahead w.same settled

  pub waited_gives : (p q : RowPass S) (e : Event) → IsPassOf shape gives b p → IsPassOf shape gives b q → HasWaited p q → GivesBack shape (view p).terms (view p).seen e (slots p) → GivesBack shape (view q).terms (view q).seen e (slots q)
  waited_gives p q e was is w back = gives_ahead shape gives b p q e was is (waited_goes p q w) w.ahead w.same back

  -- ## The last put

  -- the first put is the last one
  pub put_at_once : (e : Event) (p q : RowPass S) (said : Put) → IsPassOf shape gives b p → Says e (view p) (view q) said → SaysSlots shape gives e (slots p) (slots q) (view q) said → WasPut shape gives b e p q said
  put_at_once e p q said is says cells = record { last = p; of = is; waited = waits_nowhere p; says = says; slots_say = cells }

  pub put_after : (e : Event) (p q r : RowPass S) (said : Put) → HasWaited p q → WasPut shape gives b e q r said → WasPut shape gives b e p r said
  put_after e p q r said w x = record { last = x.last; of = x.of; waited = waits_further p q x.last w x.waited; says = x.says; slots_say = x.slots_say }

  -- what `put` answers after the pass has waited
  pub put_then : (e : Event) (p q r : RowPass S) (said : Put) → HasWaited p q → IsPassOf shape gives b q → Says e (view q) (view r) said → SaysSlots shape gives e (slots q) (slots r) (view r) said → WasPut shape gives b e p r said
  put_then e p q r said w is says cells = put_after e p q r said w (put_at_once e q r said is says cells)

  -- the last put gave this answer, and nothing has come since
  pub put_said : (e : Event) (p q : RowPass S) (said : Put) → WasPut shape gives b e p q said → SaysThrough shape gives b e p q said
  put_said e p q (Placed n) x = x
  put_said e p q (Barred at y) x = x
  put_said e p q (Held by passed) x = record { held = q; put = x; since = waits_nowhere q }
  put_said e p q Full x = x

  pub outcome_after : (e : Event) (p q r : RowPass S) (said : Put) → HasWaited p q → SaysThrough shape gives b e q r said → SaysThrough shape gives b e p r said
  outcome_after e p q r (Placed n) w x = put_after e p q r (Placed n) w x
  outcome_after e p q r (Barred at y) w x = put_after e p q r (Barred at y) w x
  outcome_after e p q r (Held by passed) w x = record { held = x.held; put = put_after e p q x.held (Held by passed) w x.put; since = x.since }
  outcome_after e p q r Full w x = put_after e p q r Full w x

  -- where a passed word held the event, nothing of its own has come
  pub held_waits : (e : Event) (p q : RowPass S) (by passed : ℕ) → SaysThrough shape gives b e p q (Held by passed) → HasWaited p q
  held_waits e p q by passed x =
      let put = x.put in
      let looked = sees_waits put.last x.held put.says.0.sees put.slots_say in
      waits_further p x.held q (waits_further p put.last x.held put.waited looked) x.since

  -- ## What it is then

  pub put_goes : (e : Event) (p q : RowPass S) (said : Put) → WasPut shape gives b e p q said → GoesOn (view p) (view q)
  put_goes e p q said x = goes_further (view p) (view x.last) (view q) (waited_goes p x.last x.waited) (says_goes_on e (view x.last) (view q) said x.says)

  pub outcome_goes : (e : Event) (p q : RowPass S) (said : Put) → SaysThrough shape gives b e p q said → GoesOn (view p) (view q)
  outcome_goes e p q (Placed n) x = put_goes e p q (Placed n) x
  outcome_goes e p q (Barred at y) x = put_goes e p q (Barred at y) x
  outcome_goes e p q (Held by passed) x = waited_goes p q (held_waits e p q by passed x)
  outcome_goes e p q Full x = put_goes e p q Full x

  pub put_adds : (e : Event) (p q : RowPass S) (said : Put) → is_work e ≡ true → WasPut shape gives b e p q said → AddsWork (view p) (view q)
  put_adds e p q said work x = adds_further (view p) (view x.last) (view q) (waited_adds p x.last x.waited) (says_adds e (view x.last) (view q) said work x.says)

  pub outcome_adds : (e : Event) (p q : RowPass S) (said : Put) → is_work e ≡ true → SaysThrough shape gives b e p q said → AddsWork (view p) (view q)
  outcome_adds e p q (Placed n) work x = put_adds e p q (Placed n) work x
  outcome_adds e p q (Barred at y) work x = put_adds e p q (Barred at y) work x
  outcome_adds e p q (Held by passed) work x = waited_adds p q (held_waits e p q by passed x)
  outcome_adds e p q Full work x = put_adds e p q Full work x

  pub put_only : (e : Event) (p q : RowPass S) (said : Put) → WasPut shape gives b e p q said → AddsOnly e (view p) (view q)
  put_only e p q said x =
      none_then e (view p) (view x.last) (view q) (waited_worker p x.last x.waited) (says_goes_on e (view x.last) (view q) said x.says).more (waited_none p x.last x.waited)
      (says_only e (view x.last) (view q) said x.says)

  pub outcome_only : (e : Event) (p q : RowPass S) (said : Put) → SaysThrough shape gives b e p q said → AddsOnly e (view p) (view q)
  outcome_only e p q (Placed n) x = put_only e p q (Placed n) x
  outcome_only e p q (Barred at y) x = put_only e p q (Barred at y) x
  outcome_only e p q (Held by passed) x = none_only e (view p) (view q) (waited_none p q (held_waits e p q by passed x))
  outcome_only e p q Full x = put_only e p q Full x

  pub put_fresh : (e : Event) (p q : RowPass S) (said : Put) → IsPassOf shape gives b q → worker_of e ≡ (view p).worker
      → WasPut shape gives b e p q said → IsFresh shape (view p) (slots p) → IsFresh shape (view q) (slots q)
  put_fresh e p q said is mine x fresh =
      says_fresh shape gives b x.last q e said is (mine ∙ sym (waited_worker p x.last x.waited))
      x.says x.slots_say
      (waited_fresh p x.last x.of x.waited fresh)

  pub outcome_fresh : (e : Event) (p q : RowPass S) (said : Put) → IsPassOf shape gives b q → worker_of e ≡ (view p).worker
      → SaysThrough shape gives b e p q said → IsFresh shape (view p) (slots p) → IsFresh shape (view q) (slots q)
  outcome_fresh e p q (Placed n) is mine x fresh = put_fresh e p q (Placed n) is mine x fresh
  outcome_fresh e p q (Barred at y) is mine x fresh = put_fresh e p q (Barred at y) is mine x fresh
  outcome_fresh e p q (Held by passed) is mine x fresh = waited_fresh p q is (held_waits e p q by passed x) fresh
  outcome_fresh e p q Full is mine x fresh = put_fresh e p q Full is mine x fresh

  -- ## What it has placed

  pub placed_one : (e : Event) (p q : RowPass S) (n : ℕ) → SaysThrough shape gives b e p q (Placed n) → HasPlaced e (view p) (view q)
  placed_one e p q n x = one_further e (view p) (view x.last) (view q) (waited_goes p x.last x.waited) (waited_quiet p x.last x.waited) x.says.own

  pub barred_none : (e : Event) (p q : RowPass S) (at : ℕ) (y : Why) → SaysThrough shape gives b e p q (Barred at y) → HasPlacedNone (view p) (view q)
  barred_none e p q at y x =
      quiet_further (view p) (view x.last) (view q) (waited_goes p x.last x.waited) (waited_quiet p x.last x.waited) (put_barred e (view x.last) (view q) at y x.says)

  pub held_none : (e : Event) (p q : RowPass S) (by passed : ℕ) → SaysThrough shape gives b e p q (Held by passed) → HasPlacedNone (view p) (view q)
  held_none e p q by passed x = waited_quiet p q (held_waits e p q by passed x)

  pub full_none : (e : Event) (p q : RowPass S) → SaysThrough shape gives b e p q Full → HasPlacedNone (view p) (view q)
  full_none e p q x = quiet_further (view p) (view x.last) (view q) (waited_goes p x.last x.waited) (waited_quiet p x.last x.waited) x.says.1.own

  pub held_up : (e : Event) (p q : RowPass S) (by passed : ℕ) → SaysThrough shape gives b e p q (Held by passed) → WasHeldUp e (view p) (view q)
  held_up e p q by passed x = record {
    before = view x.put.last;
    after = view x.held;
    by = by;
    passed = passed;
    first = waited_goes p x.put.last x.put.waited;
    held = x.put.says;
    since = waited_goes x.held q x.since;
  }

  recorded_then : (e : Event) (p q : RowPass S) (said : Put) (t : Turn) → (x : WasPut shape gives b e p q said) → SaysRecorded e t (view x.last) (view q) → SaysRecorded e t (view p) (view q)
  recorded_then e p q said t x recorded = recorded_further e t (view p) (view x.last) (view q) (waited_goes p x.last x.waited) (waited_quiet p x.last x.waited) recorded

  pub outcome_records : (e : Event) (p q : RowPass S) (n : ℕ) → SaysThrough shape gives b e p q (Placed n) → ended e ≡ None → SaysRecorded e TurnPlaced (view p) (view q)
  outcome_records e p q n x ends = recorded_then e p q (Placed n) TurnPlaced x (records e (view x.last) (view q) n x.says ends)

  pub outcome_ends : (e : Event) (r : Run) (p q : RowPass S) (n : ℕ) → SaysThrough shape gives b e p q (Placed n) → ended e ≡ Some r → SaysRecorded e Ended (view p) (view q)
  outcome_ends e r p q n x ends = recorded_then e p q (Placed n) Ended x (records_end e r (view x.last) (view q) n x.says ends)

  pub outcome_leaves : (e : Event) (p q : RowPass S) → SaysThrough shape gives b e p q Full → SaysRecorded e Left (view p) (view q)
  outcome_leaves e p q x = recorded_then e p q Full Left x (leaves_full e (view x.last) (view q) x.says)

  pub barred_leaves : (e : Event) (p q : RowPass S) (at : ℕ) (y : Why) → SaysThrough shape gives b e p q (Barred at y) → SaysRecorded e Left (view p) (view q)
  barred_leaves e p q at y x = recorded_then e p q (Barred at y) Left x (leaves_barred e (view x.last) (view q) at y x.says)

  pub barred_waits : (e : Event) (p q : RowPass S) (at : ℕ) (y : Why) → SaysThrough shape gives b e p q (Barred at y) → SaysRecorded e Waited (view p) (view q)
  barred_waits e p q at y x = recorded_then e p q (Barred at y) Waited x (waits_barred e (view x.last) (view q) at y x.says)

  pub outcome_stops : (e : Event) (p q : RowPass S) (by passed : ℕ) → SaysThrough shape gives b e p q (Held by passed) → SaysRecorded e TurnStopped (view p) (view q)
  outcome_stops e p q by passed x = stops e (view p) (view q) (held_none e p q by passed x) (held_up e p q by passed x)

  -- ## How full the row is

  pub full_length : (e : Event) (p q : RowPass S) → SaysThrough shape gives b e p q Full → length (view q).seen ≡ (view q).terms.limits.most
  full_length e p q x = x.says.2 ∙ sym (ap (λ (y : View S). y.terms.limits.most) x.says.0)

  -- ## What worker 0 has handed in

  pub placed_hands : (e : Event) (p q : RowPass S) (n : ℕ) → SaysThrough shape gives b e p q (Placed n) → HandsOn (accepted e) (view p).handed (view q).handed
  placed_hands e p q n x =
      subst (λ (h : Handed S). HandsOn (accepted e) h (view q).handed) (ap (λ (y : View S). y.handed) x.waited.is) x.says.handed

  pub barred_hands : (e : Event) (p q : RowPass S) (at : ℕ) (y : Why) → SaysThrough shape gives b e p q (Barred at y) → (view q).handed ≡ (view p).handed
  barred_hands e p q at y x = ap (λ (z : View S). z.handed) x.says.0.sees.is ∙ ap (λ (z : View S). z.handed) x.waited.is

  pub full_hands : (e : Event) (p q : RowPass S) → SaysThrough shape gives b e p q Full → ((view q).handed ≡ (view p).handed) × (length (view q).seen ≡ (view p).terms.limits.most)
  full_hands e p q x = (ap (λ (y : View S). y.handed) x.says.0 ∙ ap (λ (y : View S). y.handed) x.waited.is, x.says.2 ∙ ap (λ (y : View S). y.terms.limits.most) x.waited.is)

  -- ## An end

  pub outcome_settled : (e : Event) (p q : RowPass S) (at : ℕ) (y : Why) → IsPassOf shape gives b q → SaysThrough shape gives b e p q (Barred at y) → IsSettled shape (view p) e (slots p) → IsSettled shape (view q) e (slots q)
  outcome_settled e p q at y is x settled =
      waited_settled x.last q e is (sees_waits x.last q x.says.0.sees x.slots_say) (waited_settled p x.last e x.of x.waited settled)

  pub outcome_ended : (e : Event) (p q : RowPass S) (n : ℕ) → worker_of e ≡ (view p).worker → SaysThrough shape gives b e p q (Placed n) → IsSettled shape (view p) e (slots p) → IsFresh shape (view q) (slots q)
  outcome_ended e p q n mine x settled =
      settled_placed shape gives b x.last q e n (mine ∙ sym (waited_worker p x.last x.waited)) x.says (waited_settled p x.last e x.of x.waited settled)

  pub barred_adds_none : (e : Event) (p q : RowPass S) (at : ℕ) (y : Why) → SaysThrough shape gives b e p q (Barred at y) → AddsNone (view p) (view q)
  barred_adds_none e p q at y x =
      waited_none p q (waits_further p x.last q x.waited (sees_waits x.last q x.says.0.sees x.slots_say))
