-- What worker 0's calls on the row are to its loop.
use Rattle.std.proofs.Common.{◌≡◌, ◌≤◌, ◌∙◌, ℕ, Bool, true, false, List, [], ◌∷◌, Some, None, length, ap, sym, subst, refl, IsTrue}
use Rattle.std.specs.List.{list_all}
use Rattle.std.specs.Prelude.{Result, Ok, Err, IfOk, OnOk}
use Rattle.std.proofs.lemmas.Bool.{and_from, and_parts}
use Rattle.gcd_plan.specs.PlanView.{PlanView}
use Rattle.gcd_plan.specs.declared.why.Why.{Why}
use Rattle.gcd_event.specs.declared.event.Event.{Event}
use Rattle.gcd_event.specs.declared.event.Event.TheVariants.{Start, Act as Acted, Wake, End, Deliver, DeliverEnd, Tick, Ready, FeedEnd, Misuse, Halt, Expire, Accept, Shut}
use Rattle.gcd_history.specs.Choice.{is_work, worker_of}
use Rattle.gcd_history.specs.Ends.{HasEnded}
use Rattle.gcd_history.specs.History.{choice_of, why}
use Rattle.gcd_history.specs.Intake.{accepted}
use Rattle.gcd_loop.specs.Followed.{FollowsFrom}
use Rattle.gcd_loop.proofs.Follows.{follows_nothing, follows_only}
use Rattle.gcd_loop.specs.Recorded.{After, Grows, IsGrown, IsSight, Says}
use Rattle.gcd_loop.specs.declared.recorder.Step.{Step}
use Rattle.gcd_loop.specs.declared.recorder.Step.TheVariants.{Placed as StepPlaced, Waited, Stopped, Over}
use Rattle.gcd_loop.proofs.Steps.{grown}
use Rattle.gcd_row.specs.Shapes.{Shape}
use Rattle.gcd_row.specs.Views.{knowing, seeing}
use Rattle.gcd_row.specs.Passes.{Ahead, IsPassOf, Sees, slots, view, machine_of}
use Rattle.gcd_row.specs.declared.pass.RowPass.{RowPass}
use Rattle.gcd_row.specs.declared.board.RowBoard.{RowBoard}
use Rattle.gcd_machine.specs.declared.put.Put.{Put}
use Rattle.gcd_machine.specs.declared.put.Put.TheVariants.{Placed, Barred, Held, Full}
use Rattle.gcd_row.specs.Plays.{HandsOn}
use Rattle.gcd_row.specs.declared.view.Handed.{Handed}
use Rattle.gcd_row.specs.declared.view.Terms.{Terms}
use Rattle.gcd_row.specs.declared.view.View.{View}
use Rattle.gcd_turn.specs.declared.outside.Outside.{Outside}
use Rattle.gcd_pool.specs.Hands.{IsFresh, IsHandOf, Serving}
use Rattle.gcd_outer.specs.Outside.{ClockState}
use Rattle.gcd_outer.specs.Tells.{PollerState}
use Rattle.gcd_pool.specs.Admitted.{HandedOn}
use Rattle.gcd_pool.specs.Leads.{IsHead, Leads, Led, bounds_of}
use Rattle.gcd_pool.specs.Throughs.{HasWaited, SaysThrough, WasPut}
use Rattle.gcd_pool.specs.Works.{AddsNone, AddsOnly, AddsWork, IsAddedBy, is_own_work}
use Rattle.gcd_pool.specs.declared.hand.Hand.{Hand}
use Rattle.gcd_pool.specs.declared.hand.Pool.{Pool}
use Rattle.gcd_row.proofs.Fronts.{starts_trans}
use Rattle.gcd_history.specs.Team.{of_worker}
use Rattle.gcd_pool.proofs.Puts.{sees_fresh, placed_seen}
use Rattle.gcd_pool.proofs.Told.{to_lead}
use Rattle.gcd_pool.proofs.Serves.{sees_serves, most_of_hand, passing_fresh, serves_further, serves_nothing}
use Rattle.gcd_pool.proofs.Throughs.{barred_hands, full_hands, placed_hands}
use Rattle.gcd_pool.proofs.Works.{added_later, ahead_adds, still_all}

-- what worker 0 adds of its own, and what others add, is work
own_is_work : (e : Event) → is_own_work 0 e ≡ true → is_work e ≡ true
own_is_work (Start w b) h = refl
own_is_work (Acted w r i) h = refl
own_is_work (Wake w b) h = refl
own_is_work (End w b) h = refl
own_is_work (Deliver w s) h = refl
own_is_work (DeliverEnd w s) h = refl
own_is_work (Tick t) h = cc
own_is_work (Ready s n) h = cc
own_is_work (FeedEnd s) h = cc
own_is_work (Misuse w c r i) h = refl
own_is_work Halt h = cc
own_is_work (Expire b) h = cc
own_is_work (Accept b s) h = cc
own_is_work Shut h = cc

all_work : (rest : List Event) → list_all (is_own_work 0) rest ≡ true → list_all is_work rest ≡ true
all_work [] h = refl
all_work (e ∷ rest) h =
    let parts = and_parts (is_own_work 0 e) (list_all (is_own_work 0) rest) h in
    and_from (is_work e) (list_all is_work rest) (own_is_work e parts.0) (all_work rest parts.1)

module _ {S : Type 0} where
  pub adds_grows : (v w : View S) → v.worker ≡ 0 → AddsWork v w → Grows v.seen w.seen
  adds_grows v w head a = record {
    rest = a.rest;
    split = a.split;
    work = all_work a.rest (subst (λ (n : ℕ). list_all (is_own_work n) a.rest ≡ true) head a.work);
  }

  ahead_grows : (v : View S) (h : List Event) → v.worker ≡ 0 → Ahead v h → Grows v.seen h
  ahead_grows v h head a = adds_grows v (seeing v h) head (ahead_adds v (seeing v h) refl refl a)

  ahead_further : (v u : View S) (h : List Event) → u.worker ≡ v.worker → Ahead v u.seen → Ahead u h → Ahead v h
  ahead_further v u h same a c = record {
    more = starts_trans h u.seen v.seen c.more a.more;
    own = subst (λ (n : ℕ). of_worker n h ≡ of_worker n u.seen) same c.own ∙ a.own;
  }

-- what has come of an event that was put until no passed word held it
module _ {S : Type 0} (shape : S → Shape) (gives : S → ℕ → Type 0) (b : RowBoard S) (e : Event) (p q : RowPass S) where
  waited_worker : (u : RowPass S) → HasWaited p u → (view u).worker ≡ (view p).worker
  waited_worker u w = ap (λ (x : View S). x.worker) w.is

  waited_terms : (u : RowPass S) → HasWaited p u → (view u).terms ≡ (view p).terms
  waited_terms u w = ap (λ (x : View S). x.terms) w.is

  put_grows : (u : RowPass S) (h : List Event) → HasWaited p u → (view p).worker ≡ 0 → Ahead (view u) h → Grows (view p).seen h
  put_grows u h w head a = ahead_grows (view p) h head (ahead_further (view p) (view u) h (waited_worker u w) w.ahead a)

  placed_said : (n : ℕ) → WasPut shape gives b e p q (Placed n) → (view p).worker ≡ 0
      → Says (view p).terms.limits.most (view p).terms.plan e (view p).seen (view q).seen (Placed n)
  placed_said n w head = record {
    front = w.says.history;
    grown = put_grows w.last w.says.history w.waited head w.says.ahead;
    is = placed_seen e (view w.last) (view q) n w.says;
    place = w.says.place;
  }

  barred_said : (at : ℕ) (y : Why) → WasPut shape gives b e p q (Barred at y) → (view p).worker ≡ 0
      → Says (view p).terms.limits.most (view p).terms.plan e (view p).seen (view q).seen (Barred at y)
  barred_said at y w head = (
    put_grows w.last (view q).seen w.waited head w.says.0.sees.ahead,
    w.says.1,
    subst (λ (t : Terms S). why t.plan (view q).seen e ≡ Some y) (waited_terms w.last w.waited) w.says.3,
  )

  full_said : WasPut shape gives b e p q Full → (view p).worker ≡ 0
      → Says (view p).terms.limits.most (view p).terms.plan e (view p).seen (view q).seen Full
  full_said w head = (
    put_grows w.last (view q).seen w.waited head w.says.1,
    subst (λ (t : Terms S). length (view q).seen ≡ t.limits.most) (waited_terms w.last w.waited) w.says.2,
  )

  -- what the answer of the last put says to the loop, where the team was not stopped
  pub put_says : (r : Put) → ((by passed : ℕ) → r ≡ Held by passed → ⊥) → SaysThrough shape gives b e p q r → (view p).worker ≡ 0
      → Says (view p).terms.limits.most (view p).terms.plan e (view p).seen (view q).seen r × HandedOn e (view p) (view q) r
  put_says (Placed n) unheld w head = (placed_said n w head, placed_hands shape gives b e p q n w)
  put_says (Barred at y) unheld w head = (barred_said at y w head, barred_hands shape gives b e p q at y w)
  put_says (Held by passed) unheld w head = absurd (unheld by passed refl)
  put_says Full unheld w head = (full_said w head, full_hands shape gives b e p q w)

-- what is always so is so where it is Ok
pub on_ok : {T E : Type 0} → (r : Result T E) (P : Type 0) → P → OnOk r P
on_ok (Ok x) P is = is
on_ok (Err x) P is = tt

-- what holds of each answer, holds of what it says
pub if_ok : {T E : Type 0} → (P Q : T → Type 0) (r : Result T E) → ((x : T) → P x → Q x) → IfOk r P → IfOk r Q
if_ok P Q (Ok x) f is = f x is
if_ok P Q (Err e) f is = tt

-- what was handed in since worker 0 gathered was handed in since before that
handed_as : {S : Type 0} (e : Event) (v u w : View S) (r : Put) → u.handed ≡ v.handed → u.terms ≡ v.terms → HandedOn e u w r → HandedOn e v w r
handed_as {S} e v u w (Placed n) same terms handed = subst (λ (h : Handed S). HandsOn (accepted e) h w.handed) same handed
handed_as e v u w (Barred at y) same terms handed = handed ∙ same
handed_as e v u w (Held by passed) same terms handed = handed
handed_as e v u w Full same terms handed = (handed.0 ∙ same, handed.1 ∙ ap (λ t. t.limits.most) terms)

pub handed_since : {S : Type 0} (e : Event) (v u w : View S) (r : Put) → u ≡ knowing v v.seen u.marks → HandedOn e u w r → HandedOn e v w r
handed_since {S} e v u w r same handed = handed_as e v u w r (ap (λ (x : View S). x.handed) same) (ap (λ (x : View S). x.terms) same) handed

-- what is said where it is done, where it is not
pub never : {A : Type 0} → false ≡ true → A
never is = absurd (cc)

pub never_ok : {T E A : Type 0} {e : E} {x : T} → Err e ≡ Ok x → A
never_ok is = absurd (cc)

module _ {S : Type 0} (shape : S → Shape) (gives : S → ℕ → Type 0) (pool : Pool S) (a : Hand S) (is : IsHead shape gives pool a) where
  abbrev most : ℕ
  most = (bounds_of pool).most

  abbrev plan : PlanView
  plan = (bounds_of pool).plan

  pub plan_of_head : (view a.pass).terms.plan ≡ plan
  plan_of_head = sym is.ready.of.plan

  pub most_of_head : (view a.pass).terms.limits.most ≡ most
  most_of_head = most_of_hand shape gives pool a is.ready.of

  -- worker 0's hand after a step
  pub still_head : (b : Hand S) → Serving shape gives pool a b → IsFresh shape (view b.pass) (slots b.pass) → IsHead shape gives pool b
  still_head b serving fresh = record {
    ready = record { of = serving.of; fresh = fresh };
    head = ap (λ (x : View S). x.worker) serving.view.is ∙ is.head;
  }

  pub looked : (q : RowPass S) → IsPassOf shape gives pool.board.now q → Sees (view a.pass) (view q) → slots q ≡ slots a.pass → IsHead shape gives pool (record { pass = q; bench = a.bench; journal = a.journal })
  looked q pass looks same =
      still_head (record { pass = q; bench = a.bench; journal = a.journal }) (sees_serves shape gives pool a q is.ready.of pass looks) (sees_fresh shape gives pool.board.now a.pass q pass looks same is.ready.fresh)

  -- it has gathered, and seen no more
  pub passed_head : (b : Hand S) → Serving shape gives pool a b → view b.pass ≡ knowing (view a.pass) (view a.pass).seen (view b.pass).marks → slots b.pass ≡ slots a.pass → IsHead shape gives pool b
  passed_head b serving same slots_same = still_head b serving (passing_fresh shape gives pool a.pass b.pass same slots_same is.ready.fresh)

  pub same_limit : (b : Hand S) → Serving shape gives pool a b → most ≡ (view b.pass).terms.limits.most
  same_limit b serving = sym (most_of_hand shape gives pool b serving.of)

  -- ## What no step changes

  -- what worker 0 has added since its first step it has added since this one
  added_here : (first b : Hand S) → Leads shape gives pool first a → Serving shape gives pool a b → IsAddedBy 0 (view first.pass).seen (view b.pass).seen
      → IsAddedBy (view a.pass).worker (view a.pass).seen (view b.pass).seen
  added_here first b kept serving all =
      subst (λ (n : ℕ). IsAddedBy n (view a.pass).seen (view b.pass).seen) (sym is.head)
      (added_later 0 (view first.pass).seen (view a.pass).seen (view b.pass).seen kept.serving.view.more serving.view.more all)

  pub leads_further : (first b : Hand S) (e : Event) → Serving shape gives pool a b → (pool.alone ≡ true → AddsOnly e (view a.pass) (view b.pass)) → (IsTrue (is_work e) → choice_of plan (view a.pass).seen 0 0 ≡ Some e)
      → Leads shape gives pool first a → Leads shape gives pool first b
  leads_further first b e serving only chosen kept = record {
    serving = serves_further shape gives pool first a b kept.serving serving;
    follows = λ alone all.
        follows_only (length (view first.pass).seen) plan (view a.pass).seen (view b.pass).seen e ((only alone).only (added_here first b kept serving all)) chosen
        (kept.follows alone (still_all 0 (view first.pass).seen (view a.pass) (view b.pass) serving.view.more all));
  }

  pub look_leads : (first b : Hand S) → Serving shape gives pool a b → AddsNone (view a.pass) (view b.pass) → Leads shape gives pool first a → Leads shape gives pool first b
  look_leads first b serving none kept = record {
    serving = serves_further shape gives pool first a b kept.serving serving;
    follows = λ alone all.
        subst (FollowsFrom (length (view first.pass).seen) plan) (sym (none.none (added_here first b kept serving all)))
        (kept.follows alone (still_all 0 (view first.pass).seen (view a.pass) (view b.pass) serving.view.more all));
  }

  pub passed_leads : (first b : Hand S) → Serving shape gives pool a b → view b.pass ≡ knowing (view a.pass) (view a.pass).seen (view b.pass).marks → Leads shape gives pool first a → Leads shape gives pool first b
  passed_leads first b serving same kept = look_leads first b serving (record { none = λ all. ap (λ (x : View S). x.seen) same }) kept

  -- what it chose before that it may record still
  pub passed_chosen : (b : Hand S) (e : Event) → Serving shape gives pool a b → view b.pass ≡ knowing (view a.pass) (view a.pass).seen (view b.pass).marks → slots b.pass ≡ slots a.pass → choice_of plan (view a.pass).seen 0 0 ≡ Some e
      → (worker_of e ≡ (view b.pass).worker) × (why (view b.pass).terms.plan (view b.pass).seen e ≡ None) × (is_work e ≡ true)
  passed_chosen b e serving same slots_same chosen =
      let head = passed_head b serving same slots_same in
      to_lead shape gives pool.board.now b.pass head.ready.of.pass plan e head.ready.of.plan head.head (subst (λ (h : List Event). choice_of plan h 0 0 ≡ Some e) (sym (ap (λ (x : View S). x.seen) same)) chosen)

  hand_sight : (b : Hand S) → Serving shape gives pool a b → IsSight most plan (view b.pass).seen (machine_of b.pass)
  hand_sight b serving =
      let m = machine_of b.pass in
      let stands = subst (λ (q : PlanView). Rattle.gcd_machine.specs.Stands.StandsFor m q (view b.pass).seen) (sym serving.of.plan) serving.of.pass.stands in
      record { own = Rattle.gcd_machine.proofs.Views.Calls.plan_stands m plan (view b.pass).seen stands; stands = stands; few = subst (λ (n : ℕ). length (view b.pass).seen ≤ n) (sym (same_limit b serving)) serving.of.pass.few }

  pub plan_after : (b : Hand S) → Serving shape gives pool a b → (view b.pass).terms.plan ≡ plan
  plan_after b serving = sym serving.of.plan

  -- what was put, by the plan and the limit of its pool
  pub said_here : (e : Event) (h k : List Event) (r : Put) → Says (view a.pass).terms.limits.most (view a.pass).terms.plan e h k r → Says most plan e h k r
  said_here e h k r said =
      subst (λ (n : ℕ). Says n plan e h k r) most_of_head (subst (λ (q : PlanView). Says (view a.pass).terms.limits.most q e h k r) plan_of_head said)

  -- what a turn of its work comes to
  after_work : (b : Hand S) (step : Step) → Serving shape gives pool a b
      → After (IsFresh shape (view b.pass) (slots b.pass)) ⊥ (HasEnded (view b.pass).terms.limits.most (view b.pass).terms.plan (view b.pass).seen) step
      → After (IsHead shape gives pool b) ⊥ (HasEnded most plan (view b.pass).seen × IsHandOf shape gives pool b) step
  after_work b StepPlaced serving after = still_head b serving after
  after_work b Waited serving after = still_head b serving after
  after_work b Stopped serving after = after
  after_work b Over serving after = (
    subst (λ (n : ℕ). HasEnded n plan (view b.pass).seen) (sym (same_limit b serving))
        (subst (λ (q : PlanView). HasEnded (view b.pass).terms.limits.most q (view b.pass).seen) (plan_after b serving) after),
    serving.of,
  )

  pub worked_after : {E : Type 0} (b : Hand S) (r : Result Step E) → Serving shape gives pool a b
      → IfOk r (After (IsFresh shape (view b.pass) (slots b.pass)) ⊥ (HasEnded (view b.pass).terms.limits.most (view b.pass).terms.plan (view b.pass).seen))
      → IfOk r (After (IsHead shape gives pool b) ⊥ (HasEnded most plan (view b.pass).seen × IsHandOf shape gives pool b))
  worked_after b (Ok step) serving after = after_work b step serving after
  worked_after b (Err x) serving after = tt

  pub worked : (b : Hand S) → Serving shape gives pool a b → AddsWork (view a.pass) (view b.pass) → IsGrown most plan (view a.pass).seen (view b.pass).seen
  worked b serving adds =
      grown most plan (view a.pass).seen (view b.pass).seen (machine_of b.pass) (hand_sight b serving) (adds_grows (view a.pass) (view b.pass) is.head adds)

pub leads_nowhere : {S : Type 0} → (shape : S → Shape) (gives : S → ℕ → Type 0) (pool : Pool S) (a : Hand S) → IsHandOf shape gives pool a → Leads shape gives pool a a
leads_nowhere shape gives pool a of = record { serving = serves_nothing shape gives pool a of; follows = λ alone all. follows_nothing pool.plan.now (view a.pass).seen }

-- who knows more of when a team has one hand, and of when worker 0 is done
pub led_where : {S P C : Type 0} → (p c : Bool) (poller : P → PollerState) (clock : C → ClockState) (A B D E : Type 0) (old new : Hand S × Outside P C) → (B → A) → (E → D) → Led p c poller clock A D old new → Led p c poller clock B E old new
led_where p c poller clock A B D E old new more done led = record {
  going = λ is. led.going (done is);
  ended = λ is. led.ended (done is);
  whole = λ is. led.whole (done is);
  follows = λ alone. led.follows (more alone);
  kept = led.kept;
  same = led.same;
}
