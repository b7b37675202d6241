-- Worker 0 with its front and its intake, a step on.
use Rattle.std.proofs.Common.{Bool, true, false, ◌≡◌, ◌<◌, ◌∙◌, ◌⊎◌, ℕ, List, [], length, ap, sym, subst, refl, append-nil}
use Rattle.std.specs.Prelude.{Result, Ok, Err, IfOk, OnOk, Some, Option}
use Rattle.gcd_plan.specs.PlanView.{PlanView}
use Rattle.gcd_plan.specs.declared.numbers.Blk.{Blk}
use Rattle.gcd_event.specs.declared.event.Event.{Event}
use Rattle.gcd_event.specs.declared.event.Event.TheVariants.{Accept, Shut}
use Rattle.gcd_history.specs.Ends.{HasEnded}
use Rattle.gcd_history.specs.Facts.{is_of_callers}
use Rattle.gcd_history.specs.History.{IsLawful, is_intake_open, next_of_intake}
use Rattle.gcd_machine.specs.Stands.{StandsFor}
use Rattle.gcd_outer.specs.Outside.{ClockState}
use Rattle.gcd_outer.specs.Tells.{PollerState}
use Rattle.gcd_turn.specs.Turns.{HasRoom}
use Rattle.gcd_front.specs.Fronts.{KnowsAll, LearnsMore, TakesNext, TookAll}
use Rattle.gcd_front.specs.Queue.{parcel}
use Rattle.gcd_front.specs.Views.{FrontView, IntakeView}
use Rattle.gcd_loop.specs.Recorded.{After, Grows, IsGrown, Says}
use Rattle.gcd_machine.specs.declared.put.Put.{Put}
use Rattle.gcd_loop.specs.declared.recorder.Step.{Step}
use Rattle.gcd_loop.specs.declared.recorder.Step.TheVariants.{Placed, Waited, Stopped, Over}
use Rattle.gcd_loop.proofs.Steps.{grown_same}
use Rattle.gcd_row.specs.Passes.{IsPassOf, machine_of, slots, view}
use Rattle.gcd_row.specs.Shapes.{Shape}
use Rattle.gcd_row.specs.Views.{knowing, turning}
use Rattle.gcd_row.specs.declared.pass.RowPass.{RowPass}
use Rattle.gcd_row.specs.declared.view.Next.TheVariants.{Laid}
use Rattle.gcd_row.specs.declared.view.View.{View}
use Rattle.gcd_row.proofs.Fronts.{starts_refl}
use Rattle.gcd_row.proofs.Passing.{lawful_seen}
use Rattle.gcd_history.specs.Intake.{AllAccepted}
use Rattle.gcd_pool.specs.Admitted.{Admitted, HandedOn, HasLed, IsAccepted, IsLeading, LedWithFront}
use Rattle.gcd_turn.specs.declared.outside.Outside.{Outside}
use Rattle.gcd_pool.specs.Hands.{GoesOn, IsFresh, IsFreshAt, IsHandOf, Serving}
use Rattle.gcd_pool.specs.Leads.{IsHead, Leads, bounds_of, head_sight}
use Rattle.gcd_pool.specs.declared.hand.Hand.{Hand}
use Rattle.gcd_pool.specs.declared.hand.Pool.{Pool}
use Rattle.gcd_pool.proofs.Accepting.{accepted_keeps, unshut}
use Rattle.gcd_pool.proofs.Admitting.{admitted_learns, admitted_on, grows_no_call, put_keeps, quiet, shut_keeps}
use Rattle.gcd_pool.proofs.Recording.{led_where, look_leads, most_of_head, passed_head, plan_of_head, still_head}
use Rattle.gcd_pool.proofs.Serves.{serves_pass}

-- nothing more is seen
pub no_growth : (h k : List Event) → k ≡ h → Grows h k
no_growth h k same = record { rest = []; split = same ∙ sym (append-nil h); work = refl }

module _ {S X : Type 0} (shape : S → Shape) (gives : S → ℕ → Type 0) (sent : X → ℕ → Type 0) (pool : Pool S) (f : FrontView) (a : Hand S) (i : IntakeView X)
    (was : IsLeading shape gives sent pool f a i) where
  abbrev most : ℕ
  most = (bounds_of pool).most

  abbrev plan : PlanView
  plan = (bounds_of pool).plan

  -- the intake learnt of shut mouths, while it is open
  pub learns_leading : (j : IntakeView X) → is_intake_open plan (view a.pass).seen ≡ true → LearnsMore i j → IsLeading shape gives sent pool f a j
  learns_leading j is more = record {
    head = was.head;
    few = was.few;
    of_front = more.front ∙ was.of_front;
    admitted = admitted_learns gives sent f (view a.pass) i j (unshut plan (view a.pass).seen is) more.taken was.admitted;
  }

  module _ (b : Hand S) (of : IsHandOf shape gives pool b) where
    terms_same : (view b.pass).terms ≡ (view a.pass).terms
    terms_same = of.pass.terms ∙ sym was.head.ready.of.pass.terms

    lawful_now : IsLawful (view b.pass).terms.plan (view b.pass).seen
    lawful_now = lawful_seen shape gives pool.board.now b.pass of.pass

    -- events of workers alone have come, and it has handed in nothing
    pub grows_admitted : Grows (view a.pass).seen (view b.pass).seen → (view b.pass).handed ≡ (view a.pass).handed → Admitted gives sent f (view b.pass) i
    grows_admitted grows same = quiet gives sent f most plan (view a.pass) (view b.pass) i terms_same lawful_now grows same was.admitted

    pub has_led : Grows (view a.pass).seen (view b.pass).seen → (view b.pass).handed ≡ (view a.pass).handed → HasLed shape gives sent pool f b i
    has_led grows same = record { of = of; of_front = was.of_front; admitted = grows_admitted grows same }

  module _ (b : Hand S) (head : IsHead shape gives pool b) where
    leading_as : Admitted gives sent f (view b.pass) i → IsLeading shape gives sent pool f b i
    leading_as admitted = record { head = head; few = was.few; of_front = was.of_front; admitted = admitted }

    pub grows_leading : Grows (view a.pass).seen (view b.pass).seen → (view b.pass).handed ≡ (view a.pass).handed → IsLeading shape gives sent pool f b i
    grows_leading grows same = leading_as (grows_admitted b head.ready.of grows same)

    -- an event of poller or clock was put
    pub put_leading : (e : Event) (r : Put) → is_of_callers e ≡ false → Says most plan e (view a.pass).seen (view b.pass).seen r → HandedOn e (view a.pass) (view b.pass) r → IsLeading shape gives sent pool f b i
    put_leading e r uncalled said handed =
        leading_as (put_keeps gives sent f most plan (view a.pass) (view b.pass) i (terms_same b head.ready.of) (lawful_now b head.ready.of) e r uncalled said handed was.admitted)

    -- a Shut was put, for this reason
    pub shut_leading : (r : Put) → HasRoom most plan (view a.pass).seen → Says most plan Shut (view a.pass).seen (view b.pass).seen r → HandedOn Shut (view a.pass) (view b.pass) r
        → AllAccepted plan (view a.pass).seen ⊎ (KnowsAll f i × TookAll i) → IsLeading shape gives sent pool f b i
    shut_leading r room said handed reason =
        let v = view a.pass in
        leading_as (shut_keeps gives sent f most plan v (view b.pass) i (terms_same b head.ready.of) (lawful_now b head.ready.of) r said handed
        (record { unhalted = room.going_on.unhalted; room = subst (λ (n : ℕ). length v.seen < n) (sym (most_of_head shape gives pool a was.head)) room.room })
        (subst (λ (q : PlanView). AllAccepted q v.seen ⊎ (KnowsAll f i × TookAll i)) (sym (plan_of_head shape gives pool a was.head)) reason) was.admitted)

    -- an Accept was put, of the job that was taken
    pub accept_leading : (j : IntakeView X) (k : Blk) (s n : ℕ) (job : X) (answer : Option Put) → HasRoom most plan (view a.pass).seen → is_intake_open plan (view a.pass).seen ≡ true → next_of_intake plan (view a.pass).seen ≡ Some k
        → TakesNext f i (parcel s n job) j → IsAccepted gives sent most plan k s job (view a.pass) (view b.pass) answer → IsLeading shape gives sent pool f b j
    accept_leading j k s n job answer room is next took accepted = record {
      head = head;
      few = was.few;
      of_front = ap (λ (x : IntakeView X). x.front) took.taken ∙ was.of_front;
      admitted = accepted_keeps gives sent f most plan (view a.pass) (view b.pass) i j k s n job answer (plan_of_head shape gives pool a was.head) (most_of_head shape gives pool a was.head)
          (lawful_now b head.ready.of) was.few is room next took accepted was.admitted;
    }

  -- it has gathered, and seen no more
  pub passed_leading : (b : Hand S) → Serving shape gives pool a b → view b.pass ≡ knowing (view a.pass) (view a.pass).seen (view b.pass).marks → slots b.pass ≡ slots a.pass → IsLeading shape gives sent pool f b i
  passed_leading b serving same slots_same =
      grows_leading b (passed_head shape gives pool a was.head b serving same slots_same) (no_growth (view a.pass).seen (view b.pass).seen (ap (λ (x : View S). x.seen) same)) (ap (λ (x : View S). x.handed) same)

  -- ## By the answer of a call

  pub put_answered : {E : Type 0} (b : Hand S) (e : Event) (r : Result Put E) → is_of_callers e ≡ false → OnOk r (IsHead shape gives pool b) → IfOk r (Says most plan e (view a.pass).seen (view b.pass).seen)
      → IfOk r (HandedOn e (view a.pass) (view b.pass)) → OnOk r (IsLeading shape gives sent pool f b i)
  put_answered b e (Ok answer) uncalled head said handed = put_leading b head e answer uncalled said handed
  put_answered b e (Err x) uncalled head said handed = tt

  pub accept_answered : {E : Type 0} (b : Hand S) (j : IntakeView X) (k : Blk) (s n : ℕ) (job : X) (r : Result (Option Put) E) → HasRoom most plan (view a.pass).seen → is_intake_open plan (view a.pass).seen ≡ true → next_of_intake plan (view a.pass).seen ≡ Some k
      → TakesNext f i (parcel s n job) j → OnOk r (IsHead shape gives pool b) → IfOk r (IsAccepted gives sent most plan k s job (view a.pass) (view b.pass)) → OnOk r (IsLeading shape gives sent pool f b j)
  accept_answered b j k s n job (Ok answer) room is next took head accepted = accept_leading b head j k s n job answer room is next took accepted
  accept_answered b j k s n job (Err x) room is next took head accepted = tt

  -- after a step of its work
  work_after : (b : Hand S) (step : Step) → Grows (view a.pass).seen (view b.pass).seen → (view b.pass).handed ≡ (view a.pass).handed
      → After (IsHead shape gives pool b) ⊥ (HasEnded most plan (view b.pass).seen × IsHandOf shape gives pool b) step
      → After (IsLeading shape gives sent pool f b i) (⊥ × ((view b.pass).seen ≡ (view a.pass).seen)) (HasEnded most plan (view b.pass).seen × HasLed shape gives sent pool f b i) step
  work_after b Placed grows same after = grows_leading b after grows same
  work_after b Waited grows same after = grows_leading b after grows same
  work_after b Stopped grows same after = absurd after
  work_after b Over grows same after = (after.0, has_led b after.1 grows same)

  pub work_answered : {E : Type 0} (b : Hand S) (r : Result Step E) → (view b.pass).handed ≡ (view a.pass).handed → OnOk r (IsGrown most plan (view a.pass).seen (view b.pass).seen)
      → IfOk r (After (IsHead shape gives pool b) ⊥ (HasEnded most plan (view b.pass).seen × IsHandOf shape gives pool b))
      → IfOk r (After (IsLeading shape gives sent pool f b i) (⊥ × ((view b.pass).seen ≡ (view a.pass).seen)) (HasEnded most plan (view b.pass).seen × HasLed shape gives sent pool f b i))
  work_answered b (Ok step) same grown after = work_after b step grown.grows same after
  work_answered b (Err x) same grown after = tt

  -- where it had nothing to do
  rest_after : (b : Hand S) (step : Step) → step ≡ Waited → IsLeading shape gives sent pool f b i
      → After (IsLeading shape gives sent pool f b i) (⊥ × ((view b.pass).seen ≡ (view a.pass).seen)) (HasEnded most plan (view b.pass).seen × HasLed shape gives sent pool f b i) step
  rest_after b Waited waited leading = leading
  rest_after b Placed waited leading = leading
  rest_after b Stopped waited leading = cc
  rest_after b Over waited leading = cc

  pub rest_answered : {E : Type 0} (b : Hand S) (r : Result Step E) → IsHead shape gives pool b → (view b.pass).seen ≡ (view a.pass).seen → (view b.pass).handed ≡ (view a.pass).handed → IfOk r (λ step. step ≡ Waited)
      → IfOk r (After (IsLeading shape gives sent pool f b i) (⊥ × ((view b.pass).seen ≡ (view a.pass).seen)) (HasEnded most plan (view b.pass).seen × HasLed shape gives sent pool f b i))
  rest_answered b (Ok step) head seen same waited = rest_after b step waited (grows_leading b head (no_growth (view a.pass).seen (view b.pass).seen seen) same)
  rest_answered b (Err x) head seen same waited = tt

  pub rest_grown : (b : Hand S) → (view b.pass).seen ≡ (view a.pass).seen → IsGrown most plan (view a.pass).seen (view b.pass).seen
  rest_grown b seen = grown_same most plan (view a.pass).seen (view b.pass).seen (machine_of a.pass) (head_sight shape gives pool a was.head) seen

-- what its machine says of the intake, it says of what it has seen
pub machine_tells : {S T : Type 0} (shape : S → Shape) (gives : S → ℕ → Type 0) (pool : Pool S) (a : Hand S) → IsHead shape gives pool a → (of : PlanView → List Event → T) (told : T)
    → ((q : PlanView) (h : List Event) → StandsFor (machine_of a.pass) q h → told ≡ of q h) → told ≡ of pool.plan.now (view a.pass).seen
machine_tells shape gives pool a is of told tells = tells pool.plan.now (view a.pass).seen (head_sight shape gives pool a is).stands

-- it has gathered all that it has seen
pub gathered_admitted : {S X : Type 0} (shape : S → Shape) (gives : S → ℕ → Type 0) (sent : X → ℕ → Type 0) (pool : Pool S) (f : FrontView) (i : IntakeView X) (a b : Hand S) → IsHandOf shape gives pool b
    → view b.pass ≡ knowing (view a.pass) (view a.pass).seen (view b.pass).marks → Admitted gives sent f (view a.pass) i → Admitted gives sent f (view b.pass) i
gathered_admitted {S} shape gives sent pool f i a b of same old =
    let v = view a.pass in let w = view b.pass in
    admitted_on gives sent f v w i (ap (λ (x : View S). x.terms) same) (ap (λ (x : View S). x.handed.placed) same) (grows_no_call v.seen w.seen (no_growth v.seen w.seen (ap (λ (x : View S). x.seen) same)))
    (lawful_seen shape gives pool.board.now b.pass of.pass) old

-- ## A job was laid into the slot of the next block

module _ {S : Type 0} (shape : S → Shape) (gives : S → ℕ → Type 0) (pool : Pool S) (a : Hand S) (is : IsHead shape gives pool a) (q : RowPass S) (c : S) (pass : IsPassOf shape gives pool.board.now q)
    (slots_same : slots q ≡ slots a.pass) (laid : view q ≡ turning (view a.pass) (Laid c)) where
  abbrev laid_hand : Hand S
  laid_hand = record { pass = q; bench = a.bench; journal = a.journal }

  laid_serves : Serving shape gives pool a laid_hand
  laid_serves =
      serves_pass shape gives pool a q is.ready.of pass (subst (GoesOn (view a.pass)) (sym laid) (record { is = refl; more = starts_refl (view a.pass).seen })) (ap (λ (x : View S). x.marks.passed) laid)

  pub laid_head : IsHead shape gives pool laid_hand
  laid_head =
      still_head shape gives pool a is laid_hand laid_serves
      (subst (λ (x : View S). IsFresh shape x (slots q)) (sym laid)
      (subst (λ (l : List (ℕ × S)). IsFreshAt shape (view a.pass).terms.plan (view a.pass).seen (view a.pass).worker l) (sym slots_same) is.ready.fresh))

  pub laid_leads : (first : Hand S) → Leads shape gives pool first a → Leads shape gives pool first laid_hand
  laid_leads first kept = look_leads shape gives pool a is first laid_hand laid_serves (record { none = λ all. ap (λ (x : View S). x.seen) laid }) kept

  -- its Accept was put
  pub laid_accepted : {X : Type 0} (sent : X → ℕ → Type 0) (k : Blk) (s : ℕ) (job : X) (b : Hand S) (r : Put) → ((n : ℕ) → gives c n → sent job n) → IsHead shape gives pool b
      → Says (bounds_of pool).most pool.plan.now (Accept k s) (view q).seen (view b.pass).seen r → HandedOn (Accept k s) (view q) (view b.pass) r → IsAccepted gives sent (bounds_of pool).most pool.plan.now k s job (view a.pass) (view b.pass) (Some r)
  laid_accepted sent k s job b r that head said handed = record {
    put = r;
    is = refl;
    said = subst (λ (h : List Event). Says (bounds_of pool).most pool.plan.now (Accept k s) h (view b.pass).seen r) (ap (λ (x : View S). x.seen) laid) said;
    cell = c;
    gives_that = that;
    handed = subst (λ (x : View S). HandedOn (Accept k s) x (view b.pass) r) laid handed;
    terms = head.ready.of.pass.terms ∙ sym is.ready.of.pass.terms;
  }

-- ## The run

-- who knows more of when a team has one hand, and of when worker 0 is done
pub led_front_where : {S X P C : Type 0} (p c : Bool) (poller : P → PollerState) (clock : C → ClockState) (gives : S → ℕ → Type 0) (sent : X → ℕ → Type 0) (f : FrontView) (A B D E : Type 0) (old new : Hand S × IntakeView X × Outside P C) → (B → A) → (E → D)
    → LedWithFront p c poller clock gives sent f A D old new → LedWithFront p c poller clock gives sent f B E old new
led_front_where p c poller clock gives sent f A B D E old new more done led = record {
  led = led_where p c poller clock A B D E (old.0, old.2) (new.0, new.2) more done led.led;
  of_front = λ is. led.of_front (done is);
  admitted = λ is. led.admitted (done is);
}
