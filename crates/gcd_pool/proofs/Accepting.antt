-- What an open intake asks for next, and what worker 0 took once an Accept was put.
use Rattle.std.proofs.Common.{◌≡◌, ◌≢◌, ◌<◌, ◌≤◌, ◌+◌, ◌==◌, ◌∙◌, ◌++◌, ⊎_elim, ℕ, zero, suc, Bool, true, false, not, cond, List, [], ◌∷◌, Option, Some, None, is_some, is_none, find, reverse, ap, sym, subst, refl, arith, eq-eqb}
use Rattle.std.specs.Prelude.{nat_lt}
use Rattle.std.specs.List.{list_any}
use Rattle.std.specs.Option.{option_map_or}
use Rattle.std.proofs.lemmas.Bool.{and_from, and_parts, cases_eq, lt-ltb, not-false, not-true}
use Rattle.gcd_plan.specs.PlanView.{PlanView, IntakeView as PlanIntake}
use Rattle.gcd_plan.specs.Made.{blocks_in, intake_blocks, intake_span, is_of_intake}
use Rattle.gcd_plan.specs.declared.numbers.Blk.{Blk}
use Rattle.gcd_plan.specs.declared.why.Why.TheVariants.{NotLive, NotNext}
use Rattle.gcd_plan.proofs.MadeBlocks.{within_parts}
use Rattle.gcd_event.specs.declared.event.Event.{Event}
use Rattle.gcd_event.specs.declared.event.Event.TheVariants.{Accept}
use Rattle.gcd_history.specs.Ends.{is_halted}
use Rattle.gcd_history.specs.History.{IsLawful, is_intake_open, next_of_intake, why}
use Rattle.gcd_history.specs.Intake.{accepts, is_accepted, is_intake_open as open_after, next_of_intake as next_after, shuts, AllAccepted}
use Rattle.gcd_history.proofs.MadeBlocks.AcceptsStay.{accepts_stay_permitted}
use Rattle.gcd_history.proofs.Lists.{list_any-reverse}
use Rattle.gcd_history.proofs.MadeBlocks.Spans.{blocks_from, of_intake}
use Rattle.gcd_history.proofs.Permitted.Quiet.{none_first, none_why}
use Rattle.gcd_turn.specs.Turns.{HasRoom}
use Rattle.gcd_front.specs.Fronts.{TakesNext}
use Rattle.gcd_front.specs.Limits.{max_senders}
use Rattle.gcd_front.specs.Queue.{parcel}
use Rattle.gcd_front.specs.Views.{FrontView, IntakeView}
use Rattle.gcd_row.specs.declared.view.Handed.{Handed}
use Rattle.gcd_row.specs.declared.view.Next.TheVariants.{Laid}
use Rattle.gcd_row.specs.declared.view.View.{View}
use Rattle.gcd_row.specs.Views.{turning}
use Rattle.gcd_row.proofs.Accepted.{next_of, next_unaccepted}
use Rattle.gcd_loop.specs.Recorded.{Grows, Says}
use Rattle.gcd_loop.proofs.Events.{refused}
use Rattle.gcd_machine.specs.declared.put.Put.{Put}
use Rattle.gcd_machine.specs.declared.put.Put.TheVariants.{Placed, Barred, Held, Full}
use Rattle.gcd_pool.specs.Admitted.{Admitted, HandedOn, IsAccepted, IsUnderWay}
use Rattle.gcd_pool.proofs.Admitting.{admitted_accepted, admitted_lost, admitted_on, grows_no_call, shut_same, works_uncalled}

-- ## An open intake

-- no Shut stands
pub unshut : (plan : PlanView) (h : List Event) → is_intake_open plan h ≡ true → list_any shuts h ≡ false
unfolding is_intake_open open_after
unshut plan h is =
    sym (list_any-reverse shuts h) ∙ not-true (list_any shuts (reverse h)) (and_parts (is_some plan.intake) (not (list_any shuts (reverse h))) is).1

-- where none of n blocks is found, each fails
none_of_span : (p : ℕ → Bool) (a n k : ℕ) → find (λ (c : Blk). p c.0) (blocks_from a n) ≡ None → a ≤ k → k < a + n → p k ≡ false
none_of_span p a zero k none low high = absurd (omega (arith, low, high))
none_of_span p a (suc n) k none low high =
    elim (p a) as (λ v. p a ≡ v → cond v (Some (record { 0 = a })) (find (λ (c : Blk). p c.0) (blocks_from (a + 1) n)) ≡ None → p k ≡ false) [
      | true ↦ λ at found. cc
      | false ↦ λ at found. ⊎_elim
          (λ (same : a ≡ k). subst (λ j. p j ≡ false) same at)
          (λ (other : a ≢ k). let more : a + 1 ≤ k = grind arith in none_of_span p (a + 1) n k found more (omega (arith, high)))
          (cases_eq a k)
    ] refl none

-- where no block comes next, each is accepted
pub all_accepted : (plan : PlanView) (h : List Event) → is_intake_open plan h ≡ true → next_of_intake plan h ≡ None → AllAccepted plan h
unfolding is_intake_open next_of_intake next_after
all_accepted plan h is none b of =
    let past = reverse h in
    let fails : Blk → Bool = λ c. not (is_accepted past c.0) in
    let found : find fails (intake_blocks plan) ≡ None = sym (ap (λ v. cond v (find fails (intake_blocks plan)) None) is) ∙ none in
    let i = of_intake plan b of in
    let parts = within_parts b (intake_span i.0) i.2 in
    let span : find fails (blocks_from i.0.first i.0.count) ≡ None =
    sym (ap (λ o. find fails (option_map_or (λ (k : PlanIntake). blocks_in (intake_span k)) o [])) i.1) ∙ found in
    sym (list_any-reverse (accepts b) h)
    ∙ not-false (is_accepted past b) (none_of_span (λ k. not (is_accepted past k)) i.0.first i.0.count b span parts.0 parts.1)

-- the Accept of the next block, of a sender that there may be, may come
pub accept_may_come : (plan : PlanView) (h : List Event) (b : Blk) (s : ℕ) → is_halted h ≡ false → next_of_intake plan h ≡ Some b → s < 64 → why plan h (Accept b s) ≡ None
unfolding why is_halted next_of_intake
accept_may_come plan h b s on next low =
    let past = reverse h in
    let found = next_after plan past in
    let other = not (option_map_or (λ (c : Blk). c.0 == b.0) found false) in
    none_why plan past (Accept b s) on
    (and_from (is_of_intake plan b.0) (nat_lt s 64) (next_of plan h b next) (lt-ltb s 64 low))
    (none_first NotLive (is_none found) ((NotNext, other) ∷ []) (ap is_none next)
    (none_first NotNext other [] (ap (λ o. not (option_map_or (λ (c : Blk). c.0 == b.0) o false)) next ∙ ap not (eq-eqb b.0 b.0 refl)) refl))

-- ## An Accept that was put

module _ {S X : Type 0} (gives : S → ℕ → Type 0) (sent : X → ℕ → Type 0) (f : FrontView) (most : ℕ) (plan : PlanView) (v w : View S) (i j : IntakeView X) (b : Blk) (s n : ℕ) (job : X) (c : S) (own : v.terms.plan ≡ plan) (limit : v.terms.limits.most ≡ most) (terms : w.terms ≡ v.terms)
    (lawful : IsLawful w.terms.plan w.seen) (few : f.senders ≤ max_senders) (is : is_intake_open plan v.seen ≡ true) (room : HasRoom most plan v.seen) (next : next_of_intake plan v.seen ≡ Some b) (took : TakesNext f i (parcel s n job) j)
    (that : (m : ℕ) → gives c m → sent job m) (old : Admitted gives sent f v i) where
  under_way : IsUnderWay v.terms.limits.most v.seen
  under_way = record { unhalted = room.going_on.unhalted; room = let l = room.room in omega (arith, l, limit) }

  one_more : j.taken ≡ i.taken ++ parcel s n job ∷ []
  one_more = ap (λ (x : IntakeView X). x.taken) took.taken

  -- it was not placed, so the run is over
  lost : w.handed.placed ≡ v.handed.placed → Grows v.seen w.seen → (IsUnderWay w.terms.limits.most w.seen → ⊥) → Admitted gives sent f w j
  lost placed grown over =
      let a = grows_no_call v.seen w.seen grown in
      admitted_lost gives sent f w i j (parcel s n job) one_more over (shut_same v.seen w.seen a ∙ unshut plan v.seen is)
      (admitted_on gives sent f v w i terms placed a lawful old)

  accept_keeps : (r : Put) → Says most plan (Accept b s) v.seen w.seen r → HandedOn (Accept b s) (turning v (Laid c)) w r → Admitted gives sent f w j
  accept_keeps (Placed k) said handed =
      admitted_accepted gives sent f v w i j said.front b s n job c terms
      (ap (λ (x : Handed S). x.placed) handed.1 ∙ ap (λ (x : S). (b.0, x) ∷ v.handed.placed) handed.2)
      (grows_no_call v.seen said.front said.grown) said.is one_more under_way (subst (λ (q : PlanView). is_of_intake q b.0 ≡ true) (sym own) (next_of plan v.seen b next))
      (unaccepted (list_any (accepts b.0) v.seen) refl) that old (unshut plan v.seen is) took.sender
    where
      unaccepted : (k : Bool) → list_any (accepts b.0) v.seen ≡ k → list_any (accepts b.0) v.seen ≡ false
      unaccepted true at = absurd (next_unaccepted plan v.seen b next at)
      unaccepted false at = at
  accept_keeps (Barred at y) said handed =
      lost (ap (λ (x : Handed S). x.placed) handed) said.0 (λ under.
      refused (why plan w.seen (Accept b s)) y said.2 (subst (λ (l : List Event). why plan l (Accept b s) ≡ None) (sym said.0.split)
      (accepts_stay_permitted plan v.seen said.0.rest b s (accept_may_come plan v.seen b s room.going_on.unhalted next (let low = took.sender in omega (arith, low, few)))
      (works_uncalled said.0.rest said.0.work) (subst (λ (l : List Event). is_halted l ≡ false) said.0.split under.unhalted))))
  accept_keeps (Held by passed) said handed = absurd handed
  accept_keeps Full said handed =
      lost (ap (λ (x : Handed S). x.placed) handed.0) said.0 (λ under. let l = under.room in let same : w.terms.limits.most ≡ v.terms.limits.most = ap (λ t. t.limits.most) terms in let full = handed.1 in omega (arith, l, same, full))

-- so it is for what `accept` says
pub accepted_keeps : {S X : Type 0} (gives : S → ℕ → Type 0) (sent : X → ℕ → Type 0) (f : FrontView) (most : ℕ) (plan : PlanView) (v w : View S) (i j : IntakeView X) (b : Blk) (s n : ℕ) (job : X) (answer : Option Put) → v.terms.plan ≡ plan → v.terms.limits.most ≡ most
    → IsLawful w.terms.plan w.seen → f.senders ≤ max_senders → is_intake_open plan v.seen ≡ true → HasRoom most plan v.seen → next_of_intake plan v.seen ≡ Some b → TakesNext f i (parcel s n job) j
    → IsAccepted gives sent most plan b s job v w answer → Admitted gives sent f v i → Admitted gives sent f w j
accepted_keeps gives sent f most plan v w i j b s n job answer own limit lawful few is room next took was old =
    accept_keeps gives sent f most plan v w i j b s n job was.cell own limit was.terms lawful few is room next took was.gives_that old was.put was.said was.handed
