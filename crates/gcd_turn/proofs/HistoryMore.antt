-- Histories, an event on: what stays active or cancelled, and where a Ready or a FeedEnd may come.
use Rattle.std.proofs.Common.{◌≡◌, ◌∙◌, ◌++◌, ◌&&◌, ◌==◌, ℕ, Bool, true, false, not, List, [], ◌∷◌, Option, None, is_some, length, ap, reverse, sym, subst, refl, arith, eq-eqb}
use Rattle.std.specs.Prelude.{Contains, nat_lt, nat_le}
use Rattle.std.specs.Option.{option_map_or}
use Rattle.std.proofs.lemmas.Bool.{and_parts, and_from, both_ways, or_left, or_right, not-true, not_from_false}
use Rattle.std.proofs.lemmas.List.{take-append-le, take_all, length_push}
use Rattle.std.proofs.lemmas.List.Folds.{list_any_at}
use Rattle.gcd_plan.specs.PlanView.{PlanView}
use Rattle.gcd_plan.specs.Kinds.{has_kind, is_read_kind}
use Rattle.gcd_plan.specs.Limits.{max_value}
use Rattle.gcd_plan.specs.declared.numbers.Obj.{Obj}
use Rattle.gcd_plan.specs.StartRule.{first_of}
use Rattle.gcd_plan.specs.declared.why.Why.TheVariants.{Over, NoSuch, NotLive}
use Rattle.gcd_plan.proofs.Options.{some_from_is_some}
use Rattle.gcd_event.specs.declared.event.Event.{Event}
use Rattle.gcd_event.specs.declared.event.Event.TheVariants.{Ready, FeedEnd, Halt}
use Rattle.gcd_history.specs.Choice.{is_work}
use Rattle.gcd_history.specs.Ends.{IsQuiescent, is_halted}
use Rattle.gcd_history.specs.History.{choice_of, is_active, is_cancelled, is_live_feed, why}
use Rattle.gcd_history.specs.Permitted.{is_feed, is_halted as is_halted_after}
use Rattle.gcd_history.specs.Sources.{is_live_feed as is_live_after}
use Rattle.gcd_history.specs.Submitted.{cancels}
use Rattle.gcd_history.proofs.Lists.{list_any-reverse, reverse_push}
use Rattle.gcd_history.proofs.Public.Laws.{choice_is_permitted, quiescent_stands}
use Rattle.gcd_history.proofs.Permitted.Reasons.{allowed, at_feed_end, at_ready}
use Rattle.gcd_turn.specs.Hearing.{MayEnd}
use Rattle.gcd_turn.specs.Promises.{WasLive}

-- what is active stays so
pub active_more : (plan : PlanView) (h : List Event) (e : Event) (s : ℕ) → is_active plan h s ≡ true → is_active plan (h ++ e ∷ []) s ≡ true
unfolding is_active
active_more plan h e s active = rw reverse_push (or_left _ _ active)

-- what is cancelled stays so
pub cancelled_more : (plan : PlanView) (h : List Event) (e : Event) (s : ℕ) → is_cancelled plan h s ≡ true → is_cancelled plan (h ++ e ∷ []) s ≡ true
unfolding is_cancelled
cancelled_more plan h e s cancelled = rw reverse_push (or_right _ _ cancelled)

-- a source whose FeedEnd stands is cancelled
pub ended_is_cancelled : (plan : PlanView) (h : List Event) (s : Obj) → Contains h (FeedEnd s) → is_cancelled plan h s.0 ≡ true
unfolding is_cancelled
ended_is_cancelled plan h s (k, within, at) =
    let test : Event → Bool = λ e. option_map_or (λ t. t.0 == s.0) (cancels plan e) false in
    list_any-reverse test h
    ∙ list_any_at test h k (FeedEnd s) within (subst (λ e. test e ≡ true) (sym at) (eq-eqb s.0 s.0 refl))

-- a live source is a read source, active and not cancelled
pub record LiveFacts (plan : PlanView) (h : List Event) (s : ℕ) : Type 0 where
  pub reads : has_kind is_read_kind plan s ≡ true
  pub active : is_active plan h s ≡ true
  pub uncancelled : is_cancelled plan h s ≡ false

pub live_facts : (plan : PlanView) (h : List Event) (s : ℕ) → is_live_feed plan h s ≡ true → LiveFacts plan h s
unfolding is_live_feed is_live_after is_active is_cancelled
live_facts plan h s live =
    let first = and_parts (has_kind is_read_kind plan s) (is_active plan h s && not (is_cancelled plan h s)) live in
    let second = and_parts (is_active plan h s) (not (is_cancelled plan h s)) first.1 in
    record { reads = first.0; active = second.0; uncancelled = not-true (is_cancelled plan h s) second.1 }

pub live_from : (plan : PlanView) (h : List Event) (s : ℕ) → LiveFacts plan h s → is_live_feed plan h s ≡ true
unfolding is_live_feed is_live_after is_active is_cancelled
live_from plan h s facts = and_from _ _ facts.reads (and_from _ _ facts.active (not_from_false _ facts.uncancelled))

pub uncancelled_before : (plan : PlanView) (h : List Event) (e : Event) (s : ℕ) → is_cancelled plan (h ++ e ∷ []) s ≡ false → is_cancelled plan h s ≡ false
uncancelled_before plan h e s after =
    elim (is_cancelled plan h s) as (λ v. is_cancelled plan h s ≡ v → v ≡ false) [
      | true ↦ λ before. let kept = cancelled_more plan h e s before in cc
      | false ↦ λ before. refl
    ] refl

-- where an event is permitted the history is not halted
pub unhalted_before : (plan : PlanView) (h : List Event) (e : Event) → why plan h e ≡ None → is_halted h ≡ false
unfolding is_halted why
unhalted_before plan h e permitted = (allowed plan (reverse h) e permitted).goes_on

pub may_end_at_feed_end : (plan : PlanView) (h : List Event) (s : Obj) → why plan h (FeedEnd s) ≡ None → MayEnd plan h s.0
unfolding why is_live_feed
may_end_at_feed_end plan h s permitted =
    record { unhalted = unhalted_before plan h (FeedEnd s) permitted; live = at_feed_end plan (reverse h) s permitted }

pub may_end_at_ready : (plan : PlanView) (h : List Event) (s : Obj) (n : ℕ) → why plan h (Ready s n) ≡ None → MayEnd plan h s.0
unfolding why is_live_feed
may_end_at_ready plan h s n permitted =
    record { unhalted = unhalted_before plan h (Ready s n) permitted; live = at_ready plan (reverse h) s n permitted }

no_reason : (over known live : Bool) → over ≡ false → known ≡ true → live ≡ true
    → first_of ((Over, over) ∷ (NoSuch, not known) ∷ (NotLive, not live) ∷ []) ≡ None
no_reason over known live a b c = rw (a, b, c) refl

pub feed_end_may_come : (plan : PlanView) (h : List Event) (s : Obj) → MayEnd plan h s.0 → why plan h (FeedEnd s) ≡ None
unfolding why is_halted is_live_feed
feed_end_may_come plan h s may =
    no_reason (is_halted_after (reverse h)) (is_feed plan s.0) (is_live_after plan (reverse h) s.0) may.unhalted
    (live_facts plan h s.0 may.live).reads may.live

pub ready_may_come : (plan : PlanView) (h : List Event) (s : Obj) (n : ℕ) → MayEnd plan h s.0 → (nat_lt 0 n && nat_le n max_value) ≡ true
    → why plan h (Ready s n) ≡ None
unfolding why is_halted is_live_feed
ready_may_come plan h s n may fits =
    no_reason (is_halted_after (reverse h)) (is_feed plan s.0 && (nat_lt 0 n && nat_le n max_value)) (is_live_after plan (reverse h) s.0) may.unhalted
    (and_from (is_feed plan s.0) _ (live_facts plan h s.0 may.live).reads fits) may.live

-- where a FeedEnd may come after an event it might before, if the source was active
pub may_end_before : (plan : PlanView) (h : List Event) (e : Event) (s : ℕ) → why plan h e ≡ None → is_active plan h s ≡ true
    → MayEnd plan (h ++ e ∷ []) s → MayEnd plan h s
may_end_before plan h e s permitted active may =
    let facts = live_facts plan (h ++ e ∷ []) s may.live in
    record {
      unhalted = unhalted_before plan h e permitted;
      live = live_from plan h s (record { reads = facts.reads; active = active; uncancelled = uncancelled_before plan h e s facts.uncancelled });
    }

pub ended_may_not_end : (plan : PlanView) (h : List Event) (s : Obj) → MayEnd plan (h ++ FeedEnd s ∷ []) s.0 → ⊥
unfolding is_cancelled
ended_may_not_end plan h s may =
    let facts = live_facts plan (h ++ FeedEnd s ∷ []) s.0 may.live in
    let ended : is_cancelled plan (h ++ FeedEnd s ∷ []) s.0 ≡ true = rw reverse_push (or_left _ _ (eq-eqb s.0 s.0 refl)) in
    both_ways _ facts.uncancelled ended

pub halted_by_halt : (h : List Event) → is_halted (h ++ Halt ∷ []) ≡ true
unfolding is_halted
halted_by_halt h = rw reverse_push refl

-- what was live was so at the same position
pub was_live_more : (plan : PlanView) (h : List Event) (e : Event) (s : ℕ) → WasLive plan h s → WasLive plan (h ++ e ∷ []) s
was_live_more plan h e s was = record {
  position = was.position;
  within = let within = was.within in omega (arith, length_push h e, within);
  live = subst (λ k. is_live_feed plan k s ≡ true) (sym (take-append-le was.position h (e ∷ []) was.within)) was.live;
}

pub was_live_now : (plan : PlanView) (h : List Event) (s : ℕ) → is_live_feed plan h s ≡ true → WasLive plan h s
was_live_now plan h s live = record {
  position = length h;
  within = omega arith;
  live = subst (λ k. is_live_feed plan k s ≡ true) (sym (take_all (length h) h (omega arith))) live;
}

-- where worker 0 has a choice the history is not quiescent
pub unquiet_at_choice : (plan : PlanView) (h : List Event) (chosen : Option Event) → chosen ≡ choice_of plan h 0 0 → is_some chosen ≡ true
    → IsQuiescent plan h → ⊥
unquiet_at_choice plan h chosen is some quiet =
    let one = some_from_is_some chosen some in
    let choice = choice_is_permitted plan h 0 0 one.0 (sym is ∙ one.1) in
    both_ways (is_work one.0) (ap is_work (quiescent_stands plan h one.0 quiet choice.permitted)) choice.work
