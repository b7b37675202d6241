-- What is active or cancelled stays so, and so a feed that is dead stays dead and silent.
use Rattle.std.proofs.Common.{◌≡◌, ℕ, ◌==◌, Bool, true, false, None, not, ◌&&◌, ◌||◌, List, [], ◌∷◌, ◌++◌, refl, ap, ◌∙◌, subst}
use Rattle.std.specs.List.{list_any}
use Rattle.std.specs.Option.{option_map_or}
use Rattle.std.proofs.lemmas.Bool.{and_parts, or_left, or_right, both_ways, eqb-true, false_from_ne_true}
use Rattle.gcd_plan.specs.PlanView.{PlanView}
use Rattle.gcd_plan.specs.Kinds.{has_kind, is_read_kind}
use Rattle.gcd_event.specs.declared.event.Event.{Event}
use Rattle.gcd_event.specs.declared.event.Event.TheVariants.{Ready, FeedEnd}
use Rattle.gcd_history.specs.Holds.{is_active}
use Rattle.gcd_history.specs.Submitted.{is_cancelled, cancels}
use Rattle.gcd_history.specs.Sources.{is_live_feed}
use Rattle.gcd_history.specs.Permitted.{IsLawful, is_halted, why}
use Rattle.gcd_history.specs.Facts.{is_of_feed}
use Rattle.gcd_history.proofs.Permitted.Reasons.{allowed, at_ready, at_feed_end}

pub active_on : (plan : PlanView) (later past : List Event) (o : ℕ) → is_active plan past o ≡ true → is_active plan (later ++ past) o ≡ true
active_on plan [] past o h = h
active_on plan (e ∷ later) past o h = or_left (is_active plan (later ++ past) o) _ (active_on plan later past o h)

pub cancelled_on : (plan : PlanView) (later past : List Event) (s : ℕ) → is_cancelled plan past s ≡ true → is_cancelled plan (later ++ past) s ≡ true
cancelled_on plan [] past s h = h
cancelled_on plan (e ∷ later) past s h = or_right (option_map_or (λ t. t.0 == s) (cancels plan e) false) (is_cancelled plan (later ++ past) s) (cancelled_on plan later past s h)

-- ## Where a feed dies

only_cancelled : (k a c : Bool) → k ≡ true → a ≡ true → (k && (a && not c)) ≡ false → c ≡ true
only_cancelled true true true p q h = refl
only_cancelled true true false p q h = cc
only_cancelled true false c p q h = cc
only_cancelled false a c p q h = cc

-- a feed that was live and is so no more is cancelled
pub dies : (plan : PlanView) (later past : List Event) (s : ℕ) → is_live_feed plan past s ≡ true → is_live_feed plan (later ++ past) s ≡ false → is_cancelled plan (later ++ past) s ≡ true
unfolding is_live_feed
dies plan later past s live dead =
    let kind = and_parts (has_kind is_read_kind plan s) _ live in
    let active = (and_parts (is_active plan past s) _ kind.1).0 in
    only_cancelled (has_kind is_read_kind plan s) (is_active plan (later ++ past) s) (is_cancelled plan (later ++ past) s) kind.0 (active_on plan later past s active) dead

-- ## A dead feed is silent

-- what is told of a feed is told of a live one
told_live : (plan : PlanView) (e : Event) (past : List Event) (s : ℕ) → why plan past e ≡ None → is_of_feed s e ≡ true → is_live_feed plan past s ≡ true
told_live plan (Ready t n) past s may of_s = subst (λ k. is_live_feed plan past k ≡ true) (eqb-true t.0 s of_s) (at_ready plan past t n may)
told_live plan (FeedEnd t) past s may of_s = subst (λ k. is_live_feed plan past k ≡ true) (eqb-true t.0 s of_s) (at_feed_end plan past t may)
told_live plan e past s may of_s = cc

-- a live feed is not cancelled
live_open : (plan : PlanView) (past : List Event) (s : ℕ) → is_live_feed plan past s ≡ true → not (is_cancelled plan past s) ≡ true
unfolding is_live_feed
live_open plan past s live = (and_parts (is_active plan past s) _ (and_parts (has_kind is_read_kind plan s) _ live).1).1

pub cancelled_silent : (plan : PlanView) (later past : List Event) (s : ℕ) → IsLawful plan (later ++ past) → is_cancelled plan past s ≡ true → list_any (is_of_feed s) later ≡ false
cancelled_silent plan [] past s lawful over = refl
cancelled_silent plan (e ∷ later) past s lawful over =
    let rest = cancelled_silent plan later past s lawful.0 over in
    let shut = ap not (cancelled_on plan later past s over) in
    let here = false_from_ne_true (is_of_feed s e) (λ of_s. both_ways (not (is_cancelled plan (later ++ past) s)) shut (live_open plan (later ++ past) s (told_live plan e (later ++ past) s lawful.1 of_s))) in
    ap (λ v. v || list_any (is_of_feed s) later) here ∙ rest

-- ## After a halt nothing comes

pub halted_ends : (plan : PlanView) (later past : List Event) → IsLawful plan (later ++ past) → is_halted past ≡ true → later ≡ []
halted_ends plan [] past lawful halted = refl
halted_ends plan (e ∷ later) past lawful halted =
    let none = halted_ends plan later past lawful.0 halted in
    absurd (both_ways (is_halted (later ++ past)) (allowed plan (later ++ past) e lawful.1).goes_on (ap (λ l. is_halted (l ++ past)) none ∙ halted))
