-- A history that grows by events of workers.
use Rattle.std.proofs.Common.{◌≡◌, ◌∙◌, ◌++◌, ◌∷◌, [], Bool, true, List, length, append-nil, append_assoc, ap, subst, sym, refl, arith}
use Rattle.std.specs.List.{list_all}
use Rattle.std.proofs.lemmas.Bool.{and_from, and_parts}
use Rattle.std.proofs.lemmas.List.{length-append}
use Rattle.gcd_event.specs.declared.event.Event.{Event}
use Rattle.gcd_history.specs.Choice.{is_work}
use Rattle.gcd_plan.specs.PlanView.{PlanView}
use Rattle.gcd_loop.specs.Recorded.{Grows}
use Rattle.gcd_rounds.specs.Running.{bounds_of}
use Rattle.gcd_rounds.specs.declared.round.Round.{Round}
use Rattle.gcd_rounds.specs.declared.running.Terms.{Terms}

all_further : (p : Event → Bool) (xs ys : List Event) → list_all p xs ≡ true → list_all p ys ≡ true → list_all p (xs ++ ys) ≡ true
all_further p [] ys one two = two
all_further p (x ∷ xs) ys one two =
    let parts = and_parts (p x) (list_all p xs) one in
    and_from (p x) (list_all p (xs ++ ys)) parts.0 (all_further p xs ys parts.1 two)

pub grows_through : (a b c : List Event) → Grows a b → Grows b c → Grows a c
grows_through a b c first second = record {
  rest = first.rest ++ second.rest;
  split = second.split ∙ ap (λ (k : List Event). k ++ second.rest) first.split ∙ append_assoc a first.rest second.rest;
  work = all_further is_work first.rest second.rest first.work second.work;
}

none_more : (h more : List Event) → length (h ++ more) ≡ length h → h ++ more ≡ h
none_more h [] same = append-nil h
none_more h (e ∷ more) same = let long = length-append h (e ∷ more) in absurd (omega (arith, same, long))

-- a history that is as long as before is as it was
pub grown_none : (old new : List Event) → Grows old new → length new ≡ length old → new ≡ old
grown_none old new grown same = grown.split ∙ none_more old grown.rest (ap length (sym grown.split) ∙ same)

-- the bounds of a run that keeps its plan and its terms
pub same_bounds : {J H : Type 0} (new old : Round J H) → new.run.terms ≡ old.run.terms → new.plan.now ≡ old.plan.now → bounds_of new ≡ bounds_of old
same_bounds {J} new old terms plan =
    subst (λ (t : Terms J). bounds_of new ≡ record { plan = old.plan.now; most = t.most }) terms
    (subst (λ (q : PlanView). bounds_of new ≡ record { plan = q; most = new.run.terms.most }) plan refl)
