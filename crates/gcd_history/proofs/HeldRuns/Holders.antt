-- Who holds what an event on, and that one worker's history has no gaps.
use Rattle.std.proofs.Common.{◌≡◌, inl, inr, ⊎_elim, ℕ, zero, suc, ◌<◌, Bool, true, false, cond, ◌==◌, List, [], ◌∷◌, ◌++◌, filter, Option, Some, None, is_some, refl, ap, sym, ◌∙◌, subst, arith}
use Rattle.std.specs.Option.{option_or}
use Rattle.std.proofs.lemmas.Bool.{eqb-true, eq-eqb, both_ways, cases_Bool, cases_eq}
use Rattle.std.proofs.lemmas.Option.{none-some}
use Rattle.std.proofs.lemmas.List.{append-nil}
use Rattle.std.proofs.lemmas.List.Elements.{filter-append}
use Rattle.gcd_plan.specs.PlanView.{PlanView}
use Rattle.gcd_plan.specs.declared.numbers.Run.{Run}
use Rattle.gcd_event.specs.declared.event.Event.{Event}
use Rattle.gcd_event.specs.declared.event.Event.TheVariants.{Start, Wake, Deliver}
use Rattle.gcd_history.specs.Choice.{worker_of}
use Rattle.gcd_history.specs.History.{IsLawful, why}
use Rattle.gcd_history.proofs.Permitted.Lawful.{lawful_front, lawful_next}
use Rattle.gcd_history.proofs.Runs.Open.{same_run-refl}
use Rattle.gcd_history.specs.Held.{is_of, taken, given, held_after}
use Rattle.gcd_history.specs.Team.{of_worker, held_by, StartsWith}
use Rattle.gcd_history.specs.TeamFacts.{ComesHome, HeldAfter, IsOneWorkers}
use Rattle.gcd_history.proofs.HeldRuns.OwnEvents.{none_of_worker}
use Rattle.gcd_history.proofs.HeldRuns.Taking.{is_it, it_is}
use Rattle.gcd_history.proofs.Public.TeamLaws.{held_goes_on, takings_find_nobody, givings_are_the_holders}

-- who takes gives nothing
pub takes_alone : (plan : PlanView) (e : Event) (r : Run) → given plan e ≡ Some r → taken e ≡ None
takes_alone plan (Start w b) r gave = absurd (none-some r gave)
takes_alone plan (Wake w b) r gave = absurd (none-some r gave)
takes_alone plan (Deliver w s) r gave = absurd (none-some r gave)
takes_alone plan e r gave = refl

mine_after : (plan : PlanView) (h : List Event) (e : Event) → held_by plan (h ++ e ∷ []) (worker_of e) ≡ held_after plan e (held_by plan h (worker_of e))
mine_after plan h e = held_goes_on plan h e (worker_of e) ∙ ap (λ v. cond v (held_after plan e (held_by plan h (worker_of e))) (held_by plan h (worker_of e))) (eq-eqb (worker_of e) (worker_of e) refl)

others_after : (plan : PlanView) (h : List Event) (e : Event) (w : ℕ) → is_of w e ≡ false → held_by plan (h ++ e ∷ []) w ≡ held_by plan h w
others_after plan h e w other = held_goes_on plan h e w ∙ ap (λ v. cond v (held_after plan e (held_by plan h w)) (held_by plan h w)) other

by_kind : (took gave held : Option Run) → took ≡ None → gave ≡ None → option_or took (cond (is_some gave) None held) ≡ held
by_kind took gave held p q = ap (λ o. option_or o (cond (is_some gave) None held)) p ∙ ap (λ o. cond (is_some o) None held) q

either_way : (v : Bool) (a b : Option Run) → a ≡ b → cond v a b ≡ b
either_way true a b h = h
either_way false a b h = refl

pub what_is_held_after : (plan : PlanView) (h : List Event) (e : Event) → HeldAfter plan h e
what_is_held_after plan h e = record {
  took = λ r it. mine_after plan h e ∙ ap (λ o. option_or o (cond (is_some (given plan e)) None (held_by plan h (worker_of e)))) it;
  gave = λ r it. mine_after plan h e
      ∙ ap (λ o. option_or o (cond (is_some (given plan e)) None (held_by plan h (worker_of e)))) (takes_alone plan e r it)
      ∙ ap (λ o. cond (is_some o) None (held_by plan h (worker_of e))) it;
  others = others_after plan h e;
  same = λ untaken ungiven w. held_goes_on plan h e w
      ∙ either_way (is_of w e) (held_after plan e (held_by plan h w)) (held_by plan h w) (by_kind (taken e) (given plan e) (held_by plan h w) untaken ungiven);
}

-- a run that is not given back stays with who holds it
kept_by : (plan : PlanView) (h : List Event) (e : Event) → IsLawful plan h → why plan h e ≡ None → (w : ℕ) (r : Run) → held_by plan h w ≡ Some r → (given plan e ≡ Some r → ⊥) → held_by plan (h ++ e ∷ []) w ≡ Some r
kept_by plan h e lawful may w r it ungiven =
    elim (is_of w e) as (λ v. is_of w e ≡ v → held_by plan (h ++ e ∷ []) w ≡ Some r) [
      | true ↦ λ mine.
          let here : held_by plan h (worker_of e) ≡ Some r = subst (λ v. held_by plan h v ≡ Some r) (sym (eqb-true (worker_of e) w mine)) it in
          elim (taken e) as (λ o. taken e ≡ o → held_by plan (h ++ e ∷ []) w ≡ Some r) [
            | Some q ↦ λ took. absurd (none-some r (sym (takings_find_nobody plan h lawful e q took may).idle ∙ here))
            | None ↦ λ untaken. elim (given plan e) as (λ o. given plan e ≡ o → held_by plan (h ++ e ∷ []) w ≡ Some r) [
              | Some q ↦ λ gave. absurd (ungiven (gave ∙ sym (givings_are_the_holders plan h lawful e q gave may) ∙ here))
              | None ↦ λ none. (what_is_held_after plan h e).same untaken none w ∙ it
            ] refl
          ] refl
      | false ↦ λ other. others_after plan h e w other ∙ it
    ] refl

pub comes_home : (plan : PlanView) (h : List Event) (e : Event) → IsLawful plan (h ++ e ∷ []) → ComesHome plan h e
comes_home plan h e whole r nobodys =
    let lawful = lawful_front plan h (e ∷ []) whole in
    let may = lawful_next plan h e [] whole in
    ⊎_elim
    (λ gave. inl (it_is (given plan e) r gave))
    (λ ungiven. inr (
      (λ w it. nobodys w (kept_by plan h e lawful may w r it (λ gave. both_ways (is_it (given plan e) r) ungiven (ap (λ o. is_it o r) gave ∙ same_run-refl r)))),
      (λ took. nobodys (worker_of e) ((what_is_held_after plan h e).took r took)),
    ))
    (cases_Bool (is_it (given plan e) r))

-- ## One worker

first_of_own : (w : ℕ) (e : Event) (rest : List Event) → (worker_of e == w) ≡ true → filter (is_of w) (e ∷ rest) ≡ [] → ⊥
first_of_own w e rest mine none =
    let some : e ∷ filter (is_of w) rest ≡ [] = sym (ap (λ v. cond v (e ∷ filter (is_of w) rest) (filter (is_of w) rest)) mine) ∙ none in
    cc

nothing_left : (xs ys : List Event) → xs ++ ys ≡ [] → ys ≡ []
nothing_left [] ys h = h
nothing_left (x ∷ xs) ys h = cc

own_of_rest : (w : ℕ) (h rest : List Event) → of_worker w (h ++ rest) ≡ [] → filter (is_of w) rest ≡ []
unfolding of_worker
own_of_rest w h rest none = nothing_left (filter (is_of w) h) (filter (is_of w) rest) (sym (filter-append (is_of w) h rest) ∙ none)

no_rest : (h rest : List Event) → of_worker 0 (h ++ rest) ≡ of_worker 0 h → IsOneWorkers (h ++ rest) → h ++ rest ≡ h
no_rest h [] same one = append-nil h
no_rest h (e ∷ rest) same one =
    ⊎_elim
    (λ first. absurd (first_of_own 0 e rest (eq-eqb (worker_of e) 0 first) (none_of_worker 0 h (e ∷ rest) same)))
    (λ later. absurd (first_of_own (worker_of e) e rest (eq-eqb (worker_of e) (worker_of e) refl) (own_of_rest (worker_of e) h (e ∷ rest) (one (worker_of e) (above (worker_of e) later)))))
    (cases_eq (worker_of e) 0)
  where
    above : (n : ℕ) → (n ≡ 0 → ⊥) → 0 < n
    above zero h = absurd (h refl)
    above (suc n) h = omega arith

-- what goes on from a history of one worker alone, without an event of its own, is that history
pub one_workers_histories_are_whole : (g h : List Event) → StartsWith g h → of_worker 0 g ≡ of_worker 0 h → IsOneWorkers g → g ≡ h
one_workers_histories_are_whole g h begins same one =
    begins.1 ∙ no_rest h begins.0 (subst (λ l. of_worker 0 l ≡ of_worker 0 h) begins.1 same) (subst IsOneWorkers begins.1 one)
