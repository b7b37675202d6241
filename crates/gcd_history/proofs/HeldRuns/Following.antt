-- What a worker holds is the run that it has.
use Rattle.std.proofs.Common.{◌≡◌, ⊎_elim, ℕ, true, false, cond, ◌==◌, List, [], ◌∷◌, Some, None, is_some, refl, ap, sym, ◌∙◌, subst}
use Rattle.std.specs.Option.{option_or}
use Rattle.std.proofs.lemmas.Bool.{eqb-true, eq-eqb, both_ways, cases_Bool}
use Rattle.std.proofs.lemmas.Option.{none-some}
use Rattle.gcd_plan.specs.PlanView.{PlanView}
use Rattle.gcd_plan.specs.declared.numbers.Run.{Run}
use Rattle.gcd_event.specs.declared.event.Event.{Event}
use Rattle.gcd_history.specs.Runs.{is_open}
use Rattle.gcd_history.specs.Parked.{has_run}
use Rattle.gcd_history.specs.Permitted.{IsLawful}
use Rattle.gcd_history.specs.Choice.{worker_of}
use Rattle.gcd_history.proofs.Runs.Open.{same_run-refl}
use Rattle.gcd_history.proofs.Blocks.StartedOnce.{open_from_has_run}
use Rattle.gcd_history.proofs.Runs.OneRun.{one_run, idle_has_none}
use Rattle.gcd_history.specs.Held.{is_of, taken, given, held_after, held}
use Rattle.gcd_history.proofs.HeldRuns.Taking.{takes, gives, is_it, it_is, stays, one_worker}

-- a run that stays with its worker
kept_held : (plan : PlanView) (e : Event) (past : List Event) (w : ℕ) (r : Run) → IsLawful plan (e ∷ past) → has_run plan past w r ≡ true → is_it (taken e) r ≡ false → is_it (given plan e) r ≡ false → held plan past w ≡ Some r → held plan (e ∷ past) w ≡ Some r
kept_held plan e past w r h own untaken ungiven before =
    elim (is_of w e) as (λ v. is_of w e ≡ v → cond v (held_after plan e (held plan past w)) (held plan past w) ≡ Some r) [
      | true ↦ λ mine.
          let it : worker_of e ≡ w = eqb-true (worker_of e) w mine in
          elim (taken e) as (λ o. taken e ≡ o → option_or o (cond (is_some (given plan e)) None (held plan past w)) ≡ Some r) [
            | Some q ↦ λ took. absurd (idle_has_none plan past (worker_of e) r (takes plan e past q h took).idle (subst (λ v. has_run plan past v r ≡ true) (sym it) own))
            | None ↦ λ none. elim (given plan e) as (λ o. given plan e ≡ o → cond (is_some o) None (held plan past w) ≡ Some r) [
              | Some q ↦ λ gave.
                  let q_own : has_run plan past w q ≡ true = subst (λ v. has_run plan past v q ≡ true) it (gives plan e past q h gave).own in
                  let one : q ≡ r = one_run plan past h.0 w q r q_own own in
                  absurd (both_ways (is_it (given plan e) r) ungiven (ap (λ o. is_it o r) gave ∙ subst (λ k. is_it (Some q) k ≡ true) one (same_run-refl q)))
              | None ↦ λ kept. before
            ] refl
          ] refl
      | false ↦ λ other. before
    ] refl

-- who has a run holds it
pub held_where_has : (plan : PlanView) (past : List Event) (w : ℕ) (r : Run) → IsLawful plan past → has_run plan past w r ≡ true → held plan past w ≡ Some r
held_where_has plan [] w r h own = absurd (both_ways (is_open [] r) refl (open_from_has_run plan [] w r own))
held_where_has plan (e ∷ past) w r h own =
    ⊎_elim
    (λ now.
    let took = it_is (taken e) r now in
    let mine : (worker_of e == w) ≡ true = sym ((takes plan e past r h took).now w) ∙ own in
    ap (λ v. cond v (held_after plan e (held plan past w)) (held plan past w)) mine ∙ ap (λ o. option_or o (cond (is_some (given plan e)) None (held plan past w))) took)
    (λ untaken. ⊎_elim
    (λ gave. absurd ((gives plan e past r h (it_is (given plan e) r gave)).nobodys w own))
    (λ ungiven.
    let before : has_run plan past w r ≡ true = sym (stays plan e past w r h untaken ungiven) ∙ own in
    kept_held plan e past w r h before untaken ungiven (held_where_has plan past w r h.0 before))
    (cases_Bool (is_it (given plan e) r)))
    (cases_Bool (is_it (taken e) r))

-- a run that another event leaves with its worker
left_with : (plan : PlanView) (e : Event) (past : List Event) (w : ℕ) (r : Run) → IsLawful plan (e ∷ past) → has_run plan past w r ≡ true → (given plan e ≡ Some r → worker_of e ≡ w → ⊥) → has_run plan (e ∷ past) w r ≡ true
left_with plan e past w r h own not_mine =
    ⊎_elim
    (λ took. absurd ((takes plan e past r h (it_is (taken e) r took)).nobodys w own))
    (λ untaken. ⊎_elim
    (λ gave.
    let gone = it_is (given plan e) r gave in
    absurd (not_mine gone (one_worker plan past (worker_of e) w r (gives plan e past r h gone).own own)))
    (λ ungiven. stays plan e past w r h untaken ungiven ∙ own)
    (cases_Bool (is_it (given plan e) r)))
    (cases_Bool (is_it (taken e) r))

-- who holds a run has it
pub has_where_held : (plan : PlanView) (past : List Event) (w : ℕ) (r : Run) → IsLawful plan past → held plan past w ≡ Some r → has_run plan past w r ≡ true
has_where_held plan [] w r h it = absurd (none-some r it)
has_where_held plan (e ∷ past) w r h it =
    elim (is_of w e) as (λ v. is_of w e ≡ v → cond v (held_after plan e (held plan past w)) (held plan past w) ≡ Some r → has_run plan (e ∷ past) w r ≡ true) [
      | true ↦ λ mine. elim (taken e) as (λ o. taken e ≡ o → option_or o (cond (is_some (given plan e)) None (held plan past w)) ≡ Some r → has_run plan (e ∷ past) w r ≡ true) [
        | Some q ↦ λ took is. (takes plan e past r h (took ∙ is)).now w ∙ mine
        | None ↦ λ none. elim (given plan e) as (λ o. given plan e ≡ o → cond (is_some o) None (held plan past w) ≡ Some r → has_run plan (e ∷ past) w r ≡ true) [
          | Some q ↦ λ gave is. absurd (none-some r is)
          | None ↦ λ kept is. left_with plan e past w r h (has_where_held plan past w r h.0 is) (λ gone by. none-some r (sym kept ∙ gone))
        ] refl
      ] refl
      | false ↦ λ other is. left_with plan e past w r h (has_where_held plan past w r h.0 is) (λ gone by. both_ways (worker_of e == w) other (eq-eqb (worker_of e) w by))
    ] refl it
