-- What a run by a team promises, of what worker 0 has seen at its end.
use Rattle.std.proofs.Common.{◌≡◌, ℕ, zero, suc, true, false, List, [], ◌∷◌, drop, refl, ap, subst, arith, eq-eqb}
use Rattle.std.specs.List.{list_all}
use Rattle.std.proofs.lemmas.Bool.{and_from}
use Rattle.gcd_plan.specs.PlanView.{PlanView}
use Rattle.gcd_event.specs.declared.event.Event.{Event}
use Rattle.gcd_history.specs.Choice.{worker_of}
use Rattle.gcd_machine.proofs.Views.Calls.{plan_stands}
use Rattle.gcd_machine.specs.Stands.{StandsFor}
use Rattle.gcd_history.specs.Held.{is_of}
use Rattle.gcd_outer.specs.Outside.{ClockState, Seen}
use Rattle.gcd_outer.specs.Tells.{PollerState}
use Rattle.gcd_loop.proofs.Follows.{follows_none, follows_on}
use Rattle.gcd_loop.proofs.Steps.{runs_plan}
use Rattle.gcd_loop.specs.Followed.{IsOfWorkers}
use Rattle.gcd_loop.specs.Going.{IsRunOn}
use Rattle.gcd_loop.specs.Ran.{RunsPlan}
use Rattle.gcd_loop.specs.Recorded.{IsSight}
use Rattle.gcd_row.specs.Passes.{IsPassOf, terms_of, view, machine_of}
use Rattle.gcd_row.specs.Shapes.{Shape}
use Rattle.gcd_row.specs.declared.board.RowBoard.{RowBoard}
use Rattle.gcd_row.specs.declared.pass.RowPass.{RowPass}
use Rattle.gcd_row.specs.declared.view.Terms.{Terms}
use Rattle.gcd_pool.specs.Leads.{Follows}
use Rattle.gcd_workers.specs.Teams.{HasLed}
use Rattle.gcd_workers.proofs.Wholes.{few_pass}

-- each event of the first of the workers, from a place on, is of number 0
pub all_of_first : (n : ℕ) (h : List Event) → IsOfWorkers 1 h → list_all (is_of 0) (drop n h) ≡ true
all_of_first zero [] by = refl
all_of_first (suc n) [] by = refl
all_of_first zero (e ∷ h) by =
    let low = by zero e refl in
    let zero_is : worker_of e ≡ 0 = omega (arith, low) in
    and_from (is_of 0 e) (list_all (is_of 0) h) (eq-eqb (worker_of e) 0 zero_is) (all_of_first zero h (λ i f at. by (suc i) f at))
all_of_first (suc n) (e ∷ h) by = all_of_first n h (λ i f at. by (suc i) f at)

module _ {S : Type 0} (shape : S → Shape) (gives : S → ℕ → Type 0) where
  -- a pass's machine stands for what the pass has seen
  pass_sight : (b : RowBoard S) (p : RowPass S) → IsPassOf shape gives b p → IsSight (terms_of b).limits.most (terms_of b).plan (view p).seen (machine_of p)
  pass_sight b p pass =
      let plan_is : (view p).terms.plan ≡ (terms_of b).plan = ap (λ (t : Terms S). t.plan) pass.terms in
      let stands : StandsFor (machine_of p) (terms_of b).plan (view p).seen = subst (λ (q : PlanView). StandsFor (machine_of p) q (view p).seen) plan_is pass.stands in
      record { own = plan_stands (machine_of p) (terms_of b).plan (view p).seen stands; stands = stands; few = few_pass shape gives b p pass }

  -- worker 0's pass, which knows all that came since the board was new, shows what the run promises
  pub team_ran : (b : RowBoard S) (n : ℕ) (calls : List Event → Type 0) (stood : List Event) (p : RowPass S) (poller : Seen PollerState) (clock : Seen ClockState)
      → IsPassOf shape gives b p → HasLed n (view p) → stood ≡ []
      → IsRunOn (terms_of b).limits.most (terms_of b).plan stood (view p).seen poller clock → (n ≡ 1 → Follows (terms_of b).plan stood (view p).seen)
      → calls (view p).seen → ((s : ℕ) → poller.before.watched s ≡ false)
      → RunsPlan (terms_of b).limits.most (terms_of b).plan n calls poller clock (view p).seen
  team_ran b n calls stood p poller clock pass led none on follows called unwatched =
      let most = (terms_of b).limits.most in let plan = (terms_of b).plan in
      let h = (view p).seen in
      runs_plan most plan n calls h (machine_of p) poller clock (pass_sight b p pass) led.by
      (λ (one : n ≡ 1).
      follows_on plan [] h (follows_none plan) (subst (λ (l : List Event). Follows plan l h) none (follows one) (all_of_first 0 h (subst (λ (m : ℕ). IsOfWorkers m h) one led.by))))
      called unwatched (subst (λ (l : List Event). IsRunOn most plan l h poller clock) none on)
