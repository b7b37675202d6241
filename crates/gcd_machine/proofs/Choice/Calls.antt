-- What a machine chooses, and how far it says that the run has come, for each history that it stands for.
use Rattle.std.proofs.Common.{◌≡◌, ℕ, ◌==◌, true, false, ◌||◌, ◌↔◌, cond, List, reverse, Option, Some, None, refl, ap, sym, ◌∙◌}
use Rattle.std.specs.Bool.{IsTrue}
use Rattle.std.specs.Option.{IfSome}
use Rattle.std.proofs.lemmas.Bool.{both_ways}
use Rattle.gcd_plan.specs.PlanView.{PlanView}
use Rattle.gcd_event.specs.declared.event.Event.{Event}
use Rattle.gcd_history.specs.declared.state.State.TheVariants.{Drained, Stuck, Misused, Halted, Live}
use Rattle.gcd_history.specs.History.{why, choice_of, expiry_of}
use Rattle.gcd_history.specs.Ends.{ends_in_misuse, ends_in_halt, IsQuiescent, all_ended, HasState}
use Rattle.gcd_history.proofs.Permitted.Choices.{chosen_is}
use Rattle.gcd_refinement.specs.MachineView.{MachineView}
use Rattle.gcd_machine.specs.Chosen.{choice_by, expiry_by, is_quiescent_at, state_by}
use Rattle.gcd_machine.specs.Stands.{StandsFor}
use Rattle.gcd_machine.proofs.Choice.Workers.{choice_is}
use Rattle.gcd_machine.proofs.Choice.Expiries.{expiry_is}
use Rattle.gcd_machine.proofs.Choice.Ending.{quiet_is, left_none_is}
use Rattle.gcd_machine.proofs.Views.Calls.{tied_by, over_stands}

-- ## What a worker records next

pub choice_stands : (m : MachineView) (plan : PlanView) (h : List Event) (w from : ℕ) → StandsFor m plan h → choice_by m w from ≡ choice_of plan h w from
unfolding choice_of
choice_stands m plan h w from stands = choice_is plan (reverse h) m w from (tied_by m plan h stands)

permitted_of : (plan : PlanView) (h : List Event) (w from : ℕ) (o : Option Event) → o ≡ choice_of plan h w from → IfSome o (λ e. why plan h e ≡ None)
unfolding choice_of why
permitted_of plan h w from None is = tt
permitted_of plan h w from (Some e) is = (chosen_is plan (reverse h) w from e (sym is)).permitted_now

pub permitted_stands : (m : MachineView) (plan : PlanView) (h : List Event) (w from : ℕ) → StandsFor m plan h → IfSome (choice_by m w from) (λ e. why plan h e ≡ None)
permitted_stands m plan h w from stands = permitted_of plan h w from (choice_by m w from) (choice_stands m plan h w from stands)

-- ## What worker 0 records where a wait may expire

pub expiry_stands : (m : MachineView) (plan : PlanView) (h : List Event) → StandsFor m plan h → expiry_by m ≡ expiry_of plan h
unfolding expiry_of
expiry_stands m plan h stands = expiry_is plan (reverse h) m (tied_by m plan h stands)

-- ## How far the run has come

pub quiet_stands : (m : MachineView) (plan : PlanView) (h : List Event) → StandsFor m plan h → IsTrue (is_quiescent_at m) ↔ IsQuiescent plan h
unfolding IsQuiescent
quiet_stands m plan h stands = quiet_is plan (reverse h) m (tied_by m plan h stands)

misuse_stands : (m : MachineView) (plan : PlanView) (h : List Event) → StandsFor m plan h → m.misused ≡ ends_in_misuse h
unfolding ends_in_misuse
misuse_stands m plan h stands = (tied_by m plan h stands).totals.misused

halt_stands : (m : MachineView) (plan : PlanView) (h : List Event) → StandsFor m plan h → m.halted ≡ ends_in_halt h
unfolding ends_in_halt
halt_stands m plan h stands = (tied_by m plan h stands).totals.halted

ended_stands : (m : MachineView) (plan : PlanView) (h : List Event) → StandsFor m plan h → (m.left == 0) ≡ all_ended plan h
unfolding all_ended
ended_stands m plan h stands = left_none_is plan (reverse h) m (tied_by m plan h stands)

-- where nothing can come any more
quiet_state : (m : MachineView) (plan : PlanView) (h : List Event) → StandsFor m plan h → is_quiescent_at m ≡ true → HasState plan h (cond (m.left == 0) Drained Stuck)
quiet_state m plan h stands quiet =
    let quiescent = (quiet_stands m plan h stands).0 quiet in
    elim (m.left == 0) as (λ v. (m.left == 0) ≡ v → HasState plan h (cond v Drained Stuck)) [
      | true ↦ λ none. record { quiescent = quiescent; ended = sym (ended_stands m plan h stands) ∙ none }
      | false ↦ λ some. record { quiescent = quiescent; left = sym (ended_stands m plan h stands) ∙ some }
    ] refl

-- where the run is not over
going_state : (m : MachineView) (plan : PlanView) (h : List Event) → StandsFor m plan h → (m.misused || m.halted) ≡ false
    → HasState plan h (cond (is_quiescent_at m) (cond (m.left == 0) Drained Stuck) Live)
going_state m plan h stands going =
    elim (is_quiescent_at m) as (λ v. is_quiescent_at m ≡ v → HasState plan h (cond v (cond (m.left == 0) Drained Stuck) Live)) [
      | true ↦ λ quiet. quiet_state m plan h stands quiet
      | false ↦ λ loud. record {
        unhalted = sym (over_stands m plan h stands) ∙ going;
        unquiet = λ quiet. both_ways (is_quiescent_at m) loud ((quiet_stands m plan h stands).1 quiet);
      }
    ] refl

pub state_stands : (m : MachineView) (plan : PlanView) (h : List Event) → StandsFor m plan h → HasState plan h (state_by m)
state_stands m plan h stands =
    let going = cond (is_quiescent_at m) (cond (m.left == 0) Drained Stuck) Live in
    elim m.misused as (λ v. m.misused ≡ v → HasState plan h (cond v Misused (cond m.halted Halted going))) [
      | true ↦ λ misused. sym (misuse_stands m plan h stands) ∙ misused
      | false ↦ λ proper. elim m.halted as (λ v. m.halted ≡ v → HasState plan h (cond v Halted going)) [
        | true ↦ λ halted. sym (halt_stands m plan h stands) ∙ halted
        | false ↦ λ unhalted. going_state m plan h stands (ap (λ v. v || m.halted) proper ∙ unhalted)
      ] refl
    ] refl
