-- What a quick step does, for each history that the machine stands for.
use Rattle.std.proofs.Common.{◌≡◌, ℕ, Bool, true, false, not, ◌||◌, cond, List, [], ◌∷◌, ◌++◌, Option, Some, None, refl, ap, sym, ◌∙◌, subst}
use Rattle.std.specs.Bool.{IsTrue}
use Rattle.std.specs.Option.{IfSome, option_and_then, option_map_or}
use Rattle.std.proofs.lemmas.Option.{none-some}
use Rattle.gcd_plan.specs.PlanView.{PlanView}
use Rattle.gcd_event.specs.declared.event.Event.{Event}
use Rattle.gcd_history.specs.History.{why}
use Rattle.gcd_history.specs.Permitted.{is_worker}
use Rattle.gcd_refinement.specs.MachineView.{MachineView, at_worker}
use Rattle.gcd_machine.specs.Chosen.{choice_by, idle_choice_at, own_event_at}
use Rattle.gcd_machine.specs.Quick.{IsQuick, IsTaken, MayStep, is_quick, is_quick_at, quick_of}
use Rattle.gcd_machine.specs.Stands.{IsShaped, MayApply, StandsFor}
use Rattle.gcd_machine.proofs.Choice.Calls.{choice_stands, permitted_stands}
use Rattle.gcd_machine.proofs.Choice.Calm.{calm_stands, calm_told}
use Rattle.gcd_machine.proofs.Choice.Slow.{quick_same}
use Rattle.gcd_machine.proofs.Steps.Applied.{next_plan, next_shaped, next_stands}
use Rattle.gcd_machine.proofs.Views.Calls.{over_stands}

-- where something is chosen the run goes on
pub going_from : (m : MachineView) (w : ℕ) (e : Event) → choice_by m w 0 ≡ Some e → (m.misused || m.halted) ≡ false
going_from m w e =
    let chosen : Option Event = option_map_or (λ run. Some (own_event_at m w run)) (at_worker m w) (idle_choice_at m w 0) in
    elim (m.misused || m.halted) as (λ v. cond (v || not (is_worker w)) None chosen ≡ Some e → v ≡ false) [
      | true ↦ λ none. absurd (none-some e none)
      | false ↦ λ some. refl
    ]

-- what is chosen is permitted
pub chosen_permitted : (m : MachineView) (plan : PlanView) (h : List Event) (w : ℕ) (e : Event) → StandsFor m plan h → choice_by m w 0 ≡ Some e → why plan h e ≡ None
chosen_permitted m plan h w e stands chosen = subst (λ (o : Option Event). IfSome o (λ x. why plan h x ≡ None)) chosen (permitted_stands m plan h w 0 stands)

-- so it may be applied
pub chosen_applies : (m : MachineView) (w : ℕ) (e : Event) → MayStep m → choice_by m w 0 ≡ Some e → MayApply m e
chosen_applies m w e may chosen = record {
  plan = may.plan;
  history = may.history;
  stands = may.stands;
  permitted = chosen_permitted m may.plan may.history w e may.stands chosen;
  room = may.room;
}

pub quick_shaped : (m k : MachineView) (w : ℕ) (taken : Option Event) → IsShaped m → MayStep m → IsQuick (choice_by m w 0) m taken k → IsShaped k
quick_shaped m k w None shape may left = subst IsShaped (sym left.same) shape
quick_shaped m k w (Some e) shape may step = next_shaped m k e step.after (chosen_applies m w e may step.chosen_is)

pub quick_plan : (m k : MachineView) (w : ℕ) (taken : Option Event) → MayStep m → IsQuick (choice_by m w 0) m taken k → k.plan ≡ m.plan
quick_plan m k w None may left = ap (λ (x : MachineView). x.plan) left.same
quick_plan m k w (Some e) may step = next_plan m k e step.after (chosen_applies m w e may step.chosen_is)

pub quick_taken : (m k : MachineView) (w : ℕ) (taken : Option Event) → IsQuick (choice_by m w 0) m taken k → (plan : PlanView) (h : List Event) → StandsFor m plan h
    → IfSome taken (λ e. IsTaken plan h w e k)
quick_taken m k w None left plan h stands = tt
quick_taken m k w (Some e) step plan h stands =
    let after = next_stands m k e step.after plan h stands (chosen_permitted m plan h w e stands step.chosen_is) in
    record {
      chosen = sym (choice_stands m plan h w 0 stands) ∙ step.chosen_is;
      stands = after;
      calm = λ none calm.
          let going = sym (over_stands m plan h stands) ∙ going_from m w e step.chosen_is in
          calm_stands k plan (h ++ e ∷ []) after (subst (λ (b : Bool). IsTrue b) (sym (step.calm none)) (calm_told m plan h stands going calm));
    }

-- what is taken is what is chosen, if it is quick
pub quick_chosen : (m k : MachineView) (w : ℕ) (taken : Option Event) → IsQuick (choice_by m w 0) m taken k → (plan : PlanView) (h : List Event) → StandsFor m plan h
    → taken ≡ quick_of plan h w
quick_chosen m k w None left plan h stands =
    none_chosen (choice_by m w 0) left.slow ∙ ap (option_and_then (λ e. cond (is_quick plan h e) (Some e) None)) (choice_stands m plan h w 0 stands)
  where
    none_chosen : (o : Option Event) → ((e : Event) → o ≡ Some e → is_quick_at m e ≡ false) → None ≡ option_and_then (λ e. cond (is_quick plan h e) (Some e) None) o
    none_chosen None slow = refl
    none_chosen (Some e) slow = sym (ap (λ v. cond v (Some e) None) (sym (quick_same m plan h stands e) ∙ slow e refl))
quick_chosen m k w (Some e) step plan h stands =
    sym (ap (λ v. cond v (Some e) None) (sym (quick_same m plan h stands e) ∙ step.quick))
    ∙ ap (option_and_then (λ x. cond (is_quick plan h x) (Some x) None)) (sym step.chosen_is ∙ choice_stands m plan h w 0 stands)
