-- After an event that is permitted the machine stands for the history with it, and has its shape; so has a new machine.
use Rattle.std.proofs.Common.{◌≡◌, List, [], ◌∷◌, ◌++◌, reverse, None, ap, sym, ◌∙◌, subst}
use Rattle.gcd_plan.specs.PlanView.{PlanView}
use Rattle.gcd_plan.specs.Validity.{IsPlan}
use Rattle.gcd_event.specs.declared.event.Event.{Event}
use Rattle.gcd_history.specs.Permitted.{why}
use Rattle.gcd_history.specs.History.{why as why_after}
use Rattle.gcd_history.proofs.Lists.{reverse_push}
use Rattle.gcd_refinement.specs.MachineView.{MachineView, machine_of}
use Rattle.gcd_refinement.specs.Shape.{PartsFit, OwnFit}
use Rattle.gcd_refinement.specs.Stands.{IsTied}
use Rattle.gcd_refinement.proofs.Tied.{tied_begin, tied_step}
use Rattle.gcd_machine.specs.Stands.{IsShaped, StandsFor, MayApply}
use Rattle.gcd_machine.specs.Steps.{stepped}
use Rattle.gcd_machine.proofs.Steps.All.{stepped_is}

-- ## The newest event first

-- a machine that is tied to a history has its shape
pub shaped : (plan : PlanView) (past : List Event) (m : MachineView) → IsTied plan past m → IsShaped m
shaped plan past m t =
    let same = sym t.same_plan in
    record {
      valid = subst IsPlan same t.valid;
      parts = subst (λ p. PartsFit p m) same t.parts;
      own = subst (λ p. OwnFit p m) same t.own;
    }

-- the steps of a permitted event keep the tie
pub stepped_tied : (plan : PlanView) (past : List Event) (m : MachineView) (e : Event) → IsTied plan past m → why plan past e ≡ None → IsTied plan (e ∷ past) (stepped m e)
stepped_tied plan past m e t may = subst (IsTied plan (e ∷ past)) (sym (stepped_is plan past m e t may)) (tied_step plan past e m (t.lawful, may) t)

-- ## The oldest event first

-- the machine stands for the history, followed by the event
pub applied : (m : MachineView) (e : Event) (plan : PlanView) (h : List Event) → StandsFor m plan h → why_after plan h e ≡ None → StandsFor (stepped m e) plan (h ++ e ∷ [])
unfolding StandsFor why_after
applied m e plan h stands may = subst (λ past. IsTied plan past (stepped m e)) (sym (reverse_push h e)) (stepped_tied plan (reverse h) m e stands may)

pub applied_shaped : (m : MachineView) (e : Event) → MayApply m e → IsShaped (stepped m e)
unfolding StandsFor why_after
applied_shaped m e may = shaped may.plan (e ∷ reverse may.history) (stepped m e) (stepped_tied may.plan (reverse may.history) m e may.stands may.permitted)

pub applied_plan : (m : MachineView) (e : Event) → MayApply m e → (stepped m e).plan ≡ m.plan
unfolding StandsFor why_after
applied_plan m e may = ap (λ (n : MachineView). n.plan) (stepped_is may.plan (reverse may.history) m e may.stands may.permitted)

-- ## A state that is what the steps made

pub next_stands : (m n : MachineView) (e : Event) → n ≡ stepped m e → (plan : PlanView) (h : List Event) → StandsFor m plan h → why_after plan h e ≡ None → StandsFor n plan (h ++ e ∷ [])
next_stands m n e made plan h stands may = subst (λ k. StandsFor k plan (h ++ e ∷ [])) (sym made) (applied m e plan h stands may)

pub next_shaped : (m n : MachineView) (e : Event) → n ≡ stepped m e → MayApply m e → IsShaped n
next_shaped m n e made may = subst IsShaped (sym made) (applied_shaped m e may)

pub next_plan : (m n : MachineView) (e : Event) → n ≡ stepped m e → MayApply m e → n.plan ≡ m.plan
next_plan m n e made may = ap (λ (k : MachineView). k.plan) made ∙ applied_plan m e may

-- ## A new machine

pub new_stands : (m : MachineView) (plan : PlanView) → m ≡ machine_of plan → IsPlan plan → StandsFor m plan []
unfolding StandsFor
new_stands m plan made valid = subst (IsTied plan []) (sym made) (tied_begin plan valid)

pub new_shaped : (m : MachineView) (plan : PlanView) → m ≡ machine_of plan → IsPlan plan → IsShaped m
new_shaped m plan made valid = shaped plan [] m (subst (IsTied plan []) (sym made) (tied_begin plan valid))
