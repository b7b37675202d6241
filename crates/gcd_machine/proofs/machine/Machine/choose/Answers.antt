use Rattle.std.proofs.Common.{◌≡◌, true, Option, None, ap, sym, ◌∙◌, subst}
use Rattle.std.specs.Option.{IfSome}
use Rattle.gcd_event.specs.declared.event.Event.{Event}
use Rattle.gcd_history.specs.Choice.{is_work, worker_of}
use Rattle.gcd_history.specs.History.{why}
use Rattle.gcd_refinement.specs.MachineView.{MachineView}
use Rattle.gcd_machine.specs.Chosen.{choice_by}
use Rattle.gcd_machine.proofs.Choice.Workers.{choice_own, choice_work}
use Rattle.gcd_machine.proofs.Choice.Calls.{choice_stands, permitted_stands}
use Rattle.gcd_machine.proofs.machine.Machine.choose.Goals as goal

pub returns-clause-choice : goal.returns-clause-choice
returns-clause-choice c = λ plan h stands.
    c.choice.ensures ∙ (ap (λ (m : MachineView). choice_by m c.args.worker c.args.from) c.self.view_is ∙ choice_stands c.args.self.now plan h c.args.worker c.args.from stands)

pub returns-clause-permitted : goal.returns-clause-permitted
returns-clause-permitted c = λ plan h stands.
    let is = c.choice.ensures ∙ ap (λ (m : MachineView). choice_by m c.args.worker c.args.from) c.self.view_is in
    subst (λ (o : Option Event). IfSome o (λ e. why plan h e ≡ None)) (sym is) (permitted_stands c.args.self.now plan h c.args.worker c.args.from stands)

pub returns-clause-own : goal.returns-clause-own
returns-clause-own c =
    let is = c.choice.ensures ∙ ap (λ (m : MachineView). choice_by m c.args.worker c.args.from) c.self.view_is in
    subst (λ (o : Option Event). IfSome o (λ e. worker_of e ≡ c.args.worker)) (sym is) (choice_own c.args.self.now c.args.worker c.args.from)

pub returns-clause-work : goal.returns-clause-work
returns-clause-work c =
    let is = c.choice.ensures ∙ ap (λ (m : MachineView). choice_by m c.args.worker c.args.from) c.self.view_is in
    subst (λ (o : Option Event). IfSome o (λ e. is_work e ≡ true)) (sym is) (choice_work c.args.self.now c.args.worker c.args.from)
