use Rattle.std.proofs.Common.{is_some, ap, sym, ◌∙◌}
use Rattle.gcd_refinement.specs.MachineView.{MachineView, next_due_in}
use Rattle.gcd_machine.proofs.Views.Calls.{next_due_stands}
use Rattle.gcd_machine.proofs.Views.Dues.{dues_stand}
use Rattle.gcd_machine.proofs.machine.Machine.due_by.Goals as goal

pub returns-clause-some : goal.returns-clause-some
returns-clause-some c = λ plan h stands.
    c.due_by.ensures.some ∙ (ap (λ (m : MachineView). is_some (next_due_in m)) c.self.view_is ∙ ap is_some (next_due_stands c.args.self.now plan h stands))

pub returns-clause-due : goal.returns-clause-due
returns-clause-due c = λ plan h t stands next.
    dues_stand c.args.self.now c.self.inside.registers plan h t c.due_by.result c.self.view_is stands next c.due_by.ensures.due
