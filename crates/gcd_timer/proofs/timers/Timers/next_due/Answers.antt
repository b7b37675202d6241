use Rattle.std.proofs.Common.{◌∙◌, ap}
use Rattle.gcd_sets.specs.Least.{least}
use Rattle.gcd_timer.specs.TimersView.{next_due_at}
use Rattle.gcd_timer.proofs.Views.{least_of_all}
use Rattle.gcd_timer.proofs.timers.Timers.next_due.Goals as goal

pub returns : goal.returns
returns c = c.least.ensures ∙ ap least c.self.invariant ∙ least_of_all c.self.inside.clock ∙ ap next_due_at c.self.view_is
