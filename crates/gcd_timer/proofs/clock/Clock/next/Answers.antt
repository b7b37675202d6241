use Rattle.std.proofs.Common.{◌≤◌, subst}
use Rattle.gcd_plan.specs.Limits.{max_time}
use Rattle.gcd_timer.specs.TimersView.{TimersView}
use Rattle.gcd_timer.proofs.Nexts.{if_short}
use Rattle.gcd_timer.proofs.clock.Clock.next.Goals as goal

pub returns-clause-short : goal.returns-clause-short
returns-clause-short c =
    if_short c.next_due_of.result c.args.self.now c.args.s.0 c.next_due_of.ensures
    (subst (λ (v : TimersView). v.until ≤ max_time) c.self.view_is c.self.invariant.until_short)
