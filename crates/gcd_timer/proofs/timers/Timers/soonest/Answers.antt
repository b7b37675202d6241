use Rattle.std.proofs.Common.{◌∙◌, length, is_some, ap, sym, arith}
use Rattle.gcd_sets.specs.Least.{least}
use Rattle.gcd_timer.specs.TimersView.{TimersView, is_due_at, next_due_at}
use Rattle.gcd_timer.proofs.Views.{least_of_all}
use Rattle.gcd_timer.proofs.Nexts.{due_soonest, long}
use Rattle.gcd_timer.proofs.timers.Timers.soonest.Goals as goal

pub returns-in_err-s-clause-some : goal.returns-in_err-s-clause-some
returns-in_err-s-clause-some c =
    ap is_some c.from_residual.ensures ∙ c.in_err-s.ensures.some ∙ ap (λ ns. is_some (least ns)) c.self.invariant
    ∙ ap is_some (least_of_all c.self.inside.clock) ∙ ap (λ (v : TimersView). is_some (next_due_at v)) c.self.view_is

pub returns-clause-some : goal.returns-clause-some
returns-clause-some c =
    c.in_ok-s.ensures.some ∙ ap (λ ns. is_some (least ns)) c.self.invariant
    ∙ ap is_some (least_of_all c.self.inside.clock) ∙ ap (λ (v : TimersView). is_some (next_due_at v)) c.self.view_is

pub returns-clause-within : goal.returns-clause-within
returns-clause-within c =
    let count = ap length c.self.invariant ∙ long c.self.inside.clock in
    let kinds = ap (λ (v : TimersView). length v.kinds) c.self.view_is in
    omega (arith, c.in_ok-s.ensures.within, count, kinds)

pub returns-clause-due : goal.returns-clause-due
returns-clause-due c = λ t next.
    ap (λ (v : TimersView). is_due_at v c.in_ok-s.s t) (sym c.self.view_is)
    ∙ due_soonest c.self.inside.clock c.self.inside.nexts c.in_ok-s.s t c.self.invariant c.in_ok-s.ensures.within c.in_ok-s.ensures.there
    (ap (λ (v : TimersView). next_due_at v) c.self.view_is ∙ next)
