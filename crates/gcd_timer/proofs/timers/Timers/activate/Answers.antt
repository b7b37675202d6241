use Rattle.std.proofs.Common.{◌∙◌, length, ap, arith}
use Rattle.gcd_timer.specs.TimersView.{TimersView}
use Rattle.gcd_timer.proofs.Nexts.{long, activated_alone, nexts_changed}
use Rattle.gcd_timer.proofs.timers.Timers.activate.Goals as goal

pub set_next-requires-clause-within : goal.set_next-requires-clause-within
set_next-requires-clause-within c =
    let count = ap length c.self.invariant ∙ long c.self.inside.clock in
    let kinds = ap (λ (v : TimersView). length v.kinds) c.self.view_is in
    omega (arith, c.requires, count, kinds)

pub invariant_of-self : goal.invariant_of-self
invariant_of-self c =
    let kinds = ap (λ (v : TimersView). length v.kinds) c.self.view_is in
    c.set_next.ensures
    ∙ nexts_changed c.self.inside.clock c.activate.new.self c.self.inside.nexts c.args.s.0 c.next-next.result c.self.invariant (omega (arith, c.requires, kinds))
    (activated_alone c.self.inside.clock c.activate.new.self c.args.s.0 c.activate.ensures.first c.activate.ensures.again) c.next-next.ensures.value
