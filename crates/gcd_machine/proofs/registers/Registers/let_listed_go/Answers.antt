use Rattle.std.proofs.Common.{sym, subst, ◌∙◌}
use Rattle.gcd_machine.specs.Inside.{view_of}
use Rattle.gcd_machine.proofs.Steps.EndLoops.{Letting, let_turn, let_end}
use Rattle.gcd_machine.proofs.registers.Registers.let_listed_go.Goals as goal

pub loop-waiter-preserved : goal.loop-waiter-preserved
loop-waiter-preserved c =
    let letting = subst (λ m. Letting m c.args.self.now c.args.blk) (sym c.self.view_is) c.loop-waiter.invariant in
    let_turn c.in-Some.ensures.value c.in-Some.ensures.rest c.let_go.ensures letting

pub returns : goal.returns
returns c =
    let letting = subst (λ m. Letting m c.args.self.now c.args.blk) (sym c.self.view_is) c.loop-waiter.invariant in
    let_end {m = view_of c.self.inside} (sym c.in_default.is ∙ c.pop.ensures.value) c.pop.ensures.rest letting
