use Rattle.std.proofs.Common.{sym, subst, ◌∙◌}
use Rattle.gcd_machine.specs.Inside.{view_of}
use Rattle.gcd_machine.proofs.Steps.GroupLoops.{Waking, wake_turn, wake_over}
use Rattle.gcd_machine.proofs.registers.Registers.let_all_go.Goals as goal

pub loop-blk-preserved : goal.loop-blk-preserved
loop-blk-preserved c =
    let waking = subst (λ m. Waking m c.args.self.now c.args.o) (sym c.self.view_is) c.loop-blk.invariant in
    wake_turn c.in-Some.ensures.value c.in-Some.ensures.rest c.let_go.ensures waking

pub returns : goal.returns
returns c =
    let waking = subst (λ m. Waking m c.args.self.now c.args.o) (sym c.self.view_is) c.loop-blk.invariant in
    wake_over {m = view_of c.self.inside} (sym c.in_default.is ∙ c.pop.ensures.value) c.pop.ensures.rest waking
