use Rattle.std.proofs.Common.{length, ap, sym, subst, ◌∙◌, arith}
use Rattle.gcd_lists.specs.ListsView.{list_at}
use Rattle.gcd_refinement.specs.MachineView.{MachineView}
use Rattle.gcd_machine.specs.Inside.{view_of}
use Rattle.gcd_machine.proofs.Steps.EndLoops.{Telling, tell_turn, tell_may_submit, tell_fewer, tell_end, tell_leaves}
use Rattle.gcd_machine.proofs.registers.Registers.tell.Goals as goal

pub submit-requires : goal.submit-requires
submit-requires c =
    let telling = subst (λ m. Telling m c.args.self.now c.args.blk) (sym c.self.view_is) c.loop-next.invariant in
    rw c.home-home.ensures (tell_may_submit {m = view_of c.self.inside} c.in-Some.ensures.value c.in-Some.ensures.within c.index.ensures telling)

pub loop-next-preserved : goal.loop-next-preserved
loop-next-preserved c =
    let telling = subst (λ m. Telling m c.args.self.now c.args.blk) (sym c.self.view_is) c.loop-next.invariant in
    let now = c.in-Some.ensures in
    tell_turn {m = view_of c.self.inside} now.value now.rest now.gone now.within c.index.ensures (rw c.home-home.ensures at c.submit.ensures) telling

pub returns-clause-told : goal.returns-clause-told
returns-clause-told c =
    let telling = subst (λ m. Telling m c.args.self.now c.args.blk) (sym c.self.view_is) c.loop-next.invariant in
    tell_end {m = view_of c.self.inside} (c.fired.ensures.none c.in_default.is) (sym c.in_default.is ∙ c.fired.ensures.value) telling

pub returns-clause-leaves : goal.returns-clause-leaves
returns-clause-leaves c =
    let telling = subst (λ m. Telling m c.args.self.now c.args.blk) (sym c.self.view_is) c.loop-next.invariant in
    tell_leaves {m = view_of c.self.inside} (c.fired.ensures.none c.in_default.is) telling

pub loop-next-smaller : goal.loop-next-smaller
loop-next-smaller c =
    let now = c.in-Some.ensures in
    let less = tell_fewer (view_of c.self.inside) _ c.args.blk _ _ now.value now.rest c.submit.ensures in
    let same = ap (λ (m : MachineView). length (list_at m.marks.notify c.args.blk.0)) c.self.view_is in
    omega (arith, less, same)
