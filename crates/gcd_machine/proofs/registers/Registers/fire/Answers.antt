use Rattle.std.proofs.Common.{◌≡◌, rules, sym, subst}
use Rattle.gcd_group.specs.GroupsView.{due_at}
use Rattle.gcd_machine.specs.Inside.{view_of}
use Rattle.gcd_machine.proofs.Steps.GroupLoops.{Firing, fire_turn, fire_may_submit, fire_end}
use Rattle.gcd_machine.proofs.registers.Registers.fire.Goals as goal

pub submit-requires : goal.submit-requires
submit-requires c =
    let firing = subst (λ m. Firing m c.args.self.now c.args.g) (sym c.self.view_is) c.loop-blk.invariant in
    rw c.home-home.ensures (fire_may_submit {m = view_of c.self.inside} c.in-Some.ensures.value c.in-Some.ensures.within c.index.ensures firing)

pub loop-blk-preserved : goal.loop-blk-preserved
loop-blk-preserved c =
    let firing = subst (λ m. Firing m c.args.self.now c.args.g) (sym c.self.view_is) c.loop-blk.invariant in
    let now = c.in-Some.ensures in
    fire_turn {m = view_of c.self.inside} now.value now.rest now.gone now.within c.index.ensures (rw c.home-home.ensures at c.submit.ensures) firing

pub returns : goal.returns
returns c =
    let firing = subst (λ m. Firing m c.args.self.now c.args.g) (sym c.self.view_is) c.loop-blk.invariant in
    let none : due_at c.self.inside.groups c.args.g.0 ≡ 0 = search (rules, c.in_default.ensures.due) in
    fire_end {m = view_of c.self.inside} (c.fired.ensures.none c.in_default.is) none firing
