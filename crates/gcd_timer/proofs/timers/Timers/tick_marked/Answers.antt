use Rattle.std.proofs.Common.{◌≤◌, ◌∙◌, length, ap, sym, subst, arith}
use Rattle.gcd_timer.specs.TimersView.{TimersView, marked_by}
use Rattle.gcd_timer.specs.Listed.{reached_marked}
use Rattle.gcd_timer.proofs.Nexts.{behind_after}
use Rattle.gcd_timer.proofs.Marks.{marked_is}
use Rattle.gcd_timer.proofs.timers.Timers.tick_marked.Goals as goal

pub move_on_marked-requires-clause-behind : goal.move_on_marked-requires-clause-behind
move_on_marked-requires-clause-behind c =
    behind_after c.self.inside.clock c.tick.new.self c.args.t c.self.inside.nexts c.self.invariant c.tick.ensures
    (subst (λ (v : TimersView). v.moment ≤ c.args.t) (sym c.self.view_is) c.requires.forward)
    (subst (λ (v : TimersView). c.args.t ≤ v.until) (sym c.self.view_is) c.requires.within)

pub returns-clause-marks : goal.returns-clause-marks
returns-clause-marks c =
    let kinds = ap (λ (v : TimersView). length v.kinds) c.self.view_is in
    c.move_on_marked.ensures.marks ∙ ap (λ (v : TimersView). reached_marked v.moment c.self.inside.nexts c.args.marks.now) c.tick.ensures
    ∙ marked_is c.self.inside.clock c.self.inside.nexts c.args.t c.args.marks.now c.self.invariant (omega (arith, c.requires.long, kinds))
    (subst (λ (v : TimersView). v.moment ≤ c.args.t) (sym c.self.view_is) c.requires.forward)
    (subst (λ (v : TimersView). c.args.t ≤ v.until) (sym c.self.view_is) c.requires.within)
    ∙ ap (λ (v : TimersView). marked_by v c.args.t c.args.marks.now) c.self.view_is
