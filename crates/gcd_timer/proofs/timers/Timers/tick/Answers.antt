use Rattle.std.proofs.Common.{◌≤◌, sym, subst}
use Rattle.gcd_timer.specs.TimersView.{TimersView}
use Rattle.gcd_timer.proofs.Nexts.{behind_after}
use Rattle.gcd_timer.proofs.timers.Timers.tick.Goals as goal

pub move_on-requires : goal.move_on-requires
move_on-requires c =
    behind_after c.self.inside.clock c.tick.new.self c.args.t c.self.inside.nexts c.self.invariant c.tick.ensures
    (subst (λ (v : TimersView). v.moment ≤ c.args.t) (sym c.self.view_is) c.requires.forward)
    (subst (λ (v : TimersView). c.args.t ≤ v.until) (sym c.self.view_is) c.requires.within)
