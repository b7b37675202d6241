use Rattle.std.proofs.Common.{None, refl}
use Rattle.gcd_sync.proofs.Fitting.{changed_fit, within_view}
use Rattle.gcd_sync.proofs.waits.Waits.woken.Goals as goal

pub invariant_of-self : goal.invariant_of-self
invariant_of-self c =
    changed_fit c.self.inside.reasons.items c.self.inside.limits.items c.self.inside.expired c.self.inside.objects c.self.inside.strips c.args.blk.0 c.self.invariant
    (within_view c.self.view_is c.args.blk.0 c.requires) None None tt (λ none. refl) c.keep.new.limits.items c.keep.ensures c.clear.new.self c.clear.ensures
