use Rattle.std.proofs.Common.{◌≡◌, true, is_some, sym, subst}
use Rattle.gcd_sync.specs.WaitsView.{limit_at}
use Rattle.gcd_sync.proofs.Fitting.{expired_fit}
use Rattle.gcd_sync.proofs.waits.Waits.expire.Goals as goal

pub invariant_of-self : goal.invariant_of-self
invariant_of-self c =
    expired_fit c.self.inside.reasons.items c.self.inside.limits.items c.self.inside.expired c.self.inside.objects c.self.inside.strips c.args.blk.0 c.self.invariant
    (subst (λ w. is_some (limit_at w c.args.blk.0) ≡ true) (sym c.self.view_is) c.requires.limit) c.set.new.self c.set.ensures
