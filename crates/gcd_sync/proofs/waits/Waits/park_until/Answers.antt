use Rattle.std.proofs.Common.{Some, set, refl, sym}
use Rattle.std.proofs.lemmas.Option.{none-some}
use Rattle.gcd_sync.proofs.Fitting.{changed_fit, within_view, fits_view}
use Rattle.gcd_sync.proofs.waits.Waits.park_until.Goals as goal

pub invariant_of-self : goal.invariant_of-self
invariant_of-self c =
    changed_fit c.self.inside.reasons.items c.self.inside.limits.items c.self.inside.expired c.self.inside.objects c.self.inside.strips c.args.blk.0 c.self.invariant
    (within_view c.self.view_is c.args.blk.0 c.requires.blk) (Some c.args.why) c.of.result (fits_view c.self.view_is c.args.why c.requires.why)
    (λ none. absurd (none-some c.args.why (sym none))) (set c.self.inside.limits.items c.args.blk.0 c.of.result) refl c.clear.new.self c.clear.ensures
