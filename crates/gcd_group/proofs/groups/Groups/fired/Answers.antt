use Rattle.std.proofs.Common.{arith}
use Rattle.std.proofs.lemmas.Grind.{common_steps}
use Rattle.gcd_group.specs.Inside.{view_of}
use Rattle.gcd_group.proofs.Agreement.{fired}
use Rattle.gcd_group.proofs.groups.Groups.fired.Goals as goal

pub invariant_of-self-2 : goal.invariant_of-self-2
invariant_of-self-2 c =
    rw c.pop.ensures.rest
    (fired (view_of c.self.inside) c.self.inside.registered.items c.args.g.0 _ _ c.self.invariant
    (grind (arith, common_steps)) (grind (arith, common_steps)) (grind (arith, common_steps)) (grind (arith, common_steps)))
