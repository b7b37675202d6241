use Rattle.std.proofs.Common.{refl, ap, ◌∙◌}
use Rattle.gcd_machine.specs.Inside.{view_of}
use Rattle.gcd_machine.specs.Steps.{taken_off}
use Rattle.gcd_machine.proofs.Steps.Opening.{off_is}
use Rattle.gcd_machine.proofs.registers.Registers.take_off.Goals as goal

pub returns : goal.returns
returns c =
    off_is (view_of c.self.inside) c.args.node c.pop.ensures.rest refl c.is_left_busy-stays.ensures c.put.ensures
    ∙ ap (λ m. taken_off m c.args.node) c.self.view_is
