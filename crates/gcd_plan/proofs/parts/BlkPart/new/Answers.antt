use Rattle.std.proofs.Common.{refl}
use Rattle.gcd_plan.proofs.parts.BlkPart.new.Goals as goal

pub returns : goal.returns
returns c = rw (c.in_ok-new.ensures, c.new-2.ensures.items) refl
