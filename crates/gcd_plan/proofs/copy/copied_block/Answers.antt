use Rattle.std.proofs.Common.{refl}
use Rattle.gcd_plan.proofs.copy.copied_block.Goals as goal

pub returns : goal.returns
returns c = rw (c.in_ok-new.ensures, c.as_str.ensures, c.in_ok-from_slice.ensures.items, c.deref.ensures.value) refl
