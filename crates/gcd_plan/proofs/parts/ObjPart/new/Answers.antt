use Rattle.std.proofs.Common.{refl}
use Rattle.gcd_plan.proofs.parts.ObjPart.new.Goals as goal

pub returns : goal.returns
returns c = rw (c.in_ok-from_str.ensures.ok, c.is_source.ensures, c.new.ensures.bytes, c.new-2.ensures.items) refl
