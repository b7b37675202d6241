use Rattle.std.proofs.Common.{refl}
use Rattle.gcd_plan.proofs.copy.copied_parts.Goals as goal

pub returns : goal.returns
returns c = rw (c.in_ok-copied_objects.ensures, c.in_ok-copied_blocks.ensures, c.in_ok-copied_files.ensures, c.in_ok-copied_strips.ensures, c.deref.ensures.value, c.deref-2.ensures.value, c.deref-3.ensures.value, c.deref-4.ensures.value) refl
