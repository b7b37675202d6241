-- The parts that a plan keeps, its own or shared.
use Rattle.std.specs.Arc.{arc_value}
use Rattle.gcd_plan.specs.declared.held.Held.{Held}
use Rattle.gcd_plan.specs.declared.held.Held.TheVariants.{Own, Shared}
use Rattle.gcd_plan.specs.declared.parts.Parts.{Parts}

-- the parts, whether they are one plan's own or shared with its copies
abbrev pub parts_of : Held → Parts
parts_of (Own parts) = parts
parts_of (Shared parts) = arc_value parts
