-- The bytes of a block's name.
use Rattle.std.specs.Prelude.{ℕ, List, string_bytes}
use Rattle.gcd_plan.specs.declared.name.Inside.{Inside}
use Rattle.gcd_plan.specs.declared.name.Inside.TheVariants.{Short, Long}

-- the bytes, wherever they are
abbrev pub name_bytes : Inside → List ℕ
name_bytes (Short text) = text.bytes
name_bytes (Long text) = string_bytes text
