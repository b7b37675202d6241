-- Two values of a source in one, by its kind.
use Rattle.std.proofs.Common.{◌≡◌, ℕ, ◌+◌, ◌≤◌, false, arith}
use Rattle.std.specs.Int.Bits.{or_add_and, or_zero_r}
use Rattle.gcd_plan.specs.Kinds.{is_replace_kind}
use Rattle.gcd_plan.specs.KindValues.{folded}
use Rattle.gcd_plan.specs.declared.kind.Kind.{Kind}
use Rattle.gcd_plan.specs.declared.kind.Kind.TheVariants.{Or, Replace}

-- two values in one are at most their sum
pub folded_low : (kind : Kind) (a b : ℕ) → folded kind a b ≤ a + b
folded_low Or a b = let both = or_add_and a b in omega (arith, both)
folded_low kind a b = omega arith

-- 0 adds nothing, except to a replace source
pub folded-zero : (kind : Kind) (a : ℕ) → is_replace_kind kind ≡ false → folded kind a 0 ≡ a
folded-zero Or a keeps = or_zero_r a
folded-zero Replace a keeps = cc
folded-zero kind a keeps = omega arith
