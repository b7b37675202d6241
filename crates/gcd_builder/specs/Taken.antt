-- What the acts of a plan have taken: blocks that are submitted, and strips that are applied. Each is taken once.
use Rattle.std.specs.Prelude.{ℕ, ◌==◌, not, ◌&&◌, Bool, true, List, option_to_list}
use Rattle.std.specs.List.{list_any, flat_map}
use Rattle.std.specs.Option.{option_map_or}
use Rattle.gcd_plan.specs.PlanView.{PlanView}
use Rattle.gcd_plan.specs.Validity.{submitted_blocks, block_of, strip_of}
use Rattle.gcd_plan.specs.declared.act.Act.{Act}
use Rattle.gcd_plan.specs.declared.numbers.Blk.{Blk}

-- nothing submits the block
abbrev pub is_free : PlanView → Blk → Bool
is_free plan b = not (list_any (λ c. c.0 == b.0) (submitted_blocks plan))

-- the strips that the acts apply, and those that the acts of a plan's blocks apply (dispatch_apply(3))
abbrev pub strips_of : List Act → List ℕ
strips_of acts = flat_map (λ act. option_to_list (strip_of act)) acts

abbrev pub applied_strips : PlanView → List ℕ
applied_strips plan = flat_map (λ b. strips_of b.acts) plan.blocks

-- nothing applies the strip
abbrev pub is_unapplied : PlanView → ℕ → Bool
is_unapplied plan a = not (list_any (λ c. c == a) (applied_strips plan))

-- what the act takes is not taken: the block that it submits, or the strip
abbrev pub is_untaken_by : PlanView → Act → Bool
is_untaken_by plan act =
    option_map_or (is_free plan) (block_of act) true && option_map_or (is_unapplied plan) (strip_of act) true
