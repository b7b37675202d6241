-- Which bodies of a plan may get acts, and which acts.
use Rattle.std.specs.Prelude.{◌≡◌, ◌<◌, Bool, true, false, length}
use Rattle.gcd_plan.specs.Kinds.{is_source}
use Rattle.gcd_plan.specs.Made.{is_made}
use Rattle.gcd_plan.specs.PlanView.{PlanView}
use Rattle.gcd_plan.specs.Validity.{is_handler_act}
use Rattle.gcd_plan.specs.declared.act.Act.{Act}
use Rattle.gcd_plan.specs.declared.numbers.Run.{Run}
use Rattle.gcd_plan.specs.declared.numbers.Run.TheVariants.{Block, Source}

-- the plan has such a body: that of a block that is not of the intake or of a strip, or a source's
abbrev pub IsBody : PlanView → Run → Type 0
IsBody plan (Block b) = (b.0 < length plan.blocks) × (is_made plan b.0 ≡ false)
IsBody plan (Source s) = is_source plan s.0 ≡ true

-- the body may have the act
abbrev pub may_have : Run → Act → Bool
may_have (Block b) act = true
may_have (Source s) act = is_handler_act act
