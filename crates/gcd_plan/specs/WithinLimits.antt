-- That the parts of a plan are few enough.
use Rattle.std.specs.Prelude.{◌≤◌, length}
use Rattle.gcd_plan.specs.Limits.{max_objects, max_blocks, max_files, max_strips, max_acts}
use Rattle.gcd_plan.specs.PlanView.{view_of}
use Rattle.gcd_plan.specs.Validity.{act_count}
use Rattle.gcd_plan.specs.declared.parts.Parts.{Parts}

-- the parts have no more objects, blocks, files and acts than a plan may have
pub record IsWithinLimits (parts : Parts) : Type 0 where
  pub objects : length parts.objects.items ≤ max_objects
  pub blocks : length parts.blocks.items ≤ max_blocks
  pub files : length parts.files.items ≤ max_files
  pub strips : length parts.strips.items ≤ max_strips
  pub acts : act_count (view_of parts) ≤ max_acts
