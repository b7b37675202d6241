-- The range of each kind of number.
use Rattle.std.specs.Prelude.{ℕ, ◌-◌}
use Rattle.gcd_plan.specs.Limits.{max_value, max_time, max_file_bytes, max_intake, max_blocks}
use Rattle.gcd_script.specs.declared.amount.Amount.{Amount}
use Rattle.gcd_script.specs.declared.amount.Amount.TheVariants.{Byte, Extent, Time, Limit, Value, Intake, Part, Parts}

-- the smallest such number
abbrev pub least : Amount → ℕ
least Byte = 0
least Extent = 0
least Time = 1
least Limit = 0
least Value = 0
least Intake = 1
least Part = 1
least Parts = 0

-- the greatest such number
abbrev pub most : Amount → ℕ
most Byte = 255
most Extent = max_file_bytes
most Time = max_time
most Limit = max_time
most Value = max_value
most Intake = max_intake
most Part = max_file_bytes
most Parts = max_blocks - 1
