-- How numbers are written.
use Rattle.std.specs.Prelude.{ℕ, ◌^◌}

-- all numbers with at most ten digits are below this one
abbrev pub number_end : ℕ
number_end = 10 ^ 10
