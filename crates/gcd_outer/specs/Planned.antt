-- The calls of one kind on something in memory.
use Rattle.std.specs.Prelude.{ℕ, List}

-- how many calls were made, and which of them, counted from 0, are to fail
pub record Planned : Type 0 where
  pub made : ℕ
  pub failing : List ℕ
