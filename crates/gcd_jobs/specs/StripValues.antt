-- What the blocks of a strip give, one after the other (dispatch_apply(3); this project's own rule of works).
use Rattle.std.specs.Prelude.{ℕ, List, map}
use Rattle.std.specs.List.{range_with_len}
use Rattle.gcd_plan.specs.PlanView.{PlanView}
use Rattle.gcd_plan.specs.Made.{strip_blocks}
use Rattle.gcd_history.specs.Values.{value_of}

-- the values of the blocks of strip a, in order of index
abbrev pub strip_values : PlanView → (files : List (List ℕ)) → ℕ → List ℕ
strip_values plan files a = map (λ b. value_of plan files b.0) (strip_blocks plan a)

-- the values of so many blocks from the first on
abbrev pub values_from : PlanView → (files : List (List ℕ)) → (first count : ℕ) → List ℕ
values_from plan files first count = map (value_of plan files) (range_with_len first count)
