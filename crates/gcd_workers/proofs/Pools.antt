-- What workers share of a board and a rack of one plan.
use Rattle.std.proofs.Common.{◌≡◌, ◌≤◌, ◌∙◌, length, ap, sym, subst}
use Rattle.gcd_plan.specs.PlanView.{PlanView}
use Rattle.gcd_row.specs.Passes.{terms_of}
use Rattle.gcd_row.specs.declared.board.RowBoard.{RowBoard}
use Rattle.gcd_steal.specs.Racks.{plan_of}
use Rattle.gcd_steal.specs.declared.bench.Rack.{Rack}
use Rattle.gcd_pool.specs.Hands.{IsPool}
use Rattle.gcd_pool.specs.declared.hand.Pool.{Pool}

-- one board is of one plan
pub plan_along : {S : Type 0} {a b : RowBoard S} → a ≡ b → (terms_of a).plan ≡ (terms_of b).plan
plan_along {S} is = ap (λ (b : RowBoard S). (terms_of b).plan) is

-- and has one limit of workers and of events
pub limits_along : {S : Type 0} {a b : RowBoard S} → a ≡ b → (terms_of a).limits ≡ (terms_of b).limits
limits_along {S} is = ap (λ (b : RowBoard S). (terms_of b).limits) is

-- what workers share of a board and a rack of one plan
pub pool_of : {S : Type 0} (pool : Pool S) (board : RowBoard S) (rack : Rack) (plan : PlanView) → pool.board.now ≡ board → pool.rack.now ≡ rack
    → pool.plan.now ≡ plan → (terms_of board).plan ≡ plan → plan_of rack ≡ plan
    → length (terms_of board).plan.blocks ≤ length (terms_of board).cells → IsPool pool
pool_of {S} pool board rack plan board_is rack_is plan_is own of_rack cells =
    let same : (terms_of pool.board.now).plan ≡ plan = plan_along board_is ∙ own in
    record {
      rack = ap plan_of rack_is ∙ of_rack ∙ sym same;
      plan = plan_is ∙ sym same;
      cells = subst (λ (b : RowBoard S). length (terms_of b).plan.blocks ≤ length (terms_of b).cells) (sym board_is) cells;
    }
