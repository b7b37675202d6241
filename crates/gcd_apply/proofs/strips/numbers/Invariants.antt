use Rattle.std.proofs.Common.{◌≡◌, ◌<◌, ◌-◌, ℕ, length, map, drop, get_or, None}
use Rattle.std.specs.List.{position_from}
use Rattle.gcd_plan.specs.Made.{is_within, strip_span}
use Rattle.gcd_plan.specs.PlanView.{strip_view}
use Rattle.gcd_apply.proofs.strips.numbers.Given as goal

abbrev pub invariant-loop-k : goal.invariant-loop-k
invariant-loop-k l = record {
  long : length l.numbers.items ≡ length l.plan.blocks;
  told : (b : ℕ) → b < length l.numbers.items
      → get_or l.numbers.items b None ≡ position_from (is_within b) (l.count - l.k) (drop (l.count - l.k) (map strip_span (map strip_view l.strips)));
}
