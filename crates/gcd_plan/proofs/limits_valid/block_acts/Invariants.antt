use Rattle.std.proofs.Common.{◌≡◌, ◌≤◌, length, take}
use Rattle.std.specs.List.{sum_by}
use Rattle.gcd_plan.proofs.limits_valid.block_acts.Given as goal

abbrev pub invariant-loop-b : goal.invariant-loop-b
invariant-loop-b l = record {
  total : l.total ≡ sum_by (λ b. length b.acts.items) (take l.b-index l.blocks);
  few : l.total ≤ l.most;
}
