use Rattle.std.proofs.Common.{◌≡◌, ◌≤◌, ◌==◌, length, take}
use Rattle.std.specs.List.{count_by, sum_by}
use Rattle.gcd_plan.specs.PlanView.{view_of}
use Rattle.gcd_plan.specs.Validity.{blocks_of}
use Rattle.gcd_plan.proofs.once_valid.block_submissions.Given as goal

abbrev pub invariant-loop-p : goal.invariant-loop-p
invariant-loop-p l = record {
  count : l.total ≡ sum_by (λ p. count_by (λ c. c.0 == l.b.0) (blocks_of (view_of l.parts) p.acts.items)) (take l.p-index l.blocks);
  few : l.total ≤ sum_by (λ p. length p.acts.items) (take l.p-index l.blocks);
}
