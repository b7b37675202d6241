use Rattle.std.proofs.Common.{◌≡◌, ◌≤◌, ◌+◌, ◌==◌, ◌++◌, length, take}
use Rattle.std.specs.List.{count_by, sum_by}
use Rattle.std.specs.Option.{option_to_list}
use Rattle.gcd_plan.specs.PlanView.{view_of}
use Rattle.gcd_plan.specs.Validity.{blocks_of}
use Rattle.gcd_plan.proofs.once_valid.object_submissions.Given as goal

abbrev pub invariant-loop-o : goal.invariant-loop-o
invariant-loop-o l = record {
  count : l.total ≡ sum_by (λ o. count_by (λ c. c.0 == l.b.0) (blocks_of (view_of l.parts) o.handler.items ++ option_to_list o.cancel)) (take l.o-index l.objects);
  few : l.total ≤ sum_by (λ o. length o.handler.items + 1) (take l.o-index l.objects);
}
