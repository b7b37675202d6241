use Rattle.std.proofs.Common.{◌≡◌, ◌≤◌, length, take}
use Rattle.std.specs.List.{sum_by}
use Rattle.gcd_plan.proofs.limits_valid.handler_acts.Given as goal

abbrev pub invariant-loop-o : goal.invariant-loop-o
invariant-loop-o l = record {
  total : l.total ≡ sum_by (λ o. length o.handler.items) (take l.o-index l.objects);
  few : l.total ≤ l.most;
}
