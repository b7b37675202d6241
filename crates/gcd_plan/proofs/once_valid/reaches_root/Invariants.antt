use Rattle.std.proofs.Common.{◌≡◌, ◌-◌}
use Rattle.gcd_plan.specs.PlanView.{view_of, first_target}
use Rattle.gcd_plan.specs.Chains.{chain_by, is_in}
use Rattle.gcd_plan.proofs.once_valid.reaches_root.Given as goal

abbrev pub invariant-loop : goal.invariant-loop
invariant-loop l =
    is_in 0 (chain_by (first_target (view_of l.parts)) l.end l.o)
    ≡ is_in 0 (chain_by (first_target (view_of l.parts)) (l.end - l.counter) l.at)
