use Rattle.std.proofs.Common.{◌≡◌, map, take}
use Rattle.gcd_plan.specs.PlanView.{strip_view}
use Rattle.gcd_plan.proofs.copy.copied_strips.Given as goal

abbrev pub invariant-loop-s : goal.invariant-loop-s
invariant-loop-s l = map strip_view l.v.items ≡ map strip_view (take l.s-index l.strips)
