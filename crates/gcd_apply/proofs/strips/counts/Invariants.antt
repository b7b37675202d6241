use Rattle.std.proofs.Common.{◌≡◌, map, take}
use Rattle.gcd_plan.specs.PlanView.{strip_view}
use Rattle.gcd_apply.proofs.strips.counts.Given as goal

abbrev pub invariant-loop-strip : goal.invariant-loop-strip
invariant-loop-strip l = l.counts.items ≡ map (λ s. s.count) (map strip_view (take l.strip-index l.strips))
