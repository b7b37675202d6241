use Rattle.std.proofs.Common.{◌≡◌, map, take}
use Rattle.gcd_plan.specs.PlanView.{file_view}
use Rattle.gcd_plan.proofs.copy.copied_files.Given as goal

abbrev pub invariant-loop-f : goal.invariant-loop-f
invariant-loop-f l = map file_view l.v.items ≡ map file_view (take l.f-index l.files)
