use Rattle.std.proofs.Common.{◌≡◌, false, take}
use Rattle.std.specs.List.{list_any}
use Rattle.gcd_sema.specs.Awaited.{is_awaited}
use Rattle.gcd_sema.proofs.awaited.has_awaited.Given as goal

abbrev pub invariant-loop-o : goal.invariant-loop-o
invariant-loop-o l = list_any is_awaited (take l.o l.plan.objects) ≡ false
