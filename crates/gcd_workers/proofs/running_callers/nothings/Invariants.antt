use Rattle.std.proofs.Common.{◌≡◌}
use Rattle.gcd_workers.specs.CalledRuns.{nothings}
use Rattle.gcd_workers.proofs.running_callers.nothings.Given as goal

abbrev pub invariant-loop : goal.invariant-loop
invariant-loop g l = l.jobs.items ≡ nothings l.counter
