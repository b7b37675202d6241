use Rattle.std.proofs.Common.{◌<◌, ◌≤◌}
use Rattle.gcd_workers.proofs.hiring.with_acts.Given as goal

abbrev pub invariant-loop-act : goal.invariant-loop-act
invariant-loop-act l = record { some : 0 < l.size; few : l.size ≤ l.workers }
