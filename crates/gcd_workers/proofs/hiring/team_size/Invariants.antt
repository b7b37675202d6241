use Rattle.std.proofs.Common.{◌<◌, ◌≤◌}
use Rattle.gcd_workers.proofs.hiring.team_size.Given as goal

abbrev pub invariant-loop-number : goal.invariant-loop-number
invariant-loop-number l = record { some : 0 < l.size; few : l.size ≤ l.workers }
