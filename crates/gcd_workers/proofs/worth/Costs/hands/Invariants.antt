use Rattle.std.proofs.Common.{◌<◌, ◌≤◌}
use Rattle.gcd_workers.proofs.worth.Costs.hands.Given as goal

abbrev pub invariant-loop-hands : goal.invariant-loop-hands
invariant-loop-hands l = record { some : 0 < l.best; few : l.best ≤ l.most }
