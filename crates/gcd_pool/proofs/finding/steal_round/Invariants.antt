use Rattle.std.proofs.Common.{◌≡◌, ℕ}
use Rattle.gcd_steal.specs.Racks.{IsBenchOf, number_of, sight_of}
use Rattle.gcd_pool.specs.Found.{HasFoundNone}
use Rattle.gcd_pool.proofs.finding.steal_round.Given as goal

abbrev pub invariant-loop-step : goal.invariant-loop-step
invariant-loop-step g l = IsBenchOf l.rack l.bench × (number_of l.bench ≡ number_of l.initial.bench) × (sight_of l.bench ≡ sight_of l.initial.bench) × ((tries : ℕ) × HasFoundNone tries l.initial.bench l.bench)
