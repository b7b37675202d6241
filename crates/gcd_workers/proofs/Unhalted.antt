-- A poller that never fails halts no run.
use Rattle.std.proofs.Common.{arith}
use Rattle.gcd_outer.specs.Outside.{Rises}

pub never_rises : Rises 0 0 → ⊥
never_rises rises = omega (arith, rises)
