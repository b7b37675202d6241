use Rattle.gcd_pool.specs.Hands.{Serving}
use Rattle.gcd_pool.proofs.run.see_the_end.Given as goal

abbrev pub invariant-loop : goal.invariant-loop
invariant-loop g l = Serving g.S.Slot.shape g.S.Slot.gives l.pool l.initial.hand l.hand
