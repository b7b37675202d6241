use Rattle.std.proofs.Common.{◌≡◌}
use Rattle.gcd_row.specs.Lying.{GivesBack}
use Rattle.gcd_row.specs.Passes.{slots, view}
use Rattle.gcd_pool.specs.Hands.{Serving}
use Rattle.gcd_pool.specs.Throughs.{HasWaited}
use Rattle.gcd_pool.proofs.putting.put_through.Given as goal

abbrev pub invariant-loop : goal.invariant-loop
invariant-loop g l = record {
  serving : Serving g.S.Slot.shape g.S.Slot.gives l.pool l.initial.hand l.hand;
  bench : l.hand.bench ≡ l.initial.hand.bench;
  waited : HasWaited l.initial.hand.pass l.hand.pass;
  cell : GivesBack g.S.Slot.shape (view l.hand.pass).terms (view l.hand.pass).seen l.e (slots l.hand.pass);
}
