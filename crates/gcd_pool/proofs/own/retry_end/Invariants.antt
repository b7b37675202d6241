use Rattle.std.proofs.Common.{◌≡◌}
use Rattle.gcd_row.specs.Passes.{slots, view}
use Rattle.gcd_pool.specs.Hands.{IsSettled, Serving}
use Rattle.gcd_pool.specs.Placing.{HasPlacedNone}
use Rattle.gcd_pool.specs.Works.{AddsNone, AddsWork}
use Rattle.gcd_pool.proofs.own.retry_end.Given as goal

abbrev pub invariant-loop : goal.invariant-loop
invariant-loop g l = record {
  serving : Serving g.S.Slot.shape g.S.Slot.gives l.pool l.initial.hand l.hand;
  bench : l.hand.bench ≡ l.initial.hand.bench;
  work : AddsWork (view l.initial.hand.pass) (view l.hand.pass);
  none : AddsNone (view l.initial.hand.pass) (view l.hand.pass);
  quiet : HasPlacedNone (view l.initial.hand.pass) (view l.hand.pass);
  settled : IsSettled g.S.Slot.shape (view l.hand.pass) l.e (slots l.hand.pass);
}
