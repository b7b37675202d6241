use Rattle.std.proofs.Common.{◌≡◌, ◌<◌, ◌+◌, length}
use Rattle.std.specs.Prelude.{All, vec_capacity}
use Rattle.std.specs.Vec.Iter.{into_iter_items, into_iter_len}
use Rattle.gcd_row.specs.Passes.{IsPassOf, view}
use Rattle.gcd_workers.specs.Teams.{EachFrom, HasLent, IsHead, IsHelper, IsReadyAt}
use Rattle.gcd_workers.proofs.team.add_hands.Given as goal

abbrev pub invariant-loop-helper : goal.invariant-loop-helper
invariant-loop-helper g l = record {
  len : into_iter_len l.helper-iterator ≡ length (into_iter_items l.helper-iterator);
  count : l.number + length (into_iter_items l.helper-iterator) ≡ length l.fn.helpers.items + 1;
  low : 0 < l.number;
  number : length l.hands.items + 1 ≡ l.number;
  helpers : All (IsHelper l.pool.rack.now (view l.fn.pass).terms.plan (view l.fn.pass).seen) (into_iter_items l.helper-iterator);
  room : vec_capacity l.hands ≡ vec_capacity l.fn.hands;
  pass : IsPassOf g.S.Slot.shape g.S.Slot.gives l.pool.board.now l.pass;
  lent : HasLent (view l.fn.pass) (view l.pass);
  head : IsHead 1 l.number (view l.pass);
  hands : EachFrom (IsReadyAt g.S.Slot.shape g.S.Slot.gives l.pool) 1 l.hands.items;
}
