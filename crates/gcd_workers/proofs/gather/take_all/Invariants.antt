use Rattle.std.proofs.Common.{◌≡◌, ◌+◌, suc, length}
use Rattle.std.specs.Vec.Iter.{into_iter_items, into_iter_len}
use Rattle.gcd_history.specs.Ends.{HasEnded}
use Rattle.gcd_row.specs.Passes.{IsGathered, IsPassOf, terms_of, view}
use Rattle.gcd_workers.specs.Teams.{EachFrom, IsHead, IsPassAt}
use Rattle.gcd_workers.proofs.gather.take_all.Given as goal

abbrev pub invariant-loop-hand : goal.invariant-loop-hand
invariant-loop-hand g l = record {
  len : into_iter_len l.hand-iterator ≡ length (into_iter_items l.hand-iterator);
  count : suc (length l.yielded) + length (into_iter_items l.hand-iterator) ≡ length l.fn.hands.items;
  each : EachFrom (IsPassAt g.S.Slot.shape g.S.Slot.gives l.board) (suc (length l.yielded)) (into_iter_items l.hand-iterator);
  pass : IsPassOf g.S.Slot.shape g.S.Slot.gives l.board l.pass;
  head : IsHead (suc (length l.yielded)) (length l.fn.hands.items) (view l.pass);
  seen : (view l.pass).seen ≡ (view l.initial.pass).seen;
  handed : (view l.pass).handed ≡ (view l.initial.pass).handed;
  ended : HasEnded (terms_of l.board).limits.most (terms_of l.board).plan (view l.initial.pass).seen;
  gathered : IsGathered (view l.pass) l.journal.items;
}
