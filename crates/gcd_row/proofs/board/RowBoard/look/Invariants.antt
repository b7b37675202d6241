use Rattle.std.proofs.Common.{◌≡◌, ◌-◌, length}
use Rattle.gcd_row.specs.Views.{seeing}
use Rattle.gcd_row.specs.Passes.{IsPassOf, Ahead, slots, view}
use Rattle.gcd_row.proofs.board.RowBoard.look.Given as goal

abbrev pub invariant-loop-n : goal.invariant-loop-n
invariant-loop-n g l = record {
  place : l.n ≡ length (view l.pass).seen;
  of : IsPassOf g.S.Slot.shape g.S.Slot.gives l.self l.pass;
  same : slots l.pass ≡ slots l.fn.pass;
  known : view l.pass ≡ seeing (view l.fn.pass) (view l.pass).seen;
  ahead : Ahead (view l.fn.pass) (view l.pass).seen;
}

abbrev pub decreases-loop-n : goal.decreases-loop-n
decreases-loop-n g l = l.most - l.n
