use Rattle.std.proofs.Common.{◌≡◌, ◌-◌, length}
use Rattle.gcd_row.specs.Lying.{GivesBack}
use Rattle.gcd_row.specs.Views.{knowing, known}
use Rattle.gcd_row.specs.Passes.{IsPassOf, Ahead, IsLater, slots, view}
use Rattle.gcd_row.proofs.board.RowBoard.put.Given as goal

abbrev pub invariant-loop-n : goal.invariant-loop-n
invariant-loop-n g l = record {
  place : l.n ≡ length (view l.pass).seen;
  of : IsPassOf g.S.Slot.shape g.S.Slot.gives l.self l.pass;
  same : slots l.pass ≡ slots l.fn.pass;
  is_known : view l.pass ≡ knowing (view l.fn.pass) (view l.pass).seen (known (view l.fn.pass) (view l.pass));
  ahead : Ahead (view l.fn.pass) (view l.pass).seen;
  later : IsLater (view l.fn.pass).marks (view l.pass).marks;
  back : GivesBack g.S.Slot.shape (view l.pass).terms (view l.pass).seen l.e (slots l.pass);
}

abbrev pub decreases-loop-n : goal.decreases-loop-n
decreases-loop-n g l = l.most - l.n
