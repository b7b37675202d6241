use Rattle.std.proofs.Common.{◌≡◌, ◌≤◌, ◌-◌, take}
use Rattle.std.specs.Prelude.{vec_capacity}
use Rattle.gcd_row.specs.Passes.{IsPassOf, slots, view}
use Rattle.gcd_row.proofs.board.RowBoard.append.Given as goal

abbrev pub invariant-loop-i : goal.invariant-loop-i
invariant-loop-i g l = record {
  low : l.fn.first ≤ l.i;
  high : l.i ≤ l.fn.n;
  of : IsPassOf g.S.Slot.shape g.S.Slot.gives l.self l.pass;
  kept : slots l.pass ≡ slots l.fn.pass;
  same : view l.pass ≡ view l.fn.pass;
  read : l.journal.items ≡ take l.i (view l.fn.pass).seen;
  room : vec_capacity l.journal ≡ vec_capacity l.fn.journal;
}

abbrev pub decreases-loop-i : goal.decreases-loop-i
decreases-loop-i g l = l.fn.n - l.i
