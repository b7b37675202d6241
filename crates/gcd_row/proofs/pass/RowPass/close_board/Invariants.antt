use Rattle.std.proofs.Common.{◌≡◌, ◌≤◌, ◌-◌, take}
use Rattle.std.specs.Prelude.{vec_capacity}
use Rattle.gcd_row.specs.Passes.{view}
use Rattle.gcd_row.proofs.pass.RowPass.close_board.Given as goal

abbrev pub invariant-loop-i : goal.invariant-loop-i
invariant-loop-i g l = record {
  low : l.first ≤ l.i;
  high : l.i ≤ l.n;
  read : l.journal.items ≡ take l.i (view l.fn.self).seen;
  room : vec_capacity l.journal ≡ vec_capacity l.initial.journal;
}

abbrev pub decreases-loop-i : goal.decreases-loop-i
decreases-loop-i g l = l.n - l.i
