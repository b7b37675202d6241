use Rattle.std.proofs.Common.{◌≡◌, ◌-◌}
use Rattle.gcd_row.specs.Passes.{IsPassOf, slots, view}
use Rattle.gcd_row.proofs.Scanning.{Scans}
use Rattle.gcd_row.proofs.board.RowBoard.blocked.Given as goal

abbrev pub invariant-loop-k : goal.invariant-loop-k
invariant-loop-k g l = record {
  of : IsPassOf g.S.Slot.shape g.S.Slot.gives l.self l.pass;
  same : slots l.pass ≡ slots l.fn.pass;
  scans : Scans (view l.fn.pass) (view l.pass) l.fn.n l.k;
}

abbrev pub decreases-loop-k : goal.decreases-loop-k
decreases-loop-k g l = l.self.limits.workers - l.k
