use Rattle.std.proofs.Common.{◌≡◌, ◌≤◌, ◌-◌, ◌&&◌, length, take, drop}
use Rattle.gcd_text.specs.Lines.{is_printable}
use Rattle.gcd_text.proofs.lines.is_printable.Given as goal

abbrev pub invariant-loop-piece : goal.invariant-loop-piece
invariant-loop-piece l = record {
  inside : length l.rest ≤ length l.line;
  rest : l.rest ≡ drop (length l.line - length l.rest) l.line;
  tested : l.so_far ≡ (is_printable (drop (length l.line - 16) l.line) && is_printable (take (length l.line - length l.rest) l.line));
}

abbrev pub decreases-loop-piece : goal.decreases-loop-piece
decreases-loop-piece l = length l.rest
