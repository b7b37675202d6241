use Rattle.std.proofs.Common.{◌≡◌, take}
use Rattle.gcd_text.specs.Lines.{is_printable}
use Rattle.gcd_text.proofs.lines.is_short_printable.Given as goal

abbrev pub invariant-loop-c : goal.invariant-loop-c
invariant-loop-c l = l.so_far ≡ is_printable (take l.c-index l.line)
