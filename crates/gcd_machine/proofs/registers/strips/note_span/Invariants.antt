use Rattle.std.proofs.Common.{◌≡◌, ◌-◌, ◌≤◌, length}
use Rattle.std.specs.List.{fold, range_with_len}
use Rattle.gcd_machine.specs.Steps.{noted_on}
use Rattle.gcd_machine.proofs.registers.strips.note_span.Given as goal

abbrev pub invariant-loop-b : goal.invariant-loop-b
invariant-loop-b l = record {
  noted : l.blocks.items ≡ fold (noted_on l.node) l.initial.blocks.items (range_with_len l.fn.first (l.b - l.fn.first));
  long : length l.blocks.items ≡ length l.initial.blocks.items;
  low : l.fn.first ≤ l.b;
}
