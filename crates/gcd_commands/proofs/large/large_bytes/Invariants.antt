use Rattle.std.proofs.Common.{◌≡◌, ◌≤◌, ◌+◌, ◌*◌, ◌%◌, map}
use Rattle.std.specs.List.{range_with_len}
use Rattle.gcd_commands.proofs.large.large_bytes.Given as goal

abbrev pub invariant-loop-i : goal.invariant-loop-i
invariant-loop-i l = record {
  bytes : l.bytes.items ≡ map (λ i. (7 * i + 3) % 256) (range_with_len 0 l.i);
  few : l.i ≤ 4096;
}
