use Rattle.std.proofs.Common.{◌≡◌, ◌≤◌, map, replicate}
use Rattle.gcd_commands.specs.End.{large_file}
use Rattle.gcd_commands.proofs.large.large_files.Given as goal

abbrev pub invariant-loop : goal.invariant-loop
invariant-loop l = record {
  files : map (λ f. f.items) l.files.items ≡ replicate l.counter large_file;
  within : l.counter ≤ l.end;
}
