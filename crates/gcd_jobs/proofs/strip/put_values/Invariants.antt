use Rattle.std.proofs.Common.{◌≡◌, ◌+◌, ◌-◌, ◌≤◌, ◌++◌, length}
use Rattle.std.specs.Prelude.{vec_capacity}
use Rattle.gcd_jobs.specs.Contents.{contents}
use Rattle.gcd_jobs.specs.StripValues.{values_from}
use Rattle.gcd_jobs.proofs.strip.put_values.Given as goal

abbrev pub invariant-loop-b : goal.invariant-loop-b
invariant-loop-b l = record {
  values : l.into.items ≡ l.initial.into.items ++ values_from l.plan (contents l.files) l.fn.first (l.b - l.fn.first);
  low : l.fn.first ≤ l.b;
  room : length l.into.items + (l.end - l.b) ≤ vec_capacity l.into;
}
