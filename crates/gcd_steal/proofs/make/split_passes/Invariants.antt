use Rattle.std.proofs.Common.{◌≡◌, ℕ, ◌<◌, length, slice_index_or}
use Rattle.gcd_steal.specs.declared.bench.Bench.{Bench}
use Rattle.gcd_steal.specs.Racks.{DequePass}
use Rattle.gcd_steal.specs.Making.{SameBench, AreSame, IsNewPass}
use Rattle.gcd_steal.proofs.make.split_passes.Given as goal

abbrev pub invariant-loop-k : goal.invariant-loop-k
invariant-loop-k l = record {
  same : AreSame SameBench l.initial.benches.items l.benches.items;
  count : length l.passes.items ≡ l.k;
  made : (j : ℕ) (b : Bench) (p : DequePass) → j < l.k → IsNewPass l.rack (slice_index_or l.initial.benches.items j b) (slice_index_or l.passes.items j p);
}
