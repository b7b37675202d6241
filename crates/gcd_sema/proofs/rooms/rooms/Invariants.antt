use Rattle.std.proofs.Common.{◌≡◌, ℕ, ◌<◌, length, slice_index, take, count_by}
use Rattle.std.specs.List.{flat_map}
use Rattle.gcd_plan.specs.Validity.{waits_on}
use Rattle.gcd_sema.proofs.rooms.rooms.Given as goal

abbrev pub invariant-loop-b : goal.invariant-loop-b
invariant-loop-b l = record {
  long : length l.counts.items ≡ length l.plan.objects;
  counted : (s : ℕ) → s < length l.plan.objects
      → slice_index l.counts.items s ≡ count_by (waits_on s) (flat_map (λ b. b.acts) (take l.b l.plan.blocks));
}
