use Rattle.std.proofs.Common.{◌≡◌, ℕ, ◌+◌, ◌<◌, length, slice_index, take, count_by}
use Rattle.gcd_plan.specs.Validity.{waits_on}
use Rattle.gcd_sema.proofs.rooms.count_waits.Given as goal

abbrev pub invariant-loop-act : goal.invariant-loop-act
invariant-loop-act l = record {
  long : length l.counts.items ≡ length l.fn.counts.items;
  counted : (s : ℕ) → s < length l.fn.counts.items
      → slice_index l.counts.items s ≡ slice_index l.fn.counts.items s + count_by (waits_on s) (take l.act-index l.acts);
}
