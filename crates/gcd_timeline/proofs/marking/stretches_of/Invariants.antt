use Rattle.std.proofs.Common.{◌≡◌, ◌-◌}
use Rattle.std.specs.List.{filter_map, range_with_len}
use Rattle.gcd_timeline.specs.Marks.{stretch_at}
use Rattle.gcd_timeline.proofs.marking.stretches_of.Given as goal

abbrev pub invariant-loop-at : goal.invariant-loop-at
invariant-loop-at l = l.stretches.items ≡ filter_map (stretch_at l.plan l.events l.run) (range_with_len l.from (l.at - l.from))
