use Rattle.std.proofs.Common.{◌≡◌, map}
use Rattle.std.specs.List.{filter_map, range_with_len}
use Rattle.gcd_timeline.specs.Marks.{mark_view, mark_at}
use Rattle.gcd_timeline.proofs.marking.marks.Given as goal

abbrev pub invariant-loop-at : goal.invariant-loop-at
invariant-loop-at l = map mark_view l.marks.items ≡ filter_map (mark_at l.plan l.events) (range_with_len 0 l.at)
