use Rattle.std.specs.List.{count_by}
use Rattle.gcd_timer.specs.Listed.{AreBehind, AreMarked, is_reached}
use Rattle.gcd_timer.proofs.timers.move_on_marked.Given as goal

abbrev pub invariant-loop-s : goal.invariant-loop-s
invariant-loop-s l = record {
  behind : AreBehind l.clock l.nexts;
  marked : AreMarked l.clock.moment l.fn.nexts l.fn.marks l.nexts l.marks;
}

abbrev pub decreases-loop-s : goal.decreases-loop-s
decreases-loop-s l = count_by (is_reached l.clock.moment) l.nexts
