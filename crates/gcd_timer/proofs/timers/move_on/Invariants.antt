use Rattle.std.specs.List.{count_by}
use Rattle.gcd_timer.specs.Listed.{AreBehind, is_reached}
use Rattle.gcd_timer.proofs.timers.move_on.Given as goal

abbrev pub invariant-loop-s : goal.invariant-loop-s
invariant-loop-s l = AreBehind l.clock l.nexts

abbrev pub decreases-loop-s : goal.decreases-loop-s
decreases-loop-s l = count_by (is_reached l.clock.moment) l.nexts
