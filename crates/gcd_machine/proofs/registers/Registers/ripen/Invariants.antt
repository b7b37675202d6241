use Rattle.std.specs.List.{sum_by}
use Rattle.gcd_machine.proofs.Steps.LimitLoop.{Ripening, one_if_some}
use Rattle.gcd_machine.proofs.registers.Registers.ripen.Given as goal

abbrev pub invariant-loop-b : goal.invariant-loop-b
invariant-loop-b l = Ripening l.self l.fn.self l.at

abbrev pub decreases-loop-b : goal.decreases-loop-b
decreases-loop-b l = sum_by one_if_some l.self.ahead
