use Rattle.std.proofs.Common.{length}
use Rattle.gcd_lists.specs.ListsView.{list_at}
use Rattle.gcd_machine.proofs.Steps.EndLoops.{Telling}
use Rattle.gcd_machine.proofs.registers.Registers.tell.Given as goal

abbrev pub invariant-loop-next : goal.invariant-loop-next
invariant-loop-next l = Telling l.self l.fn.self l.blk

abbrev pub decreases-loop-next : goal.decreases-loop-next
decreases-loop-next l = length (list_at l.self.marks.notify l.blk.0)
