use Rattle.std.proofs.Common.{length}
use Rattle.gcd_lists.specs.ListsView.{list_at}
use Rattle.gcd_machine.proofs.Steps.EndLoops.{Letting}
use Rattle.gcd_machine.proofs.registers.Registers.let_listed_go.Given as goal

abbrev pub invariant-loop-waiter : goal.invariant-loop-waiter
invariant-loop-waiter l = Letting l.self l.fn.self l.blk

abbrev pub decreases-loop-waiter : goal.decreases-loop-waiter
decreases-loop-waiter l = length (list_at l.self.waiters l.blk.0)
