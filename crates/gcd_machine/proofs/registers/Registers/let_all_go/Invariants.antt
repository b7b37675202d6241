use Rattle.std.proofs.Common.{length}
use Rattle.gcd_lists.specs.ListsView.{list_at}
use Rattle.gcd_machine.proofs.Steps.GroupLoops.{Waking}
use Rattle.gcd_machine.proofs.registers.Registers.let_all_go.Given as goal

abbrev pub invariant-loop-blk : goal.invariant-loop-blk
invariant-loop-blk l = Waking l.self l.fn.self l.o

abbrev pub decreases-loop-blk : goal.decreases-loop-blk
decreases-loop-blk l = length (list_at l.self.sleepers l.o.0)
