use Rattle.gcd_group.specs.GroupsView.{due_at}
use Rattle.gcd_machine.proofs.Steps.GroupLoops.{Firing}
use Rattle.gcd_machine.proofs.registers.Registers.fire.Given as goal

abbrev pub invariant-loop-blk : goal.invariant-loop-blk
invariant-loop-blk l = Firing l.self l.fn.self l.g

abbrev pub decreases-loop-blk : goal.decreases-loop-blk
decreases-loop-blk l = due_at l.self.groups l.g.0
