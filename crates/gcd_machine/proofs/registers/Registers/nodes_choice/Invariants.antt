use Rattle.std.proofs.Common.{◌≡◌, ◌-◌, ◌≤◌}
use Rattle.gcd_drain.specs.Shut.{AreSound}
use Rattle.gcd_machine.specs.Chosen.{nodes_at}
use Rattle.gcd_machine.proofs.registers.Registers.nodes_choice.Given as goal

abbrev pub invariant-loop-o : goal.invariant-loop-o
invariant-loop-o l = record {
  order : l.n ≤ l.end;
  sound : AreSound l.self.drains l.self.tree l.self.holds l.marks;
  same : nodes_at l.self l.worker l.n (l.end - l.n) ≡ nodes_at l.self l.worker l.from (l.end - l.from);
}

abbrev pub decreases-loop-o : goal.decreases-loop-o
decreases-loop-o l = l.end - l.n
