use Rattle.std.proofs.Common.{arith, length-append}
use Rattle.gcd_system.proofs.SlotLemmas.{read-append, read-then_none}
use Rattle.gcd_system.proofs.slots.Slots.read_all.Goals as goal
use Rattle.gcd_system.proofs.slots.Slots.read_all.Goals.{in-Some, in_default}

pub loop-preserved : goal.loop-preserved
loop-preserved c =
    elim c.match-branch-2.branch [
      | in-Some w ↦
          rw (w.told-is, w.push.ensures)
          (read-append _ _ _ _ _ c.loop.invariant (rw w.in-Some.is at c.in_ok-tell.ensures.ok) (rw length-append (omega arith)))
      | in_default w ↦ rw w.told-is (read-then_none _ _ _ _ c.loop.invariant (rw w.in_default.is at c.in_ok-tell.ensures.ok))
    ]
