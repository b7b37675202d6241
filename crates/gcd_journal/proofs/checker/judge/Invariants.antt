use Rattle.std.proofs.Common.{take}
use Rattle.gcd_machine.specs.Stands.{StandsFor}
use Rattle.gcd_journal.proofs.checker.judge.Given as goal

abbrev pub invariant-loop-index : goal.invariant-loop-index
invariant-loop-index l = StandsFor l.machine l.plan (take l.index l.events)
