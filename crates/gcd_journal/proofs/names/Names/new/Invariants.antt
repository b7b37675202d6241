use Rattle.std.proofs.Common.{length}
use Rattle.gcd_journal.specs.Named.{look_of}
use Rattle.gcd_journal.proofs.LookUp.{KnowsUpTo}
use Rattle.gcd_journal.proofs.names.Names.new.Given as goal

abbrev pub invariant-loop-b : goal.invariant-loop-b
invariant-loop-b l = KnowsUpTo l.plan (look_of l.runs) l.b 0

abbrev pub invariant-loop-o : goal.invariant-loop-o
invariant-loop-o l = KnowsUpTo l.plan (look_of l.runs) (length l.plan.blocks) l.o
