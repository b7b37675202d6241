use Rattle.std.proofs.Common.{length}
use Rattle.gcd_journal.proofs.NextLines.{HasRead}
use Rattle.gcd_journal.proofs.reader.read_journal.Given as goal

abbrev pub invariant-lines : goal.invariant-lines
invariant-lines l = HasRead l.most l.plan l.bytes l.events.items l.rest

abbrev pub decreases-lines : goal.decreases-lines
decreases-lines l = length l.rest
