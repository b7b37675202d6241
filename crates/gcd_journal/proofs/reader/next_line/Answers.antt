use Rattle.gcd_journal.specs.Named.{look_of}
use Rattle.gcd_journal.proofs.NextLines.{endless}
use Rattle.gcd_journal.proofs.reader.next_line.Goals as goal

pub returns-in-None : goal.returns-in-None
returns-in-None c = endless c.args.most (look_of c.args.names.now.runs) c.args.text.now c.args.count c.in-None.ensures.uncut
