use Rattle.std.proofs.Common.{arith}
use Rattle.gcd_journal.specs.Named.{look_of}
use Rattle.gcd_journal.proofs.NextLines.{one_too_many, counted_line, odd_line}
use Rattle.gcd_journal.proofs.reader.line_of.Goals as goal

pub returns-else-count-most : goal.returns-else-count-most
returns-else-count-most c =
    one_too_many c.args.most (look_of c.args.names.now.runs) c.args.line.now c.args.rest.now c.args.count c.requires (omega arith) c.in-Ok.e c.in-Ok.ensures.event (omega arith)

pub returns-then-is_count : goal.returns-then-is_count
returns-then-is_count c =
    counted_line c.args.most (look_of c.args.names.now.runs) c.args.line.now c.args.rest.now c.args.count c.requires (omega arith) c.if-is_count.ensures

pub returns-else-is_count : goal.returns-else-is_count
returns-else-is_count c =
    odd_line c.args.most (look_of c.args.names.now.runs) c.args.line.now c.args.rest.now c.args.count c.requires (omega arith) c.in-Err.cause c.in-Err.ensures.event c.in-Err.ensures.cause c.if-is_count.ensures
