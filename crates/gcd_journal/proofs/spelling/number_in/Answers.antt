use Rattle.std.proofs.Common.{sym, inl, inr, arith}
use Rattle.gcd_journal.proofs.Numbers.{reads, reads_none, unread}
use Rattle.gcd_journal.proofs.spelling.number_in.Goals as goal

pub returns-then-n-from-clause-value : goal.returns-then-n-from-clause-value
returns-then-n-from-clause-value c =
    sym (reads_none c.args.low c.args.high c.args.field.now c.in-Some.n (omega (arith, c.in-Some.ensures.low)) c.in-Some.ensures.written (inl (omega arith)))

pub returns-then-from-n-clause-value : goal.returns-then-from-n-clause-value
returns-then-from-n-clause-value c =
    sym (reads_none c.args.low c.args.high c.args.field.now c.in-Some.n (omega (arith, c.in-Some.ensures.low)) c.in-Some.ensures.written (inr (omega arith)))

pub returns-in-None-clause-value : goal.returns-in-None-clause-value
returns-in-None-clause-value c = sym (unread c.args.low c.args.high c.args.field.now (omega arith) c.in-None.ensures.unwritten)

pub returns-else-from-n-clause-value : goal.returns-else-from-n-clause-value
returns-else-from-n-clause-value c =
    sym (reads c.args.low c.args.high c.args.field.now c.in-Some.n (omega (arith, c.in-Some.ensures.low)) c.in-Some.ensures.written (omega arith) (omega arith))
