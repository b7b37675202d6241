use Rattle.gcd_journal.specs.Named.{look_of}
use Rattle.gcd_journal.proofs.Formed.{deliver_end_unfit, three_unformed}
use Rattle.gcd_journal.proofs.spelling.by_three.Goals as goal

pub returns-then-eq-7-clause-cause : goal.returns-then-eq-7-clause-cause
returns-then-eq-7-clause-cause c =
    deliver_end_unfit (look_of c.args.names.now.runs) c.args.kind.now c.args.a.now c.args.b.now c.deliver_end_in.result
    (cc (c.as_slice-else-eq-6.ensures, c.eq-else-eq-6.ensures, c.if-eq-7.true)) c.deliver_end_in.ensures.cause

pub returns-else-eq-7-clause-cause : goal.returns-else-eq-7-clause-cause
returns-else-eq-7-clause-cause c =
    three_unformed (look_of c.args.names.now.runs) c.args.kind.now c.args.a.now c.args.b.now
    (cc (c.as_slice.ensures, c.eq.ensures, c.if-eq.false))
    (cc (c.as_slice-else-eq.ensures, c.eq-else-eq.ensures, c.if-eq-2.false))
    (cc (c.as_slice-else-eq-2.ensures, c.eq-else-eq-2.ensures, c.if-eq-3.false))
    (cc (c.as_slice-else-eq-3.ensures, c.eq-else-eq-3.ensures, c.if-eq-4.false))
    (cc (c.as_slice-else-eq-4.ensures, c.eq-else-eq-4.ensures, c.if-eq-5.false))
    (cc (c.as_slice-else-eq-5.ensures, c.eq-else-eq-5.ensures, c.if-eq-6.false))
    (cc (c.as_slice-else-eq-6.ensures, c.eq-else-eq-6.ensures, c.if-eq-7.false))
