use Rattle.gcd_journal.specs.Named.{look_of}
use Rattle.gcd_journal.proofs.Formed.{tick_unfit}
use Rattle.gcd_journal.proofs.spelling.by_two.Goals as goal

pub returns-then-eq-clause-cause : goal.returns-then-eq-clause-cause
returns-then-eq-clause-cause c =
    tick_unfit (look_of c.args.names.now.runs) c.args.kind.now c.args.a.now c.tick_in.result
    (cc (c.as_slice.ensures, c.eq.ensures, c.if-eq.true)) (c.tick_in.ensures.cause (look_of c.args.names.now.runs))
