use Rattle.std.proofs.Common.{arith}
use Rattle.gcd_workers.proofs.AloneSteps.{between_run}
use Rattle.gcd_workers.proofs.jobs_kept.JobsKept.end_first.Goals as goal

pub returns-in-true-clause-between : goal.returns-in-true-clause-between
returns-in-true-clause-between g c =
    let given = c.args.given.now in let h = c.args.self.now.journal.items in
    let len = c.len.ensures given.plan.now h c.requires.run.stands in
    let much = c.if-given-len-le2.false in
    let few = c.requires.run.few in
    between_run given.most given.plan.now h c.record_run.new.self.journal.items (omega (arith, len, much, few)) (c.in_ok-record_run.ensures.ran c.in-true.is)
