use Rattle.std.proofs.Common.{arith}
use Rattle.gcd_workers.proofs.Rushing.{kept_on, kept_till}
use Rattle.gcd_workers.proofs.list_run.ListRunRecorder.rush.Goals as goal

pub rush_on-requires : goal.rush_on-requires
rush_on-requires c =
    let run = c.args.self.now in let kept = run.kept in
    let ready = c.requires.ready in
    let few = ready.few in
    let len = c.len.ensures run.over.plan.now kept.journal.items ready.stands in
    let early = c.may_ask.ensures c.if-may_ask.false in
    let bound = c.until.ensures in
    record { run = kept_till run.over c.until.result kept (omega (arith, bound)) (omega (arith, bound, len, early, few)) ready }

pub returns-clause-ready : goal.returns-clause-ready
returns-clause-ready c =
    let run = c.args.self.now in
    let bound = c.until.ensures in
    kept_on run.over c.until.result c.rush_on.new.self (omega (arith, bound)) c.requires.ready.countable c.rush_on.ensures.run
