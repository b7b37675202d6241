use Rattle.std.proofs.Common.{subst}
use Rattle.gcd_workers.specs.ListRuns.{HasChosen, IsOneMore}
use Rattle.gcd_workers.proofs.Rushing.{one_more}
use Rattle.gcd_workers.proofs.list_run.Kept.rush_to_long.Goals as goal

pub loop-calm-preserved : goal.loop-calm-preserved
loop-calm-preserved c =
    let plan = c.args.over.now.plan.now in
    let start = c.args.self.now.journal.items in
    let k = c.loop-calm.self.journal.items in
    let l = c.record_next.new.self.journal.items in
    let before = c.loop-calm.invariant in
    let one : IsOneMore plan k l = subst (HasChosen plan k l) c.if-not-branch.false c.in_ok-record_next.ensures.chosen in
    record {
      run = c.record_next.ensures.run;
      rushed = one_more plan start k l one.event before.rushed (before.calm c.loop-calm-test.true) one.chosen;
      calm = λ calm. c.is_calm-calm-in-loop-calm.ensures.calm plan l c.record_next.ensures.run.stands calm;
    }
