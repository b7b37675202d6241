use Rattle.std.proofs.Common.{subst, sym}
use Rattle.gcd_loop.specs.Rushed.{IsRushed}
use Rattle.gcd_loop.proofs.Rushes.{rushed_more}
use Rattle.gcd_workers.specs.ListRuns.{HasSteppedTwice, IsTwoSteps}
use Rattle.std.proofs.Common.{◌++◌, ◌∷◌, []}
use Rattle.gcd_workers.proofs.list_run.Kept.rush_through.Goals as goal

pub loop-calm-preserved : goal.loop-calm-preserved
loop-calm-preserved c =
    let plan = c.args.over.now.plan.now in
    let start = c.args.self.now.journal.items in
    let k = c.loop-calm.self.journal.items in
    let l = c.record_run.new.self.journal.items in
    let before = c.loop-calm.invariant in
    let calm = before.calm c.loop-calm-test.true in
    let two : IsTwoSteps plan k l = subst (HasSteppedTwice plan k l) c.if-not-branch.false c.in_ok-record_run.ensures.stepped in
    record {
      run = c.record_run.ensures.run;
      rushed =
          subst (IsRushed plan start) (sym two.is)
          (rushed_more plan start (k ++ two.first ∷ []) two.second (rushed_more plan start k two.first before.rushed calm two.chosen) (two.calm calm) two.chosen_next);
      calm = λ calm. c.is_calm-calm-in-loop-calm.ensures.calm plan l c.record_run.ensures.run.stands calm;
    }
