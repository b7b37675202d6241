use Rattle.std.proofs.Common.{◌++◌, ◌∷◌, [], refl, arith, subst, sym}
use Rattle.gcd_loop.specs.Rushed.{IsRushed}
use Rattle.gcd_loop.proofs.Rushes.{rushed_more, rushed_none}
use Rattle.gcd_workers.specs.ListRuns.{HasSteppedTwice, IsTwoSteps}
use Rattle.gcd_workers.proofs.AloneSteps.{more_run, stays_same, stays_through}
use Rattle.gcd_workers.proofs.jobs_kept.JobsKept.rush_through.Goals as goal

pub loop-calm-init : goal.loop-calm-init
loop-calm-init g c =
    let given = c.args.given.now in let h = c.args.self.now.journal.items in let states = c.args.self.now.states.items in
    record {
      run = c.requires.run;
      rushed = rushed_none given.plan.now h;
      calm = λ calm. c.is_calm-calm.ensures.calm given.plan.now h c.requires.run.stands calm;
      stays = stays_same g.J.Job.gives h h states states refl (λ b value may. may);
    }

pub loop-calm-preserved : goal.loop-calm-preserved
loop-calm-preserved g c =
    let plan = c.args.given.now.plan.now in
    let first = c.args.self.now in
    let mid = c.loop-calm.self in
    let last = c.record_run.new.self in
    let start = first.journal.items in let k = mid.journal.items in let l = last.journal.items in
    let was = c.loop-calm.invariant in
    let calm = was.calm c.loop-calm-test.true in
    let two : IsTwoSteps plan k l = subst (HasSteppedTwice plan k l) c.if-not-branch.false c.in_ok-record_run.ensures.stepped in
    record {
      run = c.record_run.ensures.run;
      rushed =
          subst (IsRushed plan start) (sym two.is)
          (rushed_more plan start (k ++ two.first ∷ []) two.second (rushed_more plan start k two.first was.rushed calm two.chosen) (two.calm calm) two.chosen_next);
      calm = λ calm. c.is_calm-calm-in-loop-calm.ensures.calm plan l c.record_run.ensures.run.stands calm;
      stays = stays_through g.J.Job.gives start k l first.states.items mid.states.items last.states.items was.stays c.in_ok-record_run.ensures.stays;
    }

pub loop-calm-smaller : goal.loop-calm-smaller
loop-calm-smaller g c =
    let more = more_run c.loop-calm.self.journal.items c.record_run.new.self.journal.items (c.in_ok-record_run.ensures.ran c.if-not-branch.false) in
    let few = c.record_run.ensures.run.few in
    omega (arith, more, few)
