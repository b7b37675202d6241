use Rattle.gcd_loop.proofs.Steps.{grown}
use Rattle.gcd_workers.specs.JobsKept.{jobs_sight}
use Rattle.gcd_workers.proofs.AloneEnd.{alone_on}
use Rattle.gcd_workers.proofs.jobs_alone.AloneRecorder.work.Goals as goal

pub returns-clause-after : goal.returns-clause-after
returns-clause-after g c =
    let r = c.args.self.now in let new = c.do_chosen.new.self in
    alone_on g.J.Job.gives g.X.Sent.gives r.given.now r.front.now r.kept.now new r.intake.now c.in_ok-do_chosen.ensures.run c.in_ok-do_chosen.ensures.stays c.requires.ready

pub returns-clause-grown : goal.returns-clause-grown
returns-clause-grown g c =
    let r = c.args.self.now in let new = c.do_chosen.new.self in
    grown r.given.now.most r.given.now.plan.now r.kept.now.journal.items new.journal.items new.machine (jobs_sight g.J.Job.gives r.given.now new c.in_ok-do_chosen.ensures.run)
    c.in_ok-do_chosen.ensures.grows
