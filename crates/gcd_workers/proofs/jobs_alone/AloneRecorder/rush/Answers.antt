use Rattle.gcd_workers.proofs.AloneEnd.{alone_on}
use Rattle.gcd_workers.proofs.jobs_alone.AloneRecorder.rush.Goals as goal

pub returns-clause-ready : goal.returns-clause-ready
returns-clause-ready g c =
    let r = c.args.self.now in
    alone_on g.J.Job.gives g.X.Sent.gives r.given.now r.front.now r.kept.now c.rush_on.new.self r.intake.now c.rush_on.ensures.run c.in_ok-rush_on.ensures.stays c.requires.ready
