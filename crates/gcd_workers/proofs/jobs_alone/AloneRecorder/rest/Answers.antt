use Rattle.std.proofs.Common.{refl}
use Rattle.gcd_loop.proofs.Steps.{grown_same}
use Rattle.gcd_workers.specs.JobsKept.{jobs_sight}
use Rattle.gcd_workers.proofs.jobs_alone.AloneRecorder.rest.Goals as goal

pub returns-clause-grown : goal.returns-clause-grown
returns-clause-grown g c =
    let r = c.args.self.now in
    grown_same r.given.now.most r.given.now.plan.now r.kept.now.journal.items r.kept.now.journal.items r.kept.now.machine (jobs_sight g.J.Job.gives r.given.now r.kept.now c.requires.ready.run) refl
