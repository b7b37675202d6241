use Rattle.gcd_workers.proofs.AloneEnd.{alone_on, put_stays}
use Rattle.gcd_workers.proofs.jobs_alone.AloneRecorder.put.Goals as goal

pub returns-clause-ready : goal.returns-clause-ready
returns-clause-ready g c =
    let r = c.args.self.now in let new = c.put_one.new.self in
    alone_on g.J.Job.gives g.X.Sent.gives r.given.now r.front.now r.kept.now new r.intake.now c.put_one.ensures.run
    (put_stays g.J.Job.gives g.X.Sent.gives r.given.now r.front.now c.args.e r.kept.now.journal.items new.journal.items r.kept.now.states.items new.states.items c.in_ok-put.put
    c.requires.outside.uncalled c.in_ok-put.ensures.put c.put_one.ensures.no_more) c.requires.ready
