use Rattle.std.proofs.Common.{inl, refl, sym}
use Rattle.gcd_event.specs.declared.event.Event.TheVariants.{Shut}
use Rattle.gcd_pool.proofs.Accepting.{all_accepted}
use Rattle.gcd_workers.proofs.AloneEnd.{shut_alone}
use Rattle.gcd_workers.proofs.jobs_alone.AloneRecorder.admit.Goals as goal

pub returns-in_ok-put-in-None-clause-ready : goal.returns-in_ok-put-in-None-clause-ready
returns-in_ok-put-in-None-clause-ready g c =
    let r = c.args.self.now in let plan = r.given.now.plan.now in let h = r.kept.now.journal.items in
    let all = all_accepted plan h c.requires.open (sym (c.in-None.ensures plan h c.requires.ready.run.stands)) in
    shut_alone g.J.Job.gives g.X.Sent.gives r.given.now r.front.now r.kept.now c.put_one.new.self r.intake.now c.in_ok-put-in-None.put c.requires.ready c.put_one.ensures.run
    c.in_ok-put-in-None.ensures.put c.put_one.ensures.no_more (inl all)

pub returns-in_ok-put-in-None-clause-said : goal.returns-in_ok-put-in-None-clause-said
returns-in_ok-put-in-None-clause-said g c = record { event = Shut; called = refl; said = c.in_ok-put-in-None.ensures.said }
