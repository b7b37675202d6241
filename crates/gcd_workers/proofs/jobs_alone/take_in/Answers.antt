use Rattle.std.proofs.Common.{inr, refl, sym, subst, arith}
use Rattle.gcd_event.specs.declared.event.Event.TheVariants.{Accept, Shut}
use Rattle.gcd_front.specs.Fronts.{KnowsAll, TookAll}
use Rattle.gcd_workers.specs.JobsKept.{IsAlone}
use Rattle.gcd_workers.proofs.AloneEnd.{accepted_alone, accepted_said, learns_alone, shut_alone}
use Rattle.gcd_workers.proofs.jobs_alone.take_in.Goals as goal

pub accept-requires-clause-sender : goal.accept-requires-clause-sender
accept-requires-clause-sender g c =
    let low = c.in-Some.ensures.taken.sender in
    let few = c.requires.alone.few in
    omega (arith, low, few)

pub returns-then-all_shut-clause-alone : goal.returns-then-all_shut-clause-alone
returns-then-all_shut-clause-alone g c =
    let given = c.args.given.now in let f = c.args.front.now in let kept = c.args.kept.now in
    let now =
    subst (λ j. IsAlone g.J.Job.gives g.X.Sent.gives given kept f j) (sym c.in-None.ensures.same)
    (learns_alone g.J.Job.gives g.X.Sent.gives given f kept c.args.intake.now c.all_shut-all_shut.new.self c.requires.alone c.requires.open c.all_shut-all_shut.ensures.more) in
    let all = subst (λ j. KnowsAll f j × TookAll j) (sym c.in-None.ensures.same) (c.all_shut-all_shut.ensures.known c.if-all_shut.true, c.in-None.ensures.all) in
    shut_alone g.J.Job.gives g.X.Sent.gives given f kept c.put_one.new.self c.take.new.self c.in_ok-put-in-None.put now c.put_one.ensures.run
    c.in_ok-put-in-None.ensures.put c.put_one.ensures.no_more (inr all)

pub returns-then-all_shut-clause-said : goal.returns-then-all_shut-clause-said
returns-then-all_shut-clause-said g c = record { event = Shut; called = refl; said = c.in_ok-put-in-None.ensures.said }

pub returns-in_ok-put-in-Some-clause-alone : goal.returns-in_ok-put-in-Some-clause-alone
returns-in_ok-put-in-Some-clause-alone g c =
    let given = c.args.given.now in let f = c.args.front.now in let kept = c.args.kept.now in
    accepted_alone g.J.Job.gives g.X.Sent.gives given f kept c.accept.new.self c.all_shut-all_shut.new.self c.take.new.self c.args.b _ _ _ c.admit.result c.in_ok-put-in-Some.put
    (learns_alone g.J.Job.gives g.X.Sent.gives given f kept c.args.intake.now c.all_shut-all_shut.new.self c.requires.alone c.requires.open c.all_shut-all_shut.ensures.more)
    c.requires.open c.in-Some.ensures.taken c.admit.ensures c.in_ok-put-in-Some.ensures.run c.in_ok-put-in-Some.ensures.accepted

pub returns-in_ok-put-in-Some-clause-said : goal.returns-in_ok-put-in-Some-clause-said
returns-in_ok-put-in-Some-clause-said g c =
    let given = c.args.given.now in
    record {
      event = Accept c.args.b c.in-Some.sender;
      called = refl;
      said = accepted_said g.J.Job.gives g.X.Sent.gives given c.args.front.now c.args.b c.in-Some.sender c.admit.result c.args.kept.now c.accept.new.self c.in_ok-put-in-Some.put c.in_ok-put-in-Some.ensures.accepted;
    }

pub returns-else-all_shut-clause-alone : goal.returns-else-all_shut-clause-alone
returns-else-all_shut-clause-alone g c =
    subst (λ j. IsAlone g.J.Job.gives g.X.Sent.gives c.args.given.now c.args.kept.now c.args.front.now j) (sym c.in-None.ensures.same)
    (learns_alone g.J.Job.gives g.X.Sent.gives c.args.given.now c.args.front.now c.args.kept.now c.args.intake.now c.all_shut-all_shut.new.self c.requires.alone c.requires.open
    c.all_shut-all_shut.ensures.more)
