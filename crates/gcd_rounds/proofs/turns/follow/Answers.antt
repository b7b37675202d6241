use Rattle.std.proofs.Common.{◌++◌, ◌∷◌, [], refl}
use Rattle.gcd_history.specs.Choice.{worker_of}
use Rattle.gcd_jobs.proofs.ValuesMore.{end_fits}
use Rattle.gcd_rounds.specs.Kept.{endings_of}
use Rattle.gcd_rounds.proofs.EndsKept.{before_are_others}
use Rattle.gcd_rounds.proofs.Ready.{before_kept, job_waits, jobs_kept, ready_kept}
use Rattle.gcd_loop.proofs.Steps.{grows_one}
use Rattle.gcd_rounds.proofs.Zips.{before_more}
use Rattle.gcd_rounds.proofs.turns.follow.Goals as goal

pub end_with_work-requires : goal.end_with_work-requires
end_with_work-requires g c = rw c.requires.run.own (end_fits c.args.plan.now c.args.run.now.journal.items c.args.e c.requires.next.permitted)

pub keep-requires : goal.keep-requires
keep-requires g c =
    let plan = c.args.plan.now in
    let h = c.args.run.now.journal.items in
    let waits = job_waits g.J.Job.gives g.H.Handler.kind g.H.Handler.times g.H.Handler.total plan c.args.run.now
    c.in-Some.ending (endings_of c.args.kept.now.items)
    (rw c.in-Some.ensures.end at c.requires.next) c.requires.run (c.in-Some.ensures.works plan h c.requires.run.stands)
    c.requires.ready (rw c.in-Some.ensures.end at c.requires.before) in
    record { job = waits.job; at = waits.at }

pub returns-in-Some-clause-ready : goal.returns-in-Some-clause-ready
returns-in-Some-clause-ready g c =
    let plan = c.args.plan.now in
    let h = c.args.run.now.journal.items in
    ready_kept g.J.Job.gives g.H.Handler.kind g.H.Handler.times g.H.Handler.total plan c.args.run.now c.keep.new.jobs
    c.in-Some.ending c.args.kept.now.items c.keep.new.kept.items c.in_ok-keep.ensures
    (rw c.in-Some.ensures.end at c.requires.next) c.requires.run (c.in-Some.ensures.works plan h c.requires.run.stands)
    c.requires.ready (rw c.in-Some.ensures.end at c.requires.before)

pub returns-in-Some-clause-jobs : goal.returns-in-Some-clause-jobs
returns-in-Some-clause-jobs g c =
    let plan = c.args.plan.now in
    let h = c.args.run.now.journal.items in
    jobs_kept g.J.Job.gives g.H.Handler.kind g.H.Handler.times g.H.Handler.total plan c.args.run.now c.keep.new.jobs
    c.in-Some.ending c.args.kept.now.items c.keep.new.kept.items c.in_ok-keep.ensures
    (rw c.in-Some.ensures.end at c.requires.next) c.requires.run (c.in-Some.ensures.works plan h c.requires.run.stands)
    c.requires.ready (rw c.in-Some.ensures.end at c.requires.before) c.requires.jobs

pub returns-in-Some-clause-before : goal.returns-in-Some-clause-before
returns-in-Some-clause-before g c =
    rw c.in-Some.ensures.end
    (before_kept g.J.Job.gives g.H.Handler.kind g.H.Handler.times g.H.Handler.total c.args.plan.now c.args.run.now.jobs.items c.keep.new.jobs.items
    c.in-Some.ending c.args.kept.now.items c.keep.new.kept.items c.in_ok-keep.ensures
    (rw c.in-Some.ensures.end at c.requires.before))

pub returns : goal.returns
returns g c =
    let plan = c.args.plan.now in
    let h = c.args.run.now.journal.items in
    let e = c.args.e in
    let next = c.requires.next in
    let ends = endings_of c.args.kept.now.items in
    record {
      terms = c.record.ensures.terms;
      run = c.in_ok-record.ensures.run;
      ready = c.in_ok-record.ensures.ready ends (c.in_default.ensures.none plan h c.requires.run.stands) (before_are_others (worker_of e) ends c.requires.before) c.requires.ready;
      jobs = rw c.record.ensures.terms c.requires.jobs;
      before = before_more (worker_of e) ends c.requires.before;
      going = λ is. refl;
      stopped = λ is. cc;
      grows = rw c.in_ok-record.ensures.journal (grows_one h (h ++ e ∷ []) e refl c.requires.work);
    }
