use Rattle.gcd_workers.proofs.Senders.{runs_jobs}
use Rattle.gcd_workers.proofs.Unhalted.{never_rises}
use Rattle.gcd_workers.proofs.running_jobs.run_by_team.Goals as goal

pub returns-clause-ran : goal.returns-clause-ran
returns-clause-ran g c =
    runs_jobs g.J.Job.gives _ _ c.args.jobs.items c.args.workers c.in_ok-front.front c.run.new.intake _ _ c.in_ok-ran.ran c.requires.valid
    c.in_ok-some_of_each.ensures c.requires.jobs c.in_ok-front.ensures.senders c.workers_for.ensures.some c.workers_for.ensures.few never_rises c.in_ok-ran.ensures.ran
