use Rattle.gcd_jobs.specs.Contents.{contents}
use Rattle.gcd_workers.proofs.Jobs.{job_is, jobs_push}
use Rattle.gcd_workers.proofs.works.file_jobs.Goals as goal

pub loop-number-preserved : goal.loop-number-preserved
loop-number-preserved c =
    let plan = c.args.plan.now in
    let files = contents c.args.files.now in
    let b = c.loop-number.number in
    rw c.in_ok-push.ensures.items
    (jobs_push plan files b c.loop-number.jobs.items c.new.result (job_is plan files b c.work.result c.new.result c.work.ensures c.new.ensures) c.loop-number.invariant)
