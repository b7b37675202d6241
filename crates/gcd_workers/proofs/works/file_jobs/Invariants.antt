use Rattle.gcd_jobs.specs.Contents.{contents}
use Rattle.gcd_workers.specs.Works.{AreJobs}
use Rattle.gcd_workers.proofs.works.file_jobs.Given as goal

abbrev pub invariant-loop-number : goal.invariant-loop-number
invariant-loop-number l = AreJobs l.plan (contents l.files) l.number l.jobs.items
