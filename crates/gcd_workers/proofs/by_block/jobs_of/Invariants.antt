use Rattle.std.proofs.Common.{◌≡◌, length}
use Rattle.gcd_workers.specs.JobsOf.{AreMadeBy}
use Rattle.gcd_workers.proofs.by_block.jobs_of.Given as goal

abbrev pub invariant-loop-number : goal.invariant-loop-number
invariant-loop-number g l = record {
  count : length l.jobs.items ≡ l.number;
  made : AreMadeBy (λ b job. g.F.Fn.post l.job_of (b, tt) job) l.jobs.items;
}
