use Rattle.std.proofs.Common.{◌≡◌, length}
use Rattle.gcd_commands.proofs.front_job.front_jobs.Given as goal

abbrev pub invariant-loop-number : goal.invariant-loop-number
invariant-loop-number l = length l.jobs.items ≡ l.number
