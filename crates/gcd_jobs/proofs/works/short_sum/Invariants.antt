use Rattle.std.proofs.Common.{◌≡◌, take, sum}
use Rattle.gcd_jobs.proofs.works.short_sum.Given as goal

abbrev pub invariant-loop-c : goal.invariant-loop-c
invariant-loop-c l = l.n ≡ sum (take l.c-index l.bytes)
