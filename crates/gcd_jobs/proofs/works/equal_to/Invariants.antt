use Rattle.std.proofs.Common.{◌≡◌, ◌≤◌, ◌==◌, take, count_by}
use Rattle.gcd_jobs.proofs.works.equal_to.Given as goal

abbrev pub invariant-loop-c : goal.invariant-loop-c
invariant-loop-c l = record {
  counted : l.n ≡ count_by (λ c. c == l.value) (take l.c-index l.bytes);
  few : l.n ≤ l.c-index;
}
