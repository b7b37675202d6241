use Rattle.std.proofs.Common.{◌≡◌, ◌≤◌, ◌+◌, drop, false}
use Rattle.gcd_history.specs.Values.{words_begun}
use Rattle.gcd_jobs.proofs.works.words.Given as goal

abbrev pub invariant-loop-c : goal.invariant-loop-c
invariant-loop-c l = record {
  counted : l.begun + words_begun l.inside (drop l.c-index l.bytes) ≡ words_begun false l.bytes;
  few : l.begun ≤ l.c-index;
}
