use Rattle.std.proofs.Common.{◌∙◌, refl, ap}
use Rattle.gcd_workers.specs.CalledRuns.{nothings}
use Rattle.gcd_workers.proofs.Unhalted.{never_rises}
use Rattle.gcd_workers.proofs.running_callers.run_by_callers.Goals as goal

pub returns-clause-ran : goal.returns-clause-ran
returns-clause-ran g c = record {
  given = _;
  plan_is = refl;
  workers_is = refl;
  most_is = refl;
  jobs_are = c.in_ok-nothings.ensures ∙ ap nothings c.blocks-2.ensures.count;
  outside = _;
  runs = c.in_ok-ran.ensures.ran;
  unhalted = λ has. never_rises (c.in_ok-ran.ensures.ran.runs.run.heard.faults.halts has);
}
