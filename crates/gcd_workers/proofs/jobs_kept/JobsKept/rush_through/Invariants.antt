use Rattle.std.proofs.Common.{◌≡◌, ◌-◌, true, length}
use Rattle.gcd_loop.specs.Rushed.{IsRushed}
use Rattle.gcd_machine.specs.Calm.{IsCalm}
use Rattle.gcd_workers.specs.AloneCalls.{Stays}
use Rattle.gcd_workers.specs.JobsKept.{IsJobsKept}
use Rattle.gcd_workers.proofs.jobs_kept.JobsKept.rush_through.Given as goal

abbrev pub invariant-loop-calm : goal.invariant-loop-calm
invariant-loop-calm g l = record {
  run : IsJobsKept g.J.Job.gives l.given l.self;
  rushed : IsRushed l.given.plan.now l.initial.self.journal.items l.self.journal.items;
  calm : l.calm ≡ true → IsCalm l.given.plan.now l.self.journal.items;
  stays : Stays g.J.Job.gives l.initial.self.journal.items l.self.journal.items l.initial.self.states.items l.self.states.items;
}

abbrev pub decreases-loop-calm : goal.decreases-loop-calm
decreases-loop-calm g l = l.given.most - length l.self.journal.items
