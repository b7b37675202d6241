use Rattle.std.proofs.Common.{◌≡◌, ◌-◌, true, vec_len}
use Rattle.gcd_loop.specs.Rushed.{IsRushed}
use Rattle.gcd_machine.specs.Calm.{IsCalm}
use Rattle.gcd_workers.specs.ListRuns.{IsKept}
use Rattle.gcd_workers.proofs.list_run.Kept.rush_to_long.Given as goal

abbrev pub invariant-loop-calm : goal.invariant-loop-calm
invariant-loop-calm l = record {
  run : IsKept l.over l.self;
  rushed : IsRushed l.over.plan.now l.initial.self.journal.items l.self.journal.items;
  calm : l.calm ≡ true → IsCalm l.over.plan.now l.self.journal.items;
}

abbrev pub decreases-loop-calm : goal.decreases-loop-calm
decreases-loop-calm l = l.over.most - vec_len l.self.journal
