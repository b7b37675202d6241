use Rattle.std.proofs.Common.{◌≡◌}
use Rattle.gcd_rounds.specs.Kept.{EndBefore, HaveJobs, endings_of}
use Rattle.gcd_loop.specs.Recorded.{Grows}
use Rattle.gcd_rounds.specs.Running.{AreReady, IsRun}
use Rattle.gcd_rounds.proofs.turns.take_turns.Given as goal

abbrev pub invariant-loop-worker : goal.invariant-loop-worker
invariant-loop-worker g l = record {
  terms : l.run.terms ≡ l.initial.run.terms;
  run : IsRun g.H.Handler.kind g.H.Handler.times g.H.Handler.total l.plan l.run;
  ready : AreReady g.J.Job.gives l.plan l.run (endings_of l.kept.items);
  jobs : HaveJobs l.run.terms.jobs.value.items l.kept.items;
  before : EndBefore l.worker (endings_of l.kept.items);
  grows : Grows l.initial.run.journal.items l.run.journal.items;
}
