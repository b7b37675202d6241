use Rattle.std.proofs.Common.{◌≡◌, drop}
use Rattle.gcd_rounds.specs.Kept.{HaveValues, dones_of}
use Rattle.gcd_loop.specs.Recorded.{Grows}
use Rattle.gcd_rounds.specs.Running.{AreReady, IsRun}
use Rattle.gcd_rounds.proofs.round.end_all.Given as goal

abbrev pub invariant-loop-done : goal.invariant-loop-done
invariant-loop-done g l = record {
  terms : l.run.terms ≡ l.initial.run.terms;
  run : IsRun g.H.Handler.kind g.H.Handler.times g.H.Handler.total l.plan l.run;
  ready : AreReady g.J.Job.gives l.plan l.run (dones_of (drop l.done-index l.dones));
  values : HaveValues g.J.Job.gives l.run.terms.jobs.value.items l.dones;
  grows : Grows l.initial.run.journal.items l.run.journal.items;
}
