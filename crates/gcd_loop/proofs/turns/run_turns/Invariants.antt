use Rattle.std.specs.Prelude.{◌≡◌}
use Rattle.gcd_turn.specs.Asked.{KeepsListens}
use Rattle.gcd_turn.specs.Outsides.{IsSame, faced}
use Rattle.gcd_loop.specs.Going.{GoesOn}
use Rattle.gcd_loop.proofs.turns.run_turns.Given as goal

abbrev pub invariant-loop : goal.invariant-loop
invariant-loop g l = record {
  ready : g.T.Recorder.ready l.run;
  bounds : g.T.Recorder.bounds l.run ≡ g.T.Recorder.bounds l.initial.run;
  same : IsSame l.initial.outside l.outside;
  kept : (a : g.row.T.Denot) → g.T.Recorder.kept a l.initial.run → g.T.Recorder.kept a l.run;
  listens : KeepsListens g.P.Poller.tells (g.P.Poller.state l.initial.outside.poller.now) (g.P.Poller.state l.outside.poller.now);
  going : GoesOn (g.T.Recorder.bounds l.initial.run) (g.T.Recorder.seen l.initial.run) (g.T.Recorder.seen l.run)
      (faced g.P.Poller.tells g.C.Clock.tells g.P.Poller.state g.C.Clock.state l.initial.outside l.outside);
}
