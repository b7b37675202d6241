use Rattle.std.proofs.Common.{◌≡◌}
use Rattle.gcd_turn.specs.Asked.{KeepsListens}
use Rattle.gcd_turn.specs.Outsides.{IsSame, faced}
use Rattle.gcd_loop.specs.Going.{GoesOn}
use Rattle.gcd_rounds.specs.Running.{AtTurn, bounds_of}
use Rattle.gcd_rounds.proofs.rounds.go_round.Given as goal

abbrev pub invariant-loop : goal.invariant-loop
invariant-loop g l = record {
  terms : l.round.run.terms ≡ l.initial.round.run.terms;
  plan : l.round.plan.now ≡ l.initial.round.plan.now;
  ready : AtTurn g.J.Job.gives g.H.Handler.kind g.H.Handler.times g.H.Handler.total l.round;
  same : IsSame l.initial.outside l.outside;
  listens : KeepsListens g.P.Poller.tells (g.P.Poller.state l.initial.outside.poller.now) (g.P.Poller.state l.outside.poller.now);
  going : GoesOn (bounds_of l.initial.round) l.initial.round.run.journal.items l.round.run.journal.items
      (faced g.P.Poller.tells g.C.Clock.tells g.P.Poller.state g.C.Clock.state l.initial.outside l.outside);
}
