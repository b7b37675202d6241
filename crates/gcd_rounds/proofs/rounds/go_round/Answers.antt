use Rattle.std.proofs.Common.{◌∙◌, subst}
use Rattle.gcd_loop.proofs.Goings.{keeps_through}
use Rattle.gcd_loop.specs.Going.{GoesOn}
use Rattle.gcd_loop.specs.Recorded.{Bounds}
use Rattle.gcd_turn.specs.Outsides.{faced}
use Rattle.gcd_rounds.proofs.Grown.{same_bounds}
use Rattle.gcd_rounds.proofs.rounds.go_round.Goals as goal

pub loop-preserved : goal.loop-preserved
loop-preserved g c =
    let was = c.loop.invariant in
    let pt = g.P.Poller.tells in let ct = g.C.Clock.tells in
    let first = c.args.outside.now in let old = c.loop.outside in let new = c.advance.new.outside in
    let mid = c.loop.round in
    record {
      terms = c.advance.ensures.terms ∙ was.terms;
      plan = c.advance.ensures.plan ∙ was.plan;
      ready = c.in_ok-advance.ensures.ready;
      same = record {
        poller = c.advance.ensures.same.poller ∙ was.same.poller;
        clock = c.advance.ensures.same.clock ∙ was.same.clock;
      };
      listens = keeps_through pt (g.P.Poller.state first.poller.now) (g.P.Poller.state old.poller.now) (g.P.Poller.state new.poller.now) was.listens c.advance.ensures.listens;
      going = λ stood before early going.
          subst (λ (b : Bounds). GoesOn b mid.run.journal.items c.advance.new.round.run.journal.items (faced pt ct g.P.Poller.state g.C.Clock.state old new))
          (same_bounds mid c.args.round.now was.terms was.plan) c.in_ok-advance.ensures.going stood before early (was.going stood before early going);
    }
