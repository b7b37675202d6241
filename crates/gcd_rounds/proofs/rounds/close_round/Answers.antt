use Rattle.gcd_loop.proofs.Goings.{going_grown}
use Rattle.gcd_loop.proofs.Steps.{sight_kept, sight_lawful}
use Rattle.gcd_rounds.specs.Running.{bounds_of, turn_sight}
use Rattle.gcd_rounds.proofs.Grown.{same_bounds}
use Rattle.gcd_rounds.proofs.rounds.close_round.Goals as goal

pub returns-in_err-idle-clause-terms : goal.returns-in_err-idle-clause-terms
returns-in_err-idle-clause-terms g c = (c.idle.ensures.kept c.args.round.now (c.end_round.ensures.terms, c.end_round.ensures.plan)).0

pub returns-in_ok-idle-clause-terms : goal.returns-in_ok-idle-clause-terms
returns-in_ok-idle-clause-terms g c = (c.idle.ensures.kept c.args.round.now (c.end_round.ensures.terms, c.end_round.ensures.plan)).0

pub returns-in_err-idle-clause-plan : goal.returns-in_err-idle-clause-plan
returns-in_err-idle-clause-plan g c = (c.idle.ensures.kept c.args.round.now (c.end_round.ensures.terms, c.end_round.ensures.plan)).1

pub returns-in_ok-idle-clause-plan : goal.returns-in_ok-idle-clause-plan
returns-in_ok-idle-clause-plan g c = (c.idle.ensures.kept c.args.round.now (c.end_round.ensures.terms, c.end_round.ensures.plan)).1

pub returns-else-not-branch-clause-going : goal.returns-else-not-branch-clause-going
returns-else-not-branch-clause-going g c = λ stood before early going.
    let old = c.args.round.now in let new = c.end_round.new.round in let o = c.args.outside.now in
    let b = bounds_of old in
    let sight = sight_kept b (bounds_of new) new.run.journal.items new.run.machine (same_bounds new old c.end_round.ensures.terms c.end_round.ensures.plan)
    (turn_sight g.J.Job.gives g.H.Handler.kind g.H.Handler.times g.H.Handler.total new c.in_ok-end_round.ensures.ready) in
    going_grown b.most g.P.Poller.tells g.C.Clock.tells b.plan stood before early (g.P.Poller.state o.poller.now) (g.C.Clock.state o.clock.now)
    old.run.journal.items new.run.journal.items o.outlook (sight_lawful b.most b.plan new.run.journal.items new.run.machine sight) sight.few c.in_ok-end_round.ensures.grows going
