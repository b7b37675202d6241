use Rattle.gcd_outer.specs.Outside.{seen}
use Rattle.gcd_commands.proofs.Ran.{ran_is}
use Rattle.gcd_commands.proofs.engine.run_by.Goals as goal

pub returns-clause-ran : goal.returns-clause-ran
returns-clause-ran g c =
    ran_is c.args.over c.args.workers (seen g.P.Poller.tells g.P.Poller.state c.args.poller.now c.run_workers.new.poller)
    (seen g.C.Clock.tells g.C.Clock.state c.args.clock.now c.run_workers.new.clock) c.in_ok-outcome.outcome c.in_ok-outcome.ensures.ran

pub returns-clause-values : goal.returns-clause-values
returns-clause-values g c = c.in_ok-outcome.ensures.ran.values
