use Rattle.std.proofs.Common.{arith}
use Rattle.gcd_loop.proofs.Follows.{alone_none, follows_none}
use Rattle.gcd_workers.proofs.States.{own_first, states_first}
use Rattle.gcd_workers.proofs.jobs_kept.JobsKept.new.Goals as goal

pub returns-clause-run : goal.returns-clause-run
returns-clause-run g c =
    let given = c.args.given.now in let plan = given.plan.now in
    let empty = c.in_ok-journal.ensures.items in
    let states = c.in_ok-states.ensures in
    record {
      countable = omega arith;
      own = c.in_ok-machine.ensures.plan;
      stands = rw empty c.in_ok-machine.ensures.stands;
      few = rw empty (omega arith);
      alone = rw empty alone_none;
      chosen = rw empty (follows_none plan);
      states_are = rw (empty, states) (states_first plan c.args.jobs.items c.requires.count);
      own_jobs = rw (states, c.requires.jobs) (own_first g.J.Job.gives plan c.args.jobs.items);
    }
