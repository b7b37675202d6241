use Rattle.std.proofs.Common.{◌∙◌, ap, arith, length, Some}
use Rattle.std.proofs.lemmas.List.{length-map}
use Rattle.gcd_loop.proofs.Follows.{accepts_none_first, follows_none, workers_none}
use Rattle.gcd_rounds.proofs.EndsKept.{none_kept}
use Rattle.gcd_rounds.proofs.Given.{given_first, wait_first}
use Rattle.gcd_rounds.proofs.Taken.{taken_first}
use Rattle.gcd_rounds.proofs.running.Running.new.Goals as goal

pub returns-clause-run : goal.returns-clause-run
returns-clause-run g c =
    let plan = c.args.plan.now in
    let empty = c.new-journal.ensures.items in
    record {
      some = c.requires.workers;
      countable = omega (arith, c.ranges.most);
      own = c.in_ok-machine.ensures.plan;
      stands = rw empty c.in_ok-machine.ensures.stands;
      few = rw empty (omega arith);
      by = rw empty (workers_none c.args.workers);
      chosen = λ one. rw empty (follows_none plan);
      uncalled = rw empty accepts_none_first;
      places = c.in_ok-places.ensures;
      taken = rw empty (taken_first g.H.Handler.kind g.H.Handler.times g.H.Handler.total plan c.args.handlers.items c.requires.handlers);
    }

pub returns-clause-ready : goal.returns-clause-ready
returns-clause-ready g c =
    let plan = c.args.plan.now in
    let empty = c.new-journal.ensures.items in
    let zeros = c.in_ok-values.ensures.items_if_clones_equal (λ y is. is) in
    let jobs = c.in_ok-jobs.ensures in
    record {
      given = rw (empty, zeros, c.blocks-2.ensures.count) (given_first g.J.Job.gives plan c.of.result.value.items);
      count = ap length jobs ∙ length-map c.args.jobs.items Some ∙ c.requires.jobs;
      wait = rw (empty, jobs, c.of.ensures) (wait_first c.args.most plan c.args.jobs.items c.requires.jobs);
      kept = none_kept plan c.args.workers c.new-journal.result.items;
    }
