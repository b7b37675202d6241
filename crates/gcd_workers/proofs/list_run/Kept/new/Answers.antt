use Rattle.std.proofs.Common.{arith}
use Rattle.gcd_jobs.proofs.ValuesMore.{no_values}
use Rattle.gcd_jobs.specs.Contents.{contents}
use Rattle.gcd_loop.proofs.Follows.{accepts_none_first, alone_none, follows_none}
use Rattle.gcd_workers.proofs.list_run.Kept.new.Goals as goal

pub returns-clause-run : goal.returns-clause-run
returns-clause-run c =
    let plan = c.args.over.now.plan.now in
    let empty = c.in_ok-journal.ensures.items in
    let zeros = c.in_ok-values.ensures.items_if_clones_equal (λ y is. is) in
    record {
      countable = omega arith;
      own = c.in_ok-machine.ensures.plan;
      stands = rw empty c.in_ok-machine.ensures.stands;
      few = rw empty (omega arith);
      alone = rw empty alone_none;
      chosen = rw empty (follows_none plan);
      uncalled = rw empty accepts_none_first;
      tallies_are = rw empty c.in_ok-tallies.ensures;
      values = rw (empty, zeros, c.blocks-count.ensures.count) (no_values plan (contents c.args.over.now.files.now));
    }
