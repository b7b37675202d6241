use Rattle.std.proofs.Common.{◌∙◌}
use Rattle.gcd_rounds.proofs.Grown.{grows_through}
use Rattle.gcd_rounds.proofs.turns.take_turns.Goals as goal

pub loop-worker-preserved : goal.loop-worker-preserved
loop-worker-preserved g c =
    let was = c.loop-worker.invariant in
    record {
      terms = c.take_turn.ensures.terms ∙ was.terms;
      run = c.in_ok-take_turn.ensures.run;
      ready = c.in_ok-take_turn.ensures.ready;
      jobs = c.in_ok-take_turn.ensures.jobs;
      before = c.in_ok-take_turn.ensures.before;
      grows = grows_through c.args.run.now.journal.items c.loop-worker.run.journal.items c.take_turn.new.run.journal.items was.grows c.in_ok-take_turn.ensures.grows;
    }
