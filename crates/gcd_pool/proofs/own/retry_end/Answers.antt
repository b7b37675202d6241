use Rattle.std.proofs.Common.{sym, ◌∙◌}
use Rattle.gcd_row.specs.Passes.{slots, view}
use Rattle.gcd_pool.proofs.Puts.{goes_worker, settled_gives}
use Rattle.gcd_pool.proofs.Placing.{quiet_further, recorded_further}
use Rattle.gcd_pool.proofs.Serves.{serves_further}
use Rattle.gcd_pool.proofs.Works.{adds_further, none_further, none_then}
use Rattle.gcd_pool.proofs.own.retry_end.Goals as goal

pub put_through-said-requires-clause-worker : goal.put_through-said-requires-clause-worker
put_through-said-requires-clause-worker g c = c.requires.worker ∙ sym (goes_worker (view c.args.hand.now.pass) (view c.loop.hand.pass) c.loop.invariant.serving.view)

pub put_through-said-requires-clause-cell : goal.put_through-said-requires-clause-cell
put_through-said-requires-clause-cell g c = settled_gives g.S.Slot.shape g.S.Slot.gives c.args.pool.now.board.now (view c.loop.hand.pass) c.args.e (slots c.loop.hand.pass) c.loop.invariant.settled

pub returns-in-Some-end_said-clause-serving : goal.returns-in-Some-end_said-clause-serving
returns-in-Some-end_said-clause-serving g c = serves_further g.S.Slot.shape g.S.Slot.gives c.args.pool.now c.args.hand.now c.loop.hand c.put_through-said.new.hand c.loop.invariant.serving c.put_through-said.ensures.serving

pub returns-in-Some-end_said-clause-work : goal.returns-in-Some-end_said-clause-work
returns-in-Some-end_said-clause-work g c =
    let came = c.in-Some-end_said.ensures c.args.pool.now.board.now c.loop.hand.pass c.args.e c.put_through-said.ensures.serving.of.pass c.put_through-said.ensures.said
    (c.requires.worker ∙ sym (goes_worker (view c.args.hand.now.pass) (view c.loop.hand.pass) c.loop.invariant.serving.view)) c.loop.invariant.settled in
    adds_further (view c.args.hand.now.pass) (view c.loop.hand.pass) (view c.put_through-said.new.hand.pass) c.loop.invariant.work came.work

pub returns-in-Some-end_said-clause-only : goal.returns-in-Some-end_said-clause-only
returns-in-Some-end_said-clause-only g c =
    let came = c.in-Some-end_said.ensures c.args.pool.now.board.now c.loop.hand.pass c.args.e c.put_through-said.ensures.serving.of.pass c.put_through-said.ensures.said
    (c.requires.worker ∙ sym (goes_worker (view c.args.hand.now.pass) (view c.loop.hand.pass) c.loop.invariant.serving.view)) c.loop.invariant.settled in
    none_then c.args.e (view c.args.hand.now.pass) (view c.loop.hand.pass) (view c.put_through-said.new.hand.pass) (goes_worker (view c.args.hand.now.pass) (view c.loop.hand.pass) c.loop.invariant.serving.view)
    came.goes.more c.loop.invariant.none came.only

pub returns-in-Some-end_said-clause-after : goal.returns-in-Some-end_said-clause-after
returns-in-Some-end_said-clause-after g c =
    let came = c.in-Some-end_said.ensures c.args.pool.now.board.now c.loop.hand.pass c.args.e c.put_through-said.ensures.serving.of.pass c.put_through-said.ensures.said
    (c.requires.worker ∙ sym (goes_worker (view c.args.hand.now.pass) (view c.loop.hand.pass) c.loop.invariant.serving.view)) c.loop.invariant.settled in
    came.says

pub returns-in-Some-end_said-clause-recorded : goal.returns-in-Some-end_said-clause-recorded
returns-in-Some-end_said-clause-recorded g c =
    let came = c.in-Some-end_said.ensures c.args.pool.now.board.now c.loop.hand.pass c.args.e c.put_through-said.ensures.serving.of.pass c.put_through-said.ensures.said
    (c.requires.worker ∙ sym (goes_worker (view c.args.hand.now.pass) (view c.loop.hand.pass) c.loop.invariant.serving.view)) c.loop.invariant.settled in
    recorded_further c.args.e _ (view c.args.hand.now.pass) (view c.loop.hand.pass) (view c.put_through-said.new.hand.pass) c.loop.invariant.serving.view c.loop.invariant.quiet came.recorded

pub loop-preserved : goal.loop-preserved
loop-preserved g c =
    let came = c.in_default.ensures c.args.pool.now.board.now c.loop.hand.pass c.args.e c.put_through-said.ensures.serving.of.pass c.put_through-said.ensures.said
    (c.requires.worker ∙ sym (goes_worker (view c.args.hand.now.pass) (view c.loop.hand.pass) c.loop.invariant.serving.view)) c.loop.invariant.settled in
    record {
      serving = serves_further g.S.Slot.shape g.S.Slot.gives c.args.pool.now c.args.hand.now c.loop.hand c.put_through-said.new.hand c.loop.invariant.serving c.put_through-said.ensures.serving;
      bench = c.put_through-said.ensures.bench ∙ c.loop.invariant.bench;
      work = adds_further (view c.args.hand.now.pass) (view c.loop.hand.pass) (view c.put_through-said.new.hand.pass) c.loop.invariant.work came.work;
      none = none_further (view c.args.hand.now.pass) (view c.loop.hand.pass) (view c.put_through-said.new.hand.pass) (goes_worker (view c.args.hand.now.pass) (view c.loop.hand.pass) c.loop.invariant.serving.view)
          came.goes.more c.loop.invariant.none came.only;
      quiet = quiet_further (view c.args.hand.now.pass) (view c.loop.hand.pass) (view c.put_through-said.new.hand.pass) c.loop.invariant.serving.view c.loop.invariant.quiet came.recorded;
      settled = came.says;
    }
