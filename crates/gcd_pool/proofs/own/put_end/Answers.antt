use Rattle.std.proofs.Common.{sym, ◌∙◌}
use Rattle.gcd_row.specs.Passes.{slots, view}
use Rattle.gcd_pool.proofs.Puts.{goes_worker, settled_gives}
use Rattle.gcd_pool.proofs.Placing.{recorded_further}
use Rattle.gcd_pool.proofs.Serves.{serves_further}
use Rattle.gcd_pool.proofs.Works.{adds_further, none_then}
use Rattle.gcd_pool.proofs.own.put_end.Goals as goal

pub put_chosen_through-said-requires-clause-cell : goal.put_chosen_through-said-requires-clause-cell
put_chosen_through-said-requires-clause-cell g c = settled_gives g.S.Slot.shape g.S.Slot.gives c.args.pool.now.board.now (view c.args.hand.now.pass) c.args.e (slots c.args.hand.now.pass) c.requires.settled

pub returns-in-Some-clause-work : goal.returns-in-Some-clause-work
returns-in-Some-clause-work g c = (c.in-Some.ensures c.args.pool.now.board.now c.args.hand.now.pass c.args.e c.put_chosen_through-said.ensures.serving.of.pass c.put_chosen_through-said.ensures.said c.requires.worker c.requires.settled).work

pub returns-in-Some-clause-only : goal.returns-in-Some-clause-only
returns-in-Some-clause-only g c = (c.in-Some.ensures c.args.pool.now.board.now c.args.hand.now.pass c.args.e c.put_chosen_through-said.ensures.serving.of.pass c.put_chosen_through-said.ensures.said c.requires.worker c.requires.settled).only

pub returns-in-Some-clause-recorded : goal.returns-in-Some-clause-recorded
returns-in-Some-clause-recorded g c = (c.in-Some.ensures c.args.pool.now.board.now c.args.hand.now.pass c.args.e c.put_chosen_through-said.ensures.serving.of.pass c.put_chosen_through-said.ensures.said c.requires.worker c.requires.settled).recorded

pub returns-in-Some-clause-after : goal.returns-in-Some-clause-after
returns-in-Some-clause-after g c = (c.in-Some.ensures c.args.pool.now.board.now c.args.hand.now.pass c.args.e c.put_chosen_through-said.ensures.serving.of.pass c.put_chosen_through-said.ensures.said c.requires.worker c.requires.settled).says

pub retry_end-requires-clause-worker : goal.retry_end-requires-clause-worker
retry_end-requires-clause-worker g c = c.requires.worker ∙ sym (goes_worker (view c.args.hand.now.pass) (view c.put_chosen_through-said.new.hand.pass) c.put_chosen_through-said.ensures.serving.view)

pub retry_end-requires-clause-settled : goal.retry_end-requires-clause-settled
retry_end-requires-clause-settled g c = (c.in-None.ensures c.args.pool.now.board.now c.args.hand.now.pass c.args.e c.put_chosen_through-said.ensures.serving.of.pass c.put_chosen_through-said.ensures.said c.requires.worker c.requires.settled).says

pub returns-in-None-clause-serving : goal.returns-in-None-clause-serving
returns-in-None-clause-serving g c = serves_further g.S.Slot.shape g.S.Slot.gives c.args.pool.now c.args.hand.now c.put_chosen_through-said.new.hand c.retry_end.new.hand c.put_chosen_through-said.ensures.serving c.retry_end.ensures.serving

pub returns-in-None-clause-work : goal.returns-in-None-clause-work
returns-in-None-clause-work g c =
    adds_further (view c.args.hand.now.pass) (view c.put_chosen_through-said.new.hand.pass) (view c.retry_end.new.hand.pass)
    (c.in-None.ensures c.args.pool.now.board.now c.args.hand.now.pass c.args.e c.put_chosen_through-said.ensures.serving.of.pass c.put_chosen_through-said.ensures.said c.requires.worker c.requires.settled).work c.retry_end.ensures.work

pub returns-in-None-clause-only : goal.returns-in-None-clause-only
returns-in-None-clause-only g c =
    let came = c.in-None.ensures c.args.pool.now.board.now c.args.hand.now.pass c.args.e c.put_chosen_through-said.ensures.serving.of.pass c.put_chosen_through-said.ensures.said c.requires.worker c.requires.settled in
    none_then c.args.e (view c.args.hand.now.pass) (view c.put_chosen_through-said.new.hand.pass) (view c.retry_end.new.hand.pass) (goes_worker (view c.args.hand.now.pass) (view c.put_chosen_through-said.new.hand.pass) c.put_chosen_through-said.ensures.serving.view)
    c.retry_end.ensures.serving.view.more came.only c.retry_end.ensures.only

pub returns-in-None-clause-recorded : goal.returns-in-None-clause-recorded
returns-in-None-clause-recorded g c =
    let came = c.in-None.ensures c.args.pool.now.board.now c.args.hand.now.pass c.args.e c.put_chosen_through-said.ensures.serving.of.pass c.put_chosen_through-said.ensures.said c.requires.worker c.requires.settled in
    recorded_further c.args.e c.retry_end.result (view c.args.hand.now.pass) (view c.put_chosen_through-said.new.hand.pass) (view c.retry_end.new.hand.pass) came.goes came.recorded c.retry_end.ensures.recorded
