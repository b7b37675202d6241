use Rattle.std.proofs.Common.{ap, ◌∙◌}
use Rattle.gcd_row.specs.Passes.{view}
use Rattle.gcd_workers.proofs.Wholes.{gathered_same, seen_whole}
use Rattle.gcd_workers.proofs.gather.take_in.Goals as goal

pub returns-clause-worker : goal.returns-clause-worker
returns-clause-worker g c = ap (λ v. v.worker) c.join.ensures.view.is ∙ c.requires.worker

pub returns-clause-seen : goal.returns-clause-seen
returns-clause-seen g c = seen_whole g.S.Slot.shape g.S.Slot.gives c.args.board.now (view c.args.pass.now) c.join.new.pass c.join.ensures.pass c.requires.worker c.requires.ended c.join.ensures.view.mine

pub returns-clause-gathered : goal.returns-clause-gathered
returns-clause-gathered g c = λ journal is.
    let v = view c.args.pass.now in
    let p = c.join.new.pass in
    let seen = seen_whole g.S.Slot.shape g.S.Slot.gives c.args.board.now v p c.join.ensures.pass c.requires.worker c.requires.ended c.join.ensures.view.mine in
    gathered_same v (view p) journal seen (ap (λ w. w.marks.passed) c.join.ensures.view.is) is

pub returns-clause-handed : goal.returns-clause-handed
returns-clause-handed g c = ap (λ v. v.handed) c.join.ensures.view.is

pub returns-clause-hands : goal.returns-clause-hands
returns-clause-hands g c = ap (λ v. v.hands) c.join.ensures.view.is
