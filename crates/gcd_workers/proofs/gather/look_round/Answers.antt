use Rattle.std.proofs.Common.{ap}
use Rattle.gcd_row.specs.Passes.{view}
use Rattle.gcd_workers.proofs.Heads.{has_led, head_knowing}
use Rattle.gcd_workers.proofs.Wholes.{ended_of, gathered_same, seen_whole}
use Rattle.gcd_workers.proofs.gather.look_round.Goals as goal

pub returns-clause-seen : goal.returns-clause-seen
returns-clause-seen g c =
    seen_whole g.S.Slot.shape g.S.Slot.gives c.args.board.now (view c.args.pass.now) c.look.new.pass c.look.ensures.pass c.requires.worker c.requires.ended c.look.ensures.view.sees.ahead

pub returns-clause-handed : goal.returns-clause-handed
returns-clause-handed g c = ap (λ v. v.handed) c.look.ensures.view.sees.is

pub returns-clause-led : goal.returns-clause-led
returns-clause-led g c = λ workers some head.
    let p = c.look.new.pass in
    let same = seen_whole g.S.Slot.shape g.S.Slot.gives c.args.board.now (view c.args.pass.now) p c.look.ensures.pass c.requires.worker c.requires.ended c.look.ensures.view.sees.ahead in
    let ended = ended_of g.S.Slot.shape g.S.Slot.gives c.args.board.now p c.look.ensures.pass (view c.args.pass.now).seen same c.requires.ended in
    has_led workers (view p) some (head_knowing workers workers (view c.args.pass.now) (view p) _ c.look.ensures.view.sees.is head) c.look.ensures.view.sees.fresh ended

pub returns-clause-gathered : goal.returns-clause-gathered
returns-clause-gathered g c = λ journal is.
    let v = view c.args.pass.now in
    let p = c.look.new.pass in
    let seen = seen_whole g.S.Slot.shape g.S.Slot.gives c.args.board.now v p c.look.ensures.pass c.requires.worker c.requires.ended c.look.ensures.view.sees.ahead in
    gathered_same v (view p) journal seen (ap (λ w. w.marks.passed) c.look.ensures.view.sees.is) is
