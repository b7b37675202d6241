use Rattle.std.proofs.Common.{◌∙◌}
use Rattle.gcd_row.specs.Passes.{view}
use Rattle.gcd_row.proofs.Onward.{onward_on, says_on}
use Rattle.gcd_row.proofs.Passing.{back_stays_on}
use Rattle.gcd_row.proofs.board.RowBoard.put.Goals as goal

pub returns-in-Some-clause-view : goal.returns-in-Some-clause-view
returns-in-Some-clause-view g c = let i = c.loop-n.invariant in says_on c.args.e (view c.args.pass.now) (view c.loop-n.pass) (view c.turn.new.pass) c.in-Some.answer i.is_known i.ahead i.later c.in-Some.ensures.view

pub loop-n-preserved : goal.loop-n-preserved
loop-n-preserved g c =
    let i = c.loop-n.invariant in
    let p = c.loop-n.pass in
    let q = c.turn.new.pass in
    let l = c.in_default.ensures.view in
    let o = onward_on (view c.args.pass.now) (view p) (view q) c.loop-n.n i.place i.is_known i.ahead i.later l in
    record { place = o.place; of = c.turn.ensures.pass; same = c.in_default.ensures.slots ∙ i.same; is_known = o.known; ahead = o.ahead; later = o.later; back = back_stays_on _ _ c.args.self.now p q c.args.e i.of l c.in_default.ensures.slots i.back }
