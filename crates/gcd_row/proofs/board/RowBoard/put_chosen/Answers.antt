use Rattle.std.proofs.Common.{None, Some}
use Rattle.gcd_row.specs.Passes.{slots, view}
use Rattle.gcd_row.proofs.Onward.{says_on, learnt_is, turns_on}
use Rattle.gcd_row.proofs.Passing.{back_stays_on, still_asked}
use Rattle.gcd_row.proofs.board.RowBoard.put_chosen.Goals as goal

pub put-requires-clause-cell : goal.put-requires-clause-cell
put-requires-clause-cell g c = back_stays_on _ _ c.args.self.now c.args.pass.now c.next_cell.new.pass c.args.e c.requires.pass c.in_default.ensures.seen c.next_cell.ensures.slots c.requires.cell

pub returns-in_default-clause-view : goal.returns-in_default-clause-view
returns-in_default-clause-view g c = let l = c.in_default.ensures.seen in says_on c.args.e (view c.args.pass.now) (view c.next_cell.new.pass) (view c.put.new.pass) c.put.result (learnt_is _ _ l) l.ahead l.later c.put.ensures.view

pub put-requires-in-None-clause-cell : goal.put-requires-in-None-clause-cell
put-requires-in-None-clause-cell g c =
    let p = c.args.pass.now in let q = c.next_cell.new.pass in
    let asks = still_asked g.S.Slot.shape (view p) (view q) _ c.args.e (slots p) (slots q) c.in-Some.ensures.known.0 c.next_cell.ensures.slots (c.len-n.ensures (view p).terms.plan (view p).seen c.requires.pass.stands) c.requires.worker c.requires.chosen c.requires.cell in
    back_stays_on _ _ c.args.self.now q c.settle.new.pass c.args.e c.next_cell.ensures.pass c.in-None.ensures.view c.in-None.ensures.slots asks.3

pub returns-in-None-clause-view : goal.returns-in-None-clause-view
returns-in-None-clause-view g c =
    let v = view c.args.pass.now in
    let l = turns_on c.args.e v (view c.next_cell.new.pass) (view c.settle.new.pass) None c.in-Some.ensures.known.0 c.in-None.ensures.view in
    says_on c.args.e v (view c.settle.new.pass) (view c.put-in-None.new.pass) c.put-in-None.result (learnt_is _ _ l) l.ahead l.later c.put-in-None.ensures.view

pub returns-in-Some-settle-clause-view : goal.returns-in-Some-settle-clause-view
returns-in-Some-settle-clause-view g c =
    turns_on c.args.e (view c.args.pass.now) (view c.next_cell.new.pass) (view c.settle.new.pass) (Some c.in-Some-settle.answer) c.in-Some.ensures.known.0 c.in-Some-settle.ensures.view
