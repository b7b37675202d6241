use Rattle.gcd_row.specs.Passes.{view}
use Rattle.gcd_row.proofs.Onward.{knew_here, turns_on}
use Rattle.gcd_row.proofs.board.RowBoard.turn.Goals as goal

pub returns-in-None-permits-clause-view : goal.returns-in-None-permits-clause-view
returns-in-None-permits-clause-view g c =
    turns_on c.args.e (view c.args.pass.now) (view c.advance.new.pass) (view c.settle.new.pass) c.settle.result (knew_here (view c.args.pass.now) (view c.advance.new.pass) c.in-Some.ensures.view.0) c.settle.ensures.view
