use Rattle.std.proofs.Common.{rules, arith}
use Rattle.gcd_row.proofs.Keeping.{splits}
use Rattle.gcd_row.proofs.board.RowBoard.cut.Goals as goal

pub split_seat-requires : goal.split_seat-requires
split_seat-requires g c = rw c.requires.picked (search rules, omega (arith, c.args.self.now.sized), splits _ _ c.args.self.now.table.shared.key _ _ _ c.requires.head.0 c.requires.head.1 c.requires.number.0 c.requires.number.1 c.requires.number.2)
