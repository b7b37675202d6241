use Rattle.std.proofs.Common.{arith}
use Rattle.gcd_row.proofs.Keeping.{ends}
use Rattle.gcd_row.proofs.board.RowBoard.finish.Goals as goal

pub load_word-requires-clause-word : goal.load_word-requires-clause-word
load_word-requires-clause-word g c = omega (arith, c.args.self.now.sized)

pub load_word-requires-clause-keeps : goal.load_word-requires-clause-keeps
load_word-requires-clause-keeps g c = ends _ _ c.args.self.now.table.shared.key _ _ _ _ c.requires.may c.requires.full
