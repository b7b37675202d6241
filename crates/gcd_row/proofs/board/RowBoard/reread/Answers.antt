use Rattle.std.proofs.Common.{arith}
use Rattle.gcd_row.proofs.Keeping.{tells_again}
use Rattle.gcd_row.proofs.board.RowBoard.reread.Goals as goal

pub load_word-requires-clause-word : goal.load_word-requires-clause-word
load_word-requires-clause-word g c = omega (arith, c.args.self.now.sized, c.cell_of.ensures)

pub load_word-requires-clause-keeps : goal.load_word-requires-clause-keeps
load_word-requires-clause-keeps g c = tells_again _ _ c.args.self.now.table.shared.key _ _ _ _ c.requires.may

pub returns-clause-word : goal.returns-clause-word
returns-clause-word g c = c.load_word.ensures.found.1 c.args.n c.requires.place.0 c.requires.place.1 c.cell_of.ensures
