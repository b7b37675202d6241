use Rattle.std.proofs.Common.{arith}
use Rattle.gcd_row.proofs.Keeping.{asks}
use Rattle.gcd_row.proofs.board.RowBoard.ask.Goals as goal

pub load_word-requires-clause-word : goal.load_word-requires-clause-word
load_word-requires-clause-word g c = omega (arith, c.args.self.now.sized, c.args.self.now.bounds, c.requires.place)

pub load_word-requires-clause-keeps : goal.load_word-requires-clause-keeps
load_word-requires-clause-keeps g c = asks _ _ c.args.self.now.table.shared.key _ _ _ c.args.k _ c.requires.may (omega arith) c.requires.place.0 c.requires.place.1

pub returns-clause-asks : goal.returns-clause-asks
returns-clause-asks g c = c.load_word.ensures.found.1 c.args.k (omega arith)
