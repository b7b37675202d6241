use Rattle.std.proofs.Common.{rules, arith}
use Rattle.gcd_row.proofs.Keeping.{stores}
use Rattle.gcd_row.proofs.board.RowBoard.store.Goals as goal

pub store-requires : goal.store-requires
store-requires g c = (search rules, omega (arith, c.args.self.now.sized, c.requires.may.number, c.requires.place), stores _ _ c.args.self.now.table.shared.key _ _ _ _ _ c.requires.may (omega (arith, c.requires.place)) c.requires.grows)
