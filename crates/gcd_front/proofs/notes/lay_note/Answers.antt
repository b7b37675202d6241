use Rattle.std.proofs.Common.{rules, arith}
use Rattle.gcd_front.proofs.Noting.{lays}
use Rattle.gcd_front.proofs.notes.lay_note.Goals as goal

pub store-requires : goal.store-requires
store-requires g c = (search rules, omega arith, lays _ _ _ c.args.sender _ c.args.note _ (search rules) (search rules) (search rules) (search rules) (search rules))
